-- What the test `is_table` says: the sizes are document 01's, and the bytes are a table of them; and back.
use mathlib.Core.Path.{◌≡◌}
use mathlib.Core.Bool.{true, ◌&&◌}
use mathlib.Core.List.{List}
use Prim.Native.Nat.{ℕ, ◌^◌, ◌<◌}
use borrow.Author.Tests.{eq-eqb, eqb-true}
use lib.Dec.{T, eqb}
use Rattle.std.specs.Prelude.{is_ok}
use lib.ListN.{length}
use lib.Pow.{pow_pos}
use Rattle.numbers.specs.Bytes.{at, all_below}
use Rattle.numbers.specs.Refusals.{table_refusal, is_table, TableSized}
use Rattle.numbers.proofs.Tests.{same_test, both_left, both_right}
use Rattle.numbers.proofs.refusals.Judging.{table_none, table-accepted, ok_passed}
use Rattle.numbers.proofs.refusals.Outputs.{below_at}

-- ---- from the test

module _ (n m : ℕ) (bytes : List ℕ) (e : is_table n m bytes ≡ true) where
  pub table-sized : TableSized n m
  unfolding is_table
  table-sized = table_none n m (ok_passed (table_refusal n m) (both_left _ _ e))

  held : (eqb (length bytes) (2 ^ n) && all_below (2 ^ m) bytes) ≡ true
  unfolding is_table
  held = both_right (is_ok (table_refusal n m)) _ e

  pub table_long : length bytes ≡ 2 ^ n
  table_long = eqb-true (length bytes) (2 ^ n) (both_left _ _ held)

  pub table_below : (p : ℕ) → at bytes p < 2 ^ m
  table_below = below_at (2 ^ m) bytes (pow_pos m) (rw (both_right (eqb (length bytes) (2 ^ n)) _ held) tt)

-- ---- to the test

pub table-from : (n m : ℕ) (bytes : List ℕ) → TableSized n m → length bytes ≡ 2 ^ n → T (all_below (2 ^ m) bytes) → is_table n m bytes ≡ true
unfolding is_table
table-from n m bytes sized long clean =
    rw (table-accepted n m sized, eq-eqb (length bytes) (2 ^ n) long, same_test (all_below (2 ^ m) bytes) true (λ t. tt) (λ t. clean))
