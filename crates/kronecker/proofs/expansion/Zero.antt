-- A table that is 0 at every point, with `K`: the answer's record is the empty record (`kronecker-of-zero`), and so is what the search hands up for
-- such a table (`searched-kronecker-of-zero`).
use mathlib.Core.Path.{◌≡◌, refl}
use mathlib.Core.Bool.{Bool, true, false, cond}
use mathlib.Core.List.{List}
use Prim.Native.Nat.{ℕ, ◌^◌, ◌≤◌, ◌<◌}
use Rattle.numbers.specs.Bytes.{at}
use Rattle.numbers.specs.Refusals.{is_table}
use Rattle.numbers.proofs.Tables.{tabulate-zero}
use Rattle.expansions.proofs.Costs.{products-zero}
use Rattle.expansions.proofs.Kronecker.Zero.{no-literals, zero-letters, zero-coefficients}
use Rattle.kronecker.specs.Expansion.{empty_kronecker}
use Rattle.kronecker.specs.Inner.Answer.{answer_kronecker, searched_kronecker}
use Rattle.kronecker.proofs.answer.Searchable.{allowed-table}

pub kronecker-of-zero : (n : ℕ) (f : ℕ → ℕ) → n ≤ 8 → ((p : ℕ) → p < 2 ^ n → f p ≡ 0) → answer_kronecker n f ≡ empty_kronecker
unfolding answer_kronecker empty_kronecker
kronecker-of-zero n f hn zeros =
    rw (zero-coefficients n f hn zeros, zero-letters n f hn zeros, products-zero n, no-literals n (λ i. 0), tabulate-zero 256, tabulate-zero 8)

pub searched-kronecker-of-zero : (n m : ℕ) (table : List ℕ) → ((p : ℕ) → p < 2 ^ n → at table p ≡ 0) → searched_kronecker n m table ≡ empty_kronecker
unfolding searched_kronecker
searched-kronecker-of-zero n m table zeros = go (is_table n m table) refl where
  go : (b : Bool) → is_table n m table ≡ b → cond b (answer_kronecker n (at table)) empty_kronecker ≡ empty_kronecker
  go true e = kronecker-of-zero n (at table) (allowed-table n m table e).1 zeros
  go false e = refl
