-- A table that was read, and searched: the searches hand up its answer (`searched-mixed`, `searched-kind`).
use mathlib.Core.Path.{◌≡◌, ◌∙◌}
use mathlib.Core.Bool.{true}
use mathlib.Core.List.{List}
use Prim.Native.Nat.{ℕ, ◌*◌, ◌%◌, ◌^◌, ◌≤◌, ◌<◌}
use native.Mathlib.Decide.{dec_lt}
use native.Mathlib.Omega.{arith}
use lib.Dec.{T}
use lib.ListN.{length, take, get_or-eq_default}
use lib.Pow.{pow_pos, pow_mono}
use lib.Seq.{length-take-le, get_or-take}
use Rattle.numbers.specs.Bytes.{at, all_below}
use Rattle.numbers.specs.Refusals.{TableSized, Sized}
use Rattle.numbers.proofs.Shifts.{one_shifted}
use Rattle.numbers.proofs.Tests.{same_test}
use Rattle.numbers.proofs.refusals.Outputs.{below-from}
use Rattle.expansions.specs.declared.kinds.Class.{Class}
use Rattle.expansions.specs.declared.families.Family.{Family}
use Rattle.expansions.specs.Classes.{most_mixed}
use Rattle.search.specs.Inner.Answer.{answer_expansion, searched}
use Rattle.search.proofs.expansion.Answer.{answer_expansion-ext}
use Rattle.search.proofs.answer.Searchable.{searched-answer}
use Rattle.kronecker.specs.Inner.Answer.{answer_kronecker, searched_kronecker}
use Rattle.kronecker.proofs.expansion.Answer.{answer_kronecker-ext}
use Rattle.kronecker.proofs.answer.Searchable.{searched-kronecker}
use Rattle.table_texts.specs.Accepted.{Table}

module _ (n m : ℕ) (table : List ℕ) (s : TableSized n m) (t : Table n m table) where
  size-le : 2 ^ n ≤ 256
  size-le = pow_mono s.inputs.1

  -- the part of the table that a search is lent
  pub part-size : 1 * 2 ^ n % 2 ^ 64 ≡ 2 ^ n
  part-size = one_shifted n (omega (arith, s.inputs.1))

  pub part-within : 1 * 2 ^ n % 2 ^ 64 ≤ length table
  part-within = omega (arith, part-size, size-le, t.long)

  part : List ℕ
  part = take (1 * 2 ^ n % 2 ^ 64) table

  part-long : length part ≡ 2 ^ n
  unfolding part
  part-long = length-take-le (1 * 2 ^ n % 2 ^ 64) table part-within ∙ part-size

  part_at : (p : ℕ) → p < 2 ^ n → at part p ≡ at table p
  unfolding part
  part_at p h = get_or-take (1 * 2 ^ n % 2 ^ 64) table p 0 (omega (arith, part-size))

  part-clean : T (all_below (2 ^ m) part)
  part-clean = below-from (2 ^ m) part (λ p. go p (dec_lt p (2 ^ n)))
    where
      go : (p : ℕ) → Dec (p < 2 ^ n) → at part p < 2 ^ m
      go p (yes h) = rw (part_at p h) (t.small p)
      go p (no h) = rw (get_or-eq_default part 0 {n = p} (omega (arith, part-long))) (pow_pos m)

  -- the searches hand up the answer of the whole table
  pub searched-mixed : (C : Class) (F : Family) (k : ℕ) → Sized n m (most_mixed C) k
      → searched C F n m k (take (1 * 2 ^ n % 2 ^ 64) table) ≡ answer_expansion C F n k (at table)
  unfolding part
  searched-mixed C F k z = searched-answer C F n m k part z part-long part-clean ∙ answer_expansion-ext C F n k (at part) (at table) part_at

  pub searched-kind : searched_kronecker n m (take (1 * 2 ^ n % 2 ^ 64) table) ≡ answer_kronecker n (at table)
  unfolding part
  searched-kind = searched-kronecker n m part s part-long (same_test (all_below (2 ^ m) part) true (λ t. tt) (λ t. part-clean)) ∙ answer_kronecker-ext n (at part) (at table) part_at

  -- m outputs, of which there are at most eight, are a byte
  pub table-bytes : (p : ℕ) → p < 2 ^ n → at table p < 2 ^ 8
  table-bytes p h = omega (arith, t.small p, pow_mono {i = m} {j = 8} s.outputs.1)
