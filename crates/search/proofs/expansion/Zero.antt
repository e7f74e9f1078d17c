-- Document 01, "All zero: M = 2^k − 1, i = 0, 0 products": the answer for a table that is 0 at every point is the empty record, for every k
-- (`answer-of-zero`), and so is what the search hands up for such a table (`searched-of-zero`). With no product the lowest member gives the
-- table, and nothing comes before it (`zero-answer`).
use mathlib.Core.Path.{◌≡◌, refl, sym, ◌∙◌, fun_ext}
use mathlib.Core.Bool.{Bool, true, false, cond}
use mathlib.Core.List.{List}
use Prim.Native.Nat.{ℕ, ◌+◌, ◌-◌, ◌^◌, ◌≤◌, ◌<◌, min}
use native.Mathlib.Decide.{dec_lt}
use native.Mathlib.Nat.{add_assoc, add_comm, add-zero}
use native.Mathlib.Omega.{arith}
use lib.Bits.{xor_zero_r}
use lib.Pow.{pow_pos}
use Rattle.numbers.specs.Bytes.{at}
use Rattle.numbers.proofs.Sums.{fold-zero}
use Rattle.numbers.proofs.Tables.{tabulate-zero}
use Rattle.algebra.proofs.Value.{value-zero}
use Rattle.expansions.specs.declared.kinds.Class.{Class}
use Rattle.expansions.specs.declared.families.Family.{Family}
use Rattle.expansions.specs.declared.families.Family.TheVariants.{One, Two}
use Rattle.expansions.specs.Rules.{cost_of, tie_of}
use Rattle.expansions.specs.Costs.{counted, literals}
use Rattle.expansions.specs.Answers.{IsAnswer}
use Rattle.expansions.specs.Inner.Answer.{answer_inverted, answer_mixed, answer_fixed, answer_choice, answer_coefficient}
use Rattle.search.specs.Expansion.{empty_expansion}
use Rattle.search.specs.Inner.Answer.{answer_expansion, searchable, searched}
use Rattle.expansions.proofs.Costs.{products-zero}
use Rattle.expansions.proofs.Least.{then-from}
use Rattle.expansions.proofs.Lowest.{lowest-member, lowest-first}
use Rattle.expansions.proofs.Answers.{answer-choice-zero, answer-coefficient-zero, answer-only}
use Rattle.search.proofs.answer.Searchable.{allowed-sized}

-- ---- no product

literals-zero : (n : ℕ) → literals n (λ t. 0) ≡ 0
unfolding literals counted
literals-zero n = fold-zero ◌+◌ add_assoc add_comm add-zero (2 ^ n)

none-cheaper : (F : Family) (p l : ℕ) → cost_of F 0 0 ≤ cost_of F p l
none-cheaper One p l = omega arith
none-cheaper Two p l = omega arith

none-tied : (F : Family) (p l : ℕ) → tie_of F 0 0 ≤ tie_of F p l
none-tied One p l = omega arith
none-tied Two p l = omega arith

-- ---- the answer

module _ (C : Class) (F : Family) (n k : ℕ) (f : ℕ → ℕ) (hn : n ≤ 8) (hk : k ≤ n) (zeros : (p : ℕ) → p < 2 ^ n → f p ≡ 0) where
  zero-answer : IsAnswer C F n k f 0 (2 ^ k - 1) 0 (λ j. 0) (λ t. 0)
  zero-answer =
      record {
        member = lowest-member C n k hk;
        gives = λ p h. xor_zero_r _ ∙ value-zero n _ p ∙ sym (zeros p h);
        first = λ v M i x c member gives.
            then-from _ _ (rw (products-zero n, literals-zero n) (none-cheaper F _ _))
            (λ e. then-from _ _ (rw (products-zero n, literals-zero n) (none-tied F _ _)) (λ e. then-from 0 v (omega arith) (λ e. lowest-first n k M i x member.pair)));
      }

  zero-only : (0 ≡ answer_inverted C F n k f) × (2 ^ k - 1 ≡ answer_mixed C F n k f) × (0 ≡ answer_fixed C F n k f)
      × ((j : ℕ) → j < 2 ^ (n - k) → 0 ≡ answer_choice C F n k f j) × ((t : ℕ) → t < 2 ^ n → 0 ≡ answer_coefficient C F n k f t)
  zero-only = answer-only C F n k f hn hk (λ p h. rw (zeros p h) (pow_pos 8)) 0 (2 ^ k - 1) 0 (λ j. 0) (λ t. 0) zero-answer

  choices : answer_choice C F n k f ≡ (λ j. 0)
  choices = fun_ext (λ j. go j (dec_lt j (2 ^ (n - k))))
    where
      go : (j : ℕ) → Dec (j < 2 ^ (n - k)) → answer_choice C F n k f j ≡ 0
      go j (yes h) = sym (zero-only.3 j h)
      go j (no h) = answer-choice-zero C F n k f j (omega arith)

  coefficients : answer_coefficient C F n k f ≡ (λ t. 0)
  coefficients = fun_ext (λ t. go t (dec_lt t (2 ^ n)))
    where
      go : (t : ℕ) → Dec (t < 2 ^ n) → answer_coefficient C F n k f t ≡ 0
      go t (yes h) = sym (zero-only.4 t h)
      go t (no h) = answer-coefficient-zero C F n k f t (omega arith)

  pub answer-of-zero : answer_expansion C F n k f ≡ empty_expansion k
  unfolding answer_expansion empty_expansion
  answer-of-zero =
      let small : min k 8 ≡ k = omega arith in
      rw (coefficients, choices, ← zero-only.0, ← zero-only.1, ← zero-only.2, products-zero n, literals-zero n, small, tabulate-zero 256)

-- ---- what the search hands up

pub searched-of-zero : (C : Class) (F : Family) (n m k : ℕ) (table : List ℕ) → ((p : ℕ) → p < 2 ^ n → at table p ≡ 0)
    → searched C F n m k table ≡ empty_expansion k
unfolding searched
searched-of-zero C F n m k table zeros = go (searchable C n m k table) refl
  where
    go : (b : Bool) → searchable C n m k table ≡ b → cond b (answer_expansion C F n k (at table)) (empty_expansion k) ≡ empty_expansion k
    go true e = let sized = allowed-sized C n m k table e in answer-of-zero C F n k (at table) sized.inputs.1 sized.mixed.1 zeros
    go false e = refl
