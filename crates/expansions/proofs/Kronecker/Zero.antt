-- A table that is 0 at every point, with `K`: its answer has no product (`zero-coefficients`) and every letter is `S` (`zero-letters`). With no
-- product every kind gives the table, and "Equal costs go to the letters that come first".
use mathlib.Core.Path.{◌≡◌, sym, ◌∙◌, fun_ext}
use Prim.Native.Nat.{ℕ, zero, suc, ◌+◌, ◌^◌, ◌≤◌, ◌<◌}
use native.Mathlib.Decide.{dec_lt}
use native.Mathlib.Nat.{add_assoc, add_comm, add-zero}
use native.Mathlib.Omega.{arith}
use Rattle.numbers.proofs.Sums.{fold-zero, xor-zero}
use Rattle.numbers.proofs.Tests.{only_zero}
use Rattle.expansions.specs.Costs.{counted}
use Rattle.expansions.specs.Kronecker.Letters.{kronecker_value}
use Rattle.expansions.specs.Kronecker.Costs.{kronecker_literals}
use Rattle.expansions.specs.Kronecker.Answers.{LettersNotAfter, IsKroneckerAnswer}
use Rattle.expansions.specs.Inner.KroneckerAnswer.{answer_letters, answer_coefficient}
use Rattle.expansions.proofs.Costs.{products-zero}
use Rattle.expansions.proofs.Least.{then-from}
use Rattle.expansions.proofs.Kronecker.Answers.{kronecker-answer-only, answer-letters-zero, answer-coefficient-zero}

pub no-literals : (n : ℕ) (letters : ℕ → ℕ) → kronecker_literals n letters (λ t. 0) ≡ 0
unfolding kronecker_literals counted
no-literals n letters = fold-zero ◌+◌ add_assoc add_comm add-zero (2 ^ n)

value-zero : (n : ℕ) (letters : ℕ → ℕ) (p : ℕ) → kronecker_value n letters (λ t. 0) p ≡ 0
unfolding kronecker_value
value-zero n letters p = simp only_zero (xor-zero (2 ^ n))

-- `S` for every input comes before every other kind
letters-first : (n : ℕ) (b : ℕ → ℕ) → LettersNotAfter n (λ i. 0) b
unfolding LettersNotAfter
letters-first zero b = tt
letters-first (suc n) b = then-from 0 (b n) (omega arith) (λ e. letters-first n b)

module _ (n : ℕ) (f : ℕ → ℕ) (hn : n ≤ 8) (zeros : (p : ℕ) → p < 2 ^ n → f p ≡ 0) where
  zero-answer : IsKroneckerAnswer n f (λ i. 0) (λ t. 0)
  zero-answer =
      record {
        kind = λ i h. omega arith;
        gives = λ p h. value-zero n (λ i. 0) p ∙ sym (zeros p h);
        first = λ b d kind gives.
            then-from _ _ (omega (arith, products-zero n)) (λ e. then-from _ _ (omega (arith, no-literals n (λ i. 0))) (λ e. letters-first n b));
      }

  pub zero-letters : answer_letters n f ≡ (λ i. 0)
  zero-letters = fun_ext (λ i. go i (dec_lt i n)) where
    go : (i : ℕ) → Dec (i < n) → answer_letters n f i ≡ 0
    go i (yes h) = sym ((kronecker-answer-only n f (λ i. 0) (λ t. 0) hn zero-answer).1 i h)
    go i (no h) = answer-letters-zero n f i (omega arith)

  pub zero-coefficients : answer_coefficient n f ≡ (λ t. 0)
  zero-coefficients = fun_ext (λ t. go t (dec_lt t (2 ^ n))) where
    go : (t : ℕ) → Dec (t < 2 ^ n) → answer_coefficient n f t ≡ 0
    go t (yes h) = sym ((kronecker-answer-only n f (λ i. 0) (λ t. 0) hn zero-answer).2 t h)
    go t (no h) = answer-coefficient-zero n f t (omega arith)
