-- The answer's record: what stands at its places (`kronecker-coefficients`, `kronecker-letters`), the bounds of what it holds, and that it is the
-- answer of document 02's words (`answer_kronecker-is`). Of the table only the points count (`answer_kronecker-ext`).
use mathlib.Core.Path.{◌≡◌, ap, ◌∙◌, fun_ext}
use mathlib.Core.List.{List}
use Prim.Native.Nat.{ℕ, ◌/◌, ◌%◌, ◌^◌, ◌≤◌, ◌<◌}
use native.Mathlib.Nat.{mul-le-mul}
use native.Mathlib.Omega.{arith}
use lib.Dec.{ltb}
use lib.Pow.{pow_mono}
use Rattle.numbers.specs.Bytes.{at, tabulate}
use Rattle.numbers.specs.Tests.{only}
use Rattle.numbers.proofs.Tables.{at-whole}
use Rattle.expansions.specs.Costs.{products}
use Rattle.expansions.specs.Kronecker.Letters.{letters_of}
use Rattle.expansions.specs.Kronecker.Steps.{kronecker_coefficient}
use Rattle.expansions.specs.Kronecker.Costs.{kronecker_literals}
use Rattle.expansions.specs.Inner.KroneckerAnswer.{kind_charge, answer_kind, answer_letters, answer_coefficient}
use Rattle.expansions.proofs.Costs.{products-le}
use Rattle.expansions.proofs.Kronecker.Costs.{kronecker-literals-le}
use Rattle.expansions.proofs.Kronecker.Answers.{answer-coefficient-zero, answer-coefficient-lt, answer-letter-lt, answer-letters-zero}
use Rattle.expansions.proofs.Kronecker.Answers.{answer-products, answer-literals, kronecker-answer-minimal, answer-kind-ext, answer-coefficient-ext}
use Rattle.kronecker.specs.Expansion.{KroneckerAnswered}
use Rattle.kronecker.specs.Inner.Answer.{answer_kronecker}

module _ (n : ℕ) (f : ℕ → ℕ) (hn : n ≤ 8) where
  -- ---- the record's places

  letters-whole : at (tabulate 8 (answer_letters n f)) ≡ answer_letters n f
  letters-whole = at-whole 8 (answer_letters n f) (λ i l. answer-letters-zero n f i (omega arith))

  coefficients-whole : at (tabulate 256 (answer_coefficient n f)) ≡ answer_coefficient n f
  coefficients-whole = at-whole 256 (answer_coefficient n f) (λ t l. answer-coefficient-zero n f t (omega (arith, pow_mono hn)))

  pub kronecker-letters : (i : ℕ) → at (answer_kronecker n f).letters i ≡ answer_letters n f i
  unfolding answer_kronecker
  kronecker-letters i = ap (λ (g : ℕ → ℕ). g i) letters-whole

  pub kronecker-coefficients : (t : ℕ) → at (answer_kronecker n f).coefficients t ≡ answer_coefficient n f t
  unfolding answer_kronecker
  kronecker-coefficients t = ap (λ (g : ℕ → ℕ). g t) coefficients-whole

  -- ---- bounds

  -- "bits m to 7 zero"
  pub kronecker-coefficients-lt : (m : ℕ) → ((p : ℕ) → p < 2 ^ n → f p < 2 ^ m) → (t : ℕ) → at (answer_kronecker n f).coefficients t < 2 ^ m
  kronecker-coefficients-lt m outputs t = rw (kronecker-coefficients t) (answer-coefficient-lt n f m outputs t)

  -- "zero from 2^n on"
  pub kronecker-coefficients-zero : (t : ℕ) → 2 ^ n ≤ t → at (answer_kronecker n f).coefficients t ≡ 0
  kronecker-coefficients-zero t h = kronecker-coefficients t ∙ answer-coefficient-zero n f t h

  pub kronecker-letters-lt : (i : ℕ) → at (answer_kronecker n f).letters i < 3
  kronecker-letters-lt i = rw (kronecker-letters i) (answer-letter-lt n f i)

  pub kronecker-letters-zero : (i : ℕ) → n ≤ i → at (answer_kronecker n f).letters i ≡ 0
  kronecker-letters-zero i h = kronecker-letters i ∙ answer-letters-zero n f i h

  pub answer_kronecker-products-le : (answer_kronecker n f).products ≤ 256
  unfolding answer_kronecker
  answer_kronecker-products-le = omega (arith, products-le n (answer_coefficient n f), pow_mono hn)

  pub answer_kronecker-literals-le : (answer_kronecker n f).literals ≤ 2048
  unfolding answer_kronecker
  answer_kronecker-literals-le = omega (arith, kronecker-literals-le n (answer_letters n f) (answer_coefficient n f), mul-le-mul (pow_mono hn) hn)

  -- ---- it is the answer

  pub answer_kronecker-is : KroneckerAnswered n f (answer_kronecker n f)
  unfolding answer_kronecker
  answer_kronecker-is = rw (letters-whole, coefficients-whole) (kronecker-answer-minimal n f hn)

  -- the record that the code makes: the least charge taken apart, the letters of its kind, and the coefficients by these
  pub answer-record : (charge kind : ℕ) (letters coefficients : List ℕ) → charge ≡ kind_charge n f (answer_kind n f) → kind ≡ answer_kind n f
      → letters ≡ tabulate 8 (letters_of kind)
      → coefficients ≡ tabulate 256 (λ t. only (ltb t (2 ^ n)) (kronecker_coefficient n (at letters) f t))
      → record { coefficients = coefficients; letters = letters; products = charge / 4096; literals = charge % 4096 } ≡ answer_kronecker n f
  unfolding answer_kronecker answer_coefficient
  answer-record charge kind letters coefficients ec ek el e =
      let p : charge / 4096 ≡ products n (answer_coefficient n f) = ap (λ (x : ℕ). x / 4096) ec ∙ answer-products n f hn in
      let l : charge % 4096 ≡ kronecker_literals n (answer_letters n f) (answer_coefficient n f) = ap (λ (x : ℕ). x % 4096) ec ∙ answer-literals n f hn in
      let a : letters ≡ tabulate 8 (answer_letters n f) = el ∙ ap (λ (x : ℕ). tabulate 8 (letters_of x)) ek in
      let whole : at letters ≡ answer_letters n f = ap at a ∙ letters-whole in
      let c : coefficients ≡ tabulate 256 (answer_coefficient n f) =
      e ∙ ap (λ (g : ℕ → ℕ). tabulate 256 (λ t. only (ltb t (2 ^ n)) (kronecker_coefficient n g f t))) whole in
      cc

-- only the table's values at the points count
pub answer_kronecker-ext : (n : ℕ) (f g : ℕ → ℕ) → ((p : ℕ) → p < 2 ^ n → f p ≡ g p) → answer_kronecker n f ≡ answer_kronecker n g
unfolding answer_kronecker
answer_kronecker-ext n f g e = rw (answer-kind-ext n f g e, fun_ext (answer-coefficient-ext n f g e))
