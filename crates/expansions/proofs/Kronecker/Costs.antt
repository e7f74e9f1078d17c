-- What an expansion of a kind costs. Its charge is its products and its literals as one number (`kronecker-charge-parts`), for there are at most
-- 2 ^ n * n literals (`kronecker-literals-le`). It is the charge of the kind's own coefficients, whichever rival it is (`kronecker-charge-rival`).
use mathlib.Core.Path.{◌≡◌, sym, ap, ap₂, ◌∙◌}
use Prim.Native.Nat.{ℕ, ◌+◌, ◌*◌, ◌^◌, ◌≤◌, ◌<◌}
use native.Mathlib.Nat.{mul-le-mul}
use native.Mathlib.Omega.{arith}
use lib.Pow.{pow_mono}
use Rattle.numbers.specs.Bits.{bit}
use Rattle.numbers.proofs.Sums.{fold-ext}
use Rattle.expansions.specs.declared.families.Family.TheVariants.{One}
use Rattle.expansions.specs.Costs.{counted, products}
use Rattle.expansions.specs.Rules.{weight, rule_of}
use Rattle.expansions.proofs.Counted.{counted-le}
use Rattle.expansions.proofs.Costs.{sum-le, sum-weights}
use Rattle.expansions.specs.Kronecker.Letters.{Literal, absent, plain, complemented, literal_of, literal_count, term_literal}
use Rattle.expansions.specs.Kronecker.Letters.{IsKind, KroneckerGives, letters_of, kind_number}
use Rattle.expansions.specs.Kronecker.Steps.{kronecker_coefficient}
use Rattle.expansions.specs.Kronecker.Costs.{term_literals, kronecker_literals, kronecker_charge}
use Rattle.expansions.specs.Inner.KroneckerAnswer.{kind_charge}
use Rattle.expansions.proofs.Kronecker.Letters.{letters-of-kind}
use Rattle.expansions.proofs.Kronecker.Values.{kronecker-value-letters}
use Rattle.expansions.proofs.Kronecker.Steps.{kronecker-coefficient-unique}

-- ---- one term

count-le : (l : Literal) → literal_count l ≤ 1
unfolding literal_count
count-le absent = omega arith
count-le plain = omega arith
count-le complemented = omega arith

pub term-literals-le : (n : ℕ) (letters : ℕ → ℕ) (t : ℕ) → term_literals n letters t ≤ n
unfolding term_literals
term-literals-le n letters t =
    omega (arith, sum-le n 1 (λ i. literal_count (term_literal letters t i)) (λ i l. count-le (term_literal letters t i)))

pub term-literals-ext : (n : ℕ) (a b : ℕ → ℕ) (t : ℕ) → ((i : ℕ) → i < n → a i ≡ b i) → term_literals n a t ≡ term_literals n b t
unfolding term_literals
term-literals-ext n a b t e = fold-ext ◌+◌ n _ _ (λ i l. ap (λ (x : ℕ). literal_count (literal_of x (bit i t))) (e i l))

-- ---- literals

pub kronecker-literals-le : (n : ℕ) (letters c : ℕ → ℕ) → kronecker_literals n letters c ≤ 2 ^ n * n
unfolding kronecker_literals
kronecker-literals-le n letters c =
    sum-le (2 ^ n) n (λ t. counted (c t) (term_literals n letters t))
    (λ t l. counted-le (c t) (term_literals n letters t) n (term-literals-le n letters t))

pub kronecker-literals-lt : (n : ℕ) (letters c : ℕ → ℕ) → n ≤ 8 → kronecker_literals n letters c < 4096
kronecker-literals-lt n letters c h = omega (arith, kronecker-literals-le n letters c, mul-le-mul (pow_mono h) h)

pub kronecker-literals-ext : (n : ℕ) (letters c d : ℕ → ℕ) → ((t : ℕ) → t < 2 ^ n → c t ≡ d t) → kronecker_literals n letters c ≡ kronecker_literals n letters d
unfolding kronecker_literals
kronecker-literals-ext n letters c d e = fold-ext ◌+◌ (2 ^ n) _ _ (λ t l. ap (λ (y : ℕ). counted y (term_literals n letters t)) (e t l))

-- ---- the charge

pub kronecker-charge-parts : (n : ℕ) (letters c : ℕ → ℕ) → kronecker_charge n letters c ≡ products n c * 4096 + kronecker_literals n letters c
unfolding kronecker_charge products kronecker_literals
kronecker-charge-parts n letters c = omega (arith, sum-weights (rule_of One) (2 ^ n) c (term_literals n letters))

pub kronecker-charge-ext : (n : ℕ) (a b c d : ℕ → ℕ) → ((i : ℕ) → i < n → a i ≡ b i) → ((t : ℕ) → t < 2 ^ n → c t ≡ d t)
    → kronecker_charge n a c ≡ kronecker_charge n b d
unfolding kronecker_charge
kronecker-charge-ext n a b c d e f =
    fold-ext ◌+◌ (2 ^ n) _ _ (λ t l. ap₂ (λ (x y : ℕ). counted x (weight (rule_of One) y)) (f t l) (term-literals-ext n a b t e))

-- every expansion of a kind that gives f is charged as the kind's number is
pub kronecker-charge-rival : (n : ℕ) (f b d : ℕ → ℕ) → IsKind n b → KroneckerGives n b d f → kronecker_charge n b d ≡ kind_charge n f (kind_number n b)
unfolding kind_charge
kronecker-charge-rival n f b d kind gives =
    let e : (i : ℕ) → i < n → letters_of (kind_number n b) i ≡ b i = letters-of-kind n b kind in
    kronecker-charge-ext n b (letters_of (kind_number n b)) d (kronecker_coefficient n (letters_of (kind_number n b)) f) (λ i l. sym (e i l))
    (kronecker-coefficient-unique n (letters_of (kind_number n b)) f d (λ p l. kronecker-value-letters n (letters_of (kind_number n b)) b d p e ∙ gives p l))
