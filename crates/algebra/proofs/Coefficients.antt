-- The coefficients of a table in one polarity: they exist, are the only ones and are inverse to the value (`value-coefficient`,
-- `coefficient-unique`, `coefficient-value`); and what the search cites of them.
use mathlib.Core.Path.{◌≡◌, refl, sym, ap, ◌∙◌}
use Prim.Native.Nat.{ℕ, ◌+◌, ◌/◌, ◌%◌, ◌^◌, ◌≤◌, ◌<◌}
use native.Mathlib.Nat.{mod-eq_of_lt, zero-div}
use lib.Pow.{pow_pos}
use lib.Bits.{bit_xor, xor_lt, xor_shr, xor_mod}
use Rattle.numbers.specs.Bits.{bit}
use Rattle.algebra.specs.Terms.{holds, value}
use Rattle.algebra.specs.Coefficients.{xor_inside, coefficient}
use Rattle.numbers.proofs.Xor.{xor-cancel-r}
use Rattle.algebra.proofs.Inside.{inside-ext, inside-map, inside-closed, inside-twice, inside-smaller, inside-missing}
use Rattle.algebra.proofs.Value.{value-unique}

-- ---- the value in one polarity, and the coefficients, by xor_inside

pub value-inside : (n w : ℕ) (c : ℕ → ℕ) (p : ℕ) → value n (λ t. w) c p ≡ xor_inside n c (bit_xor p w)
unfolding value xor_inside holds
value-inside n w c p = refl

-- ---- existence, uniqueness, inverse

-- the coefficients of f give f
pub value-coefficient : (n w : ℕ) (f : ℕ → ℕ) → w < 2 ^ n → (p : ℕ) → p < 2 ^ n → value n (λ t. w) (coefficient n w f) p ≡ f p
unfolding coefficient
value-coefficient n w f h p l =
    value-inside n w (coefficient n w f) p ∙ inside-twice n (λ q. f (bit_xor q w)) (bit_xor p w) (xor_lt n p w l h) ∙ ap f (xor-cancel-r p w)

-- and are the only ones that do
pub coefficient-unique : (n w : ℕ) (f c : ℕ → ℕ) → w < 2 ^ n → ((p : ℕ) → p < 2 ^ n → value n (λ t. w) c p ≡ f p) → (t : ℕ) → t < 2 ^ n → c t ≡ coefficient n w f t
coefficient-unique n w f c h g = value-unique n (λ t. w) c (coefficient n w f) (λ p l. g p l ∙ sym (value-coefficient n w f h p l))

-- the coefficients of an expansion's values are the expansion's
pub coefficient-value : (n w : ℕ) (c : ℕ → ℕ) (t : ℕ) → t < 2 ^ n → coefficient n w (value n (λ s. w) c) t ≡ c t
unfolding coefficient
coefficient-value n w c t h =
    inside-ext n _ (xor_inside n c) t (λ q l. value-inside n w c (bit_xor q w) ∙ ap (xor_inside n c) (xor-cancel-r q w)) ∙ inside-twice n c t h

-- ---- what the search cites

-- only the points below 2 ^ n count
pub coefficient-ext : (n w : ℕ) (f g : ℕ → ℕ) → w < 2 ^ n → ((p : ℕ) → p < 2 ^ n → f p ≡ g p) → (t : ℕ) → coefficient n w f t ≡ coefficient n w g t
unfolding coefficient
coefficient-ext n w f g h e t = inside-ext n _ _ t (λ q l. e (bit_xor q w) (xor_lt n q w l h))

-- each output by itself
pub coefficient-bit : (o n w : ℕ) (f : ℕ → ℕ) (t : ℕ) → bit o (coefficient n w f t) ≡ coefficient n w (λ q. bit o (f q)) t
unfolding coefficient
coefficient-bit o n w f t =
    inside-map (λ x. bit o x) (ap (λ (x : ℕ). x % 2) (zero-div (2 ^ o))) (λ a b. ap (λ (x : ℕ). x % 2) (xor_shr a b o) ∙ xor_mod (a / 2 ^ o) (b / 2 ^ o) 1) n (λ q. f (bit_xor q w)) t

-- bits m and above stay 0
pub coefficient-lt : (m n w : ℕ) (f : ℕ → ℕ) → w < 2 ^ n → ((p : ℕ) → p < 2 ^ n → f p < 2 ^ m) → (t : ℕ) → coefficient n w f t < 2 ^ m
unfolding coefficient
coefficient-lt m n w f h b t = inside-closed (λ x. x < 2 ^ m) (pow_pos m) (xor_lt m) n (λ q. f (bit_xor q w)) t (λ q l. b (bit_xor q w) (xor_lt n q w l h))

pub value-lt : (m n w : ℕ) (c : ℕ → ℕ) → ((t : ℕ) → t < 2 ^ n → c t < 2 ^ m) → (p : ℕ) → value n (λ t. w) c p < 2 ^ m
value-lt m n w c b p = rw (value-inside n w c p) (inside-closed (λ x. x < 2 ^ m) (pow_pos m) (xor_lt m) n c (bit_xor p w) b)

-- a function of the k lowest of k + m inputs: on the terms of those inputs it has the coefficients of the smaller function
pub coefficient-smaller : (k m w : ℕ) (g : ℕ → ℕ) (t : ℕ) → t < 2 ^ k → coefficient (k + m) w (λ p. g (p % 2 ^ k)) t ≡ coefficient k (w % 2 ^ k) g t
unfolding coefficient
coefficient-smaller k m w g t h =
    inside-smaller k m (λ q. g (bit_xor q w % 2 ^ k)) t h
    ∙ inside-ext k _ _ t (λ q l. ap g (xor_mod q w k ∙ ap (λ (x : ℕ). bit_xor x (w % 2 ^ k)) (mod-eq_of_lt l)))

-- and none on the others
pub coefficient-missing : (k m w : ℕ) (g : ℕ → ℕ) (t : ℕ) → 2 ^ k ≤ t → t < 2 ^ (k + m) → coefficient (k + m) w (λ p. g (p % 2 ^ k)) t ≡ 0
unfolding coefficient
coefficient-missing k m w g t l h =
    inside-ext (k + m) _ _ t (λ q k'. ap g (xor_mod q w k)) ∙ inside-missing k m (λ x. g (bit_xor x (w % 2 ^ k))) t l h
