-- Where each term has a polarity of its own, a function has coefficients (`expand-gives`), and only these (`expand-unique`). Each output is expanded by
-- itself (`expand-map`), and bits m and above stay 0 (`expand-lt`).
use mathlib.Core.Path.{◌≡◌, refl, sym, ap, ◌∙◌}
use Prim.Native.Nat.{ℕ, zero, suc, ◌+◌, ◌*◌, ◌/◌, ◌%◌, ◌^◌, ◌<◌}
use native.Mathlib.Nat.{zero-div}
use native.Mathlib.Omega.{arith}
use lib.Arith.{lt-one}
use lib.Bits.{bit_xor, xor_zero_r, xor_self, xor_lt, xor_shr, xor_mod}
use lib.Pow.{pow_pos}
use Rattle.numbers.specs.Bits.{bit}
use Rattle.numbers.proofs.Sums.{fold-closed, below_split}
use Rattle.numbers.proofs.Tests.{only-closed}
use Rattle.numbers.proofs.Xor.{xor_assoc, xor-cancel-l}
use Rattle.algebra.specs.Terms.{holds, lowest, value}
use Rattle.algebra.specs.Expand.{with_polarity, without_polarity, difference, remainder, by_digit, expand}
use Rattle.algebra.proofs.Value.{value-map, value_none, value-step, value-pair, value-unique}

-- ---- existence

module _ (n : ℕ) (w f : ℕ → ℕ) where
  -- the coefficients of the terms with the lowest input, and of those without it
  abbrev with_it : ℕ → ℕ
  with_it = expand n (with_polarity w) (difference f)

  abbrev without_it : ℕ → ℕ
  without_it = expand n (without_polarity w) (remainder n w with_it f)

  expand-even : (s : ℕ) → expand (suc n) w f (s * 2) ≡ without_it s
  unfolding expand by_digit
  expand-even s =
      let h : s * 2 / 2 ≡ s = omega arith in
      let l : s * 2 % 2 ≡ 0 = omega arith in
      rw (h, l)

  expand-odd : (s : ℕ) → expand (suc n) w f (s * 2 + 1) ≡ with_it s
  unfolding expand by_digit
  expand-odd s =
      let h : (s * 2 + 1) / 2 ≡ s = omega arith in
      let l : (s * 2 + 1) % 2 ≡ 1 = omega arith in
      rw (h, l)

  module _ (without : (q : ℕ) → q < 2 ^ n → value n (without_polarity w) without_it q ≡ remainder n w with_it f q)
      (with_it_gives : (q : ℕ) → q < 2 ^ n → value n (with_polarity w) with_it q ≡ difference f q) where
    gives-even : (q : ℕ) → q < 2 ^ n → value (suc n) w (expand (suc n) w f) (q * 2) ≡ f (q * 2)
    unfolding remainder
    gives-even q l =
        let h : q * 2 / 2 ≡ q = omega arith in
        value-step n w (expand (suc n) w f) (q * 2)
        ∙ simp (h, expand-even, expand-odd) (rw (without q l, xor_assoc, xor_self) (xor_zero_r (f (q * 2))))

    gives-odd : (q : ℕ) → q < 2 ^ n → value (suc n) w (expand (suc n) w f) (q * 2 + 1) ≡ f (q * 2 + 1)
    gives-odd q l =
        let e : bit_xor (f (q * 2)) (value (suc n) w (expand (suc n) w f) (q * 2 + 1)) ≡ difference f q =
        ap (λ (x : ℕ). bit_xor x (value (suc n) w (expand (suc n) w f) (q * 2 + 1))) (sym (gives-even q l))
        ∙ value-pair n w (expand (suc n) w f) q ∙ simp expand-odd (with_it_gives q l) in
        sym (xor-cancel-l (f (q * 2)) _) ∙ ap (bit_xor (f (q * 2))) e ∙ xor-cancel-l (f (q * 2)) (f (q * 2 + 1))

expand-none : (w f : ℕ → ℕ) (t : ℕ) → expand 0 w f t ≡ f 0
unfolding expand
expand-none w f t = refl

-- the coefficients give the function
pub expand-gives : (n : ℕ) (w f : ℕ → ℕ) (p : ℕ) → p < 2 ^ n → value n w (expand n w f) p ≡ f p
expand-gives zero w f = λ p h. rw (lt-one h) (value_none w (expand 0 w f) 0 ∙ expand-none w f 0)
expand-gives (suc n) w f =
    let without = expand-gives n (without_polarity w) (remainder n w (with_it n w f) f) in
    let with_it_gives = expand-gives n (with_polarity w) (difference f) in
    below_split n (λ p. value (suc n) w (expand (suc n) w f) p ≡ f p) (gives-even n w f without with_it_gives) (gives-odd n w f without with_it_gives)

-- and no others do
pub expand-unique : (n : ℕ) (w f c : ℕ → ℕ) → ((p : ℕ) → p < 2 ^ n → value n w c p ≡ f p) → (t : ℕ) → t < 2 ^ n → c t ≡ expand n w f t
expand-unique n w f c g = value-unique n w c (expand n w f) (λ p l. g p l ∙ sym (expand-gives n w f p l))

-- only the points below 2 ^ n count
pub expand-ext : (n : ℕ) (w f g : ℕ → ℕ) → ((p : ℕ) → p < 2 ^ n → f p ≡ g p) → (t : ℕ) → t < 2 ^ n → expand n w f t ≡ expand n w g t
expand-ext n w f g e = expand-unique n w g (expand n w f) (λ p l. expand-gives n w f p l ∙ e p l)

-- a map that passes through the exclusive OR, as taking one output
pub expand-map : (h : ℕ → ℕ) → h 0 ≡ 0 → ((a b : ℕ) → h (bit_xor a b) ≡ bit_xor (h a) (h b))
    → (n : ℕ) (w f : ℕ → ℕ) (t : ℕ) → t < 2 ^ n → h (expand n w f t) ≡ expand n w (λ p. h (f p)) t
expand-map h z x n w f =
    expand-unique n w (λ p. h (f p)) (λ t. h (expand n w f t)) (λ p l. sym (value-map h z x n w (expand n w f) p) ∙ ap h (expand-gives n w f p l))

-- each output by itself
pub expand-bit : (o n : ℕ) (w f : ℕ → ℕ) (t : ℕ) → t < 2 ^ n → bit o (expand n w f t) ≡ expand n w (λ p. bit o (f p)) t
expand-bit o = expand-map (bit o) (ap (λ (x : ℕ). x % 2) (zero-div (2 ^ o))) (λ a b. ap (λ (x : ℕ). x % 2) (xor_shr a b o) ∙ xor_mod (a / 2 ^ o) (b / 2 ^ o) 1)

-- ---- bits m and above stay 0

value-below : (m n : ℕ) (w c : ℕ → ℕ) (p : ℕ) → ((t : ℕ) → t < 2 ^ n → c t < 2 ^ m) → value n w c p < 2 ^ m
unfolding value
value-below m n w c p b =
    fold-closed bit_xor (λ x. x < 2 ^ m) (pow_pos m) (xor_lt m) (2 ^ n) _ (λ t l. only-closed (λ x. x < 2 ^ m) (pow_pos m) (holds t (w t) p) (c t) (b t l))

remainder-lt : (m n : ℕ) (w c f : ℕ → ℕ) → ((p : ℕ) → p < 2 ^ suc n → f p < 2 ^ m) → ((t : ℕ) → t < 2 ^ n → c t < 2 ^ m)
    → (q : ℕ) → q < 2 ^ n → remainder n w c f q < 2 ^ m
unfolding remainder
remainder-lt m n w c f b low q l =
    xor_lt m (f (q * 2)) _ (b (q * 2) (omega arith))
    (value-below m n (with_polarity w) _ q (λ s h. only-closed (λ x. x < 2 ^ m) (pow_pos m) (lowest (w (s * 2 + 1)) (q * 2)) (c s) (low s h)))

pub expand-lt : (m n : ℕ) (w f : ℕ → ℕ) → ((p : ℕ) → p < 2 ^ n → f p < 2 ^ m) → (t : ℕ) → t < 2 ^ n → expand n w f t < 2 ^ m
expand-lt m zero w f b = λ t l. rw (expand-none w f t) (b 0 (pow_pos 0))
expand-lt m (suc n) w f b =
    let low : (t : ℕ) → t < 2 ^ n → with_it n w f t < 2 ^ m =
    expand-lt m n (with_polarity w) (difference f) (λ q l. xor_lt m (f (q * 2)) (f (q * 2 + 1)) (b (q * 2) (omega arith)) (b (q * 2 + 1) (omega arith))) in
    let rest : (t : ℕ) → t < 2 ^ n → without_it n w f t < 2 ^ m =
    expand-lt m n (without_polarity w) (remainder n w (with_it n w f) f) (remainder-lt m n w (with_it n w f) f b low) in
    below_split n (λ t. expand (suc n) w f t < 2 ^ m) (λ s l. rw (expand-even n w f s) (rest s l)) (λ s l. rw (expand-odd n w f s) (low s l))
