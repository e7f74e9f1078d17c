-- The value of an expansion: linear in its coefficients, by the lowest input and the rest, and unique for every assignment of polarities
-- to terms (`value-unique`).
use mathlib.Core.Path.{◌≡◌, refl, sym, ap, ap₂, ◌∙◌}
use mathlib.Core.Bool.{Bool}
use Prim.Native.Nat.{ℕ, zero, suc, ◌+◌, ◌*◌, ◌/◌, ◌^◌, ◌<◌}
use native.Mathlib.Decide.{ℕ_discrete}
use native.Mathlib.Omega.{arith}
use lib.Bits.{bit_and, bit_xor, xor_zero_r, xor_self}
use lib.Arith.{lt-one}
use lib.Dec.{lit<}
use Rattle.numbers.specs.Sums.{fold_below}
use Rattle.numbers.specs.Bits.{inside}
use Rattle.algebra.specs.Terms.{holds, lowest, value}
use Rattle.numbers.specs.Tests.{only}
use Rattle.numbers.proofs.Xor.{xor-eq}
use Rattle.numbers.proofs.Sums.{fold-ext, xor-swap, xor-zero, xor-op, xor-split, xor-only-map, below_split}
use Rattle.algebra.proofs.Terms.{holds-even, holds-odd, holds-shown, lowest-once}
use Rattle.numbers.proofs.Tests.{only-and-r, only-xor, only_zero}

-- only the coefficients below 2 ^ n count
pub value-ext : (n : ℕ) (pol c d : ℕ → ℕ) (p : ℕ) → ((t : ℕ) → t < 2 ^ n → c t ≡ d t) → value n pol c p ≡ value n pol d p
unfolding value
value-ext n pol c d p e = fold-ext bit_xor (2 ^ n) _ _ (λ t l. ap (only (holds t (pol t) p)) (e t l))

-- and of a polarity only the bits at a term that has one
pub value-shown : (n : ℕ) (w w' c : ℕ → ℕ) → ((t : ℕ) → t < 2 ^ n → (c t ≡ 0 → ⊥) → bit_and t (w t) ≡ bit_and t (w' t))
    → (p : ℕ) → value n w c p ≡ value n w' c p
unfolding value
value-shown n w w' c e p = fold-ext bit_xor (2 ^ n) _ _ (λ t h. go t h (ℕ_discrete (c t) 0)) where
  go : (t : ℕ) → t < 2 ^ n → Dec (c t ≡ 0) → only (holds t (w t) p) (c t) ≡ only (holds t (w' t) p) (c t)
  go t h (yes z) = rw z (only_zero (holds t (w t) p) ∙ sym (only_zero (holds t (w' t) p)))
  go t h (no z) = ap (λ (b : Bool). only b (c t)) (holds-shown t (w t) (w' t) p (e t h z))

pub value-xor : (n : ℕ) (pol c d : ℕ → ℕ) (p : ℕ) → value n pol (λ t. bit_xor (c t) (d t)) p ≡ bit_xor (value n pol c p) (value n pol d p)
unfolding value
value-xor n pol c d p = simp only-xor (xor-op (2 ^ n) _ _)

pub value-zero : (n : ℕ) (pol : ℕ → ℕ) (p : ℕ) → value n pol (λ t. 0) p ≡ 0
unfolding value
value-zero n pol p = simp only_zero (xor-zero (2 ^ n))

-- a map that passes through the exclusive OR, as taking some of the outputs
pub value-map : (h : ℕ → ℕ) → h 0 ≡ 0 → ((a b : ℕ) → h (bit_xor a b) ≡ bit_xor (h a) (h b))
    → (n : ℕ) (pol c : ℕ → ℕ) (p : ℕ) → h (value n pol c p) ≡ value n pol (λ t. h (c t)) p
unfolding value
value-map h z x n pol c p = xor-only-map h z x (2 ^ n) (λ t. holds t (pol t) p) c

-- with no input there is one term, the constant
pub value_none : (pol c : ℕ → ℕ) (p : ℕ) → value 0 pol c p ≡ c 0
unfolding value fold_below only holds inside
value_none pol c p = refl

-- the terms without the lowest input, and those with it
pub value-step : (n : ℕ) (pol c : ℕ → ℕ) (p : ℕ) → value (suc n) pol c p
    ≡ bit_xor (value n (λ s. pol (s * 2) / 2) (λ s. c (s * 2)) (p / 2))
    (value n (λ s. pol (s * 2 + 1) / 2) (λ s. only (lowest (pol (s * 2 + 1)) p) (c (s * 2 + 1))) (p / 2))
unfolding value
value-step n pol c p = xor-split n _ ∙ simp (holds-even, holds-odd, only-and-r)

-- the terms with the lowest input are what the two points that differ in it only differ by
pub value-pair : (n : ℕ) (pol c : ℕ → ℕ) (q : ℕ)
    → bit_xor (value (suc n) pol c (q * 2)) (value (suc n) pol c (q * 2 + 1)) ≡ value n (λ s. pol (s * 2 + 1) / 2) (λ s. c (s * 2 + 1)) q
value-pair n pol c q =
    let h : q * 2 / 2 ≡ q = omega arith in
    let h' : (q * 2 + 1) / 2 ≡ q = omega arith in
    rw (value-step n pol c (q * 2), value-step n pol c (q * 2 + 1), h, h', xor-swap, xor_self, ← value-xor)
    (value-ext n _ _ _ q (λ s l. lowest-once (pol (s * 2 + 1)) q (c (s * 2 + 1))))

-- with no such term, the point 2 q has the value of the others
value-even : (n : ℕ) (pol c : ℕ → ℕ) (q : ℕ) → ((s : ℕ) → s < 2 ^ n → c (s * 2 + 1) ≡ 0)
    → value (suc n) pol c (q * 2) ≡ value n (λ s. pol (s * 2) / 2) (λ s. c (s * 2)) q
value-even n pol c q z =
    let h : q * 2 / 2 ≡ q = omega arith in
    let none : value n (λ s. pol (s * 2 + 1) / 2) (λ s. only (lowest (pol (s * 2 + 1)) (q * 2)) (c (s * 2 + 1))) q ≡ 0 =
    value-ext n _ _ (λ s. 0) q (λ s l. ap (only (lowest (pol (s * 2 + 1)) (q * 2))) (z s l) ∙ only_zero (lowest (pol (s * 2 + 1)) (q * 2))) ∙ value-zero n _ q in
    rw (value-step n pol c (q * 2), h, none) (xor_zero_r _)

-- an expansion that is 0 at every point has no coefficient
value-kernel : (n : ℕ) (pol c : ℕ → ℕ) → ((p : ℕ) → p < 2 ^ n → value n pol c p ≡ 0) → (t : ℕ) → t < 2 ^ n → c t ≡ 0
value-kernel zero pol c z = λ t h. rw (lt-one h) (sym (value_none pol c 0) ∙ z 0 (lit< tt))
value-kernel (suc n) pol c z =
    let odd : (s : ℕ) → s < 2 ^ n → c (s * 2 + 1) ≡ 0 =
    value-kernel n (λ s. pol (s * 2 + 1) / 2) (λ s. c (s * 2 + 1))
    (λ q h. sym (value-pair n pol c q) ∙ ap₂ bit_xor (z (q * 2) (omega arith)) (z (q * 2 + 1) (omega arith))) in
    below_split n (λ t. c t ≡ 0)
    (value-kernel n (λ s. pol (s * 2) / 2) (λ s. c (s * 2)) (λ q h. sym (value-even n pol c q odd) ∙ z (q * 2) (omega arith))) odd

-- two expansions over the same polarities that agree at every point have the same coefficients
pub value-unique : (n : ℕ) (pol c d : ℕ → ℕ) → ((p : ℕ) → p < 2 ^ n → value n pol c p ≡ value n pol d p) → (t : ℕ) → t < 2 ^ n → c t ≡ d t
value-unique n pol c d e t h =
    xor-eq (c t) (d t)
    (value-kernel n pol (λ s. bit_xor (c s) (d s)) (λ p l. value-xor n pol c d p ∙ ap (λ (x : ℕ). bit_xor x (value n pol d p)) (e p l) ∙ xor_self (value n pol d p)) t h)
