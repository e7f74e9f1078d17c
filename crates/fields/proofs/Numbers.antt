-- Numbers read digit by digit, and masks and outputs read character by character: what is left of the question after each byte, and bounds on
-- what is read. A digit is below its base, and m characters say a number below 2 ^ m.
use mathlib.Core.Bool.{Bool, true, false, cond, ◌&&◌, ◌||◌, not}
use mathlib.Core.List.{List, [], ◌∷◌, ◌++◌}
use mathlib.Core.Path.{◌≡◌, refl, ◌∙◌}
use Prim.Native.Nat.{ℕ, zero, suc, ◌+◌, ◌-◌, ◌*◌, ◌^◌, ◌<◌, ◌≤◌}
use native.Mathlib.Nat.{not-suc-le-zero, pow-suc, pow-le-pow_right, lt_of_lt_of_le}
use native.Mathlib.Numerals.{add-one}
use native.Mathlib.Omega.{arith}
use borrow.Author.Tests.{ltb-true, leb-true, eqb-true, eqb-false, eq-eqb}
use lib.Dec.{leb, ltb, eqb, lit<}
use lib.ListN.{length, get_or, drop, drop_of_length-le, length-drop}
use lib.Pow.{pow_mono}
use lib.Seq.{drop-cons}
use Rattle.std.specs.Prelude.{Option, Some, None}
use Rattle.fields.specs.Fields.{and_then, digit, digits_from, well_formed, bits, mask, outputs}
use Rattle.numbers.proofs.Tests.{both_left, both_right}

-- ---- one digit

-- what is read under a test: the test passes
pub under-test : {A : Type 0} (t : Bool) (x : Option A) (v : A) → cond t x None ≡ Some v → (t ≡ true) × (x ≡ Some v)
under-test true x v e = (refl, e)
under-test false x v e = cc

-- what a byte says is its distance from `0`, and below the base
digit-read : (base b v : ℕ) → digit base b ≡ Some v → (48 ≤ b) × (b - 48 ≡ v) × (v < base)
unfolding digit
digit-read base b v e =
    let passes = under-test (leb 48 b && ltb (b - 48) base) (Some (b - 48)) v e in
    let least : 48 ≤ b = leb-true 48 b (both_left (leb 48 b) (ltb (b - 48) base) passes.0) in
    let said : Some (b - 48) ≡ Some v = passes.1 in
    let value : b - 48 ≡ v = cc in
    (least, value, omega (arith, ltb-true (b - 48) base (both_right (leb 48 b) (ltb (b - 48) base) passes.0)))

pub digit_lt : (base b v : ℕ) → digit base b ≡ Some v → v < base
digit_lt base b v e = (digit-read base b v e).2

pub digit-byte : (base b v : ℕ) → digit base b ≡ Some v → b ≡ 48 + v
digit-byte base b v e = let said = digit-read base b v e in omega (arith, said.0, said.1)

-- ---- numbers, from the left

module _ (f : List ℕ) (k : ℕ) (v : ℕ) where
  pub digits_step : (d : ℕ) → k < length f → digit 10 (get_or f k 0) ≡ Some d → digits_from v (drop k f) ≡ digits_from (v * 10 + d) (drop (k + 1) f)
  unfolding digits_from
  digits_step d h e = rw (drop-cons f k 0 h, add-one, e)

  pub digits-wrong : k < length f → digit 10 (get_or f k 0) ≡ None → digits_from v (drop k f) ≡ None
  unfolding digits_from
  digits-wrong h e = rw (drop-cons f k 0 h, e)

  pub digits-end : length f ≤ k → digits_from v (drop k f) ≡ Some v
  unfolding digits_from
  digits-end h = rw (drop_of_length-le f h)

pub well_formed-le : (most : ℕ) (f : List ℕ) → well_formed most f ≡ true → length f ≤ most
unfolding well_formed
well_formed-le most f e =
    leb-true (length f) most
    (both_right (leb 1 (length f)) (leb (length f) most)
    (both_left (leb 1 (length f) && leb (length f) most) (eqb (length f) 1 || not (eqb (get_or f 0 0) 48)) e))

-- k digits say a number below 10 ^ k, and one digit more keeps it so
pub ten-le : (k : ℕ) → k ≤ 4 → 10 ^ k ≤ 10000
ten-le k h = pow-le-pow_right {n = 10} (lit< tt) h

pub ten-more : (k v d : ℕ) → v < 10 ^ k → d < 10 → v * 10 + d < 10 ^ (k + 1)
ten-more k v d h g = rw add-one (omega (arith, pow-suc 10 k))

-- and one digit more in base two
pub two-more : (k v d : ℕ) → v < 2 ^ k → d < 2 → v * 2 + d < 2 ^ (k + 1)
two-more k v d h g = rw add-one (omega (arith, pow-suc 2 k))

-- ---- outputs, from the right

-- what characters say before characters that say v
unfoldable pub bits_before : ℕ → List ℕ → Option ℕ
bits_before v [] = Some v
bits_before v (b ∷ f) = and_then (digit 2 b) None (λ x. and_then (bits_before v f) None (λ u. Some (u * 2 + x)))

bits_are : (f : List ℕ) → bits f ≡ bits_before 0 f
unfolding bits bits_before
bits_are [] = refl
bits_are (b ∷ f) = rw (bits_are f)

pub bits_first : (v : ℕ) (f : List ℕ) → length f ≡ 0 → bits_before v f ≡ Some v
unfolding bits_before
bits_first v [] h = refl
bits_first v (b ∷ f) h = absurd (omega arith)

-- the last of them read
pub bits_last : (v : ℕ) (f : List ℕ) (b : ℕ) → bits_before v (f ++ b ∷ []) ≡ and_then (digit 2 b) None (λ x. bits_before (v * 2 + x) f)
unfolding bits_before
bits_last v [] b = refl
bits_last v (a ∷ f) b = rw (bits_last v f b) (go (digit 2 a) (digit 2 b)) where
  go : (d e : Option ℕ)
      → and_then d None (λ y. and_then (and_then e None (λ x. bits_before (v * 2 + x) f)) None (λ u. Some (u * 2 + y)))
      ≡ and_then e None (λ x. and_then d None (λ y. and_then (bits_before (v * 2 + x) f) None (λ u. Some (u * 2 + y))))
  go (Some y) (Some x) = refl
  go (Some y) None = refl
  go None (Some x) = refl
  go None None = refl

pub bits-lt : (f : List ℕ) (v : ℕ) → bits f ≡ Some v → v < 2 ^ length f
unfolding bits
bits-lt [] v e = let z : 0 ≡ v = cc in omega arith
bits-lt (b ∷ f) v e = go (digit 2 b) (bits f) refl refl (bits-lt f) e where
  go : (d r : Option ℕ) → digit 2 b ≡ d → bits f ≡ r → ((u : ℕ) → bits f ≡ Some u → u < 2 ^ length f)
      → and_then d None (λ x. and_then r None (λ u. Some (u * 2 + x))) ≡ Some v → v < 2 ^ suc (length f)
  go (Some x) (Some u) p q ih g =
      let sum : u * 2 + x ≡ v = cc in
      omega (arith, digit_lt 2 b x p, ih u q, pow-suc 2 (length f))
  go (Some x) None p q ih g = cc
  go None (Some u) p q ih g = cc
  go None None p q ih g = cc

pub mask-bits : (f : List ℕ) → mask (length f) f ≡ bits_before 0 f
unfolding mask
mask-bits f = rw (eq-eqb (length f) (length f) refl) (bits_are f)

pub mask_is : (m : ℕ) (f : List ℕ) (v : ℕ) → mask m f ≡ Some v → (length f ≡ m) × (bits f ≡ Some v)
unfolding mask
mask_is m f v e = let passes = under-test (eqb (length f) m) (bits f) v e in (eqb-true (length f) m passes.0, passes.1)

pub mask_lt : (m : ℕ) (f : List ℕ) (v : ℕ) → mask m f ≡ Some v → v < 2 ^ m
mask_lt m f v e = let said = mask_is m f v e in rw (← said.0) (bits-lt f v said.1)

-- outputs are a mask that is not 0
pub outputs-is : (m : ℕ) (f : List ℕ) (v : ℕ) → outputs m f ≡ Some v → (mask m f ≡ Some v) × (v ≡ 0 → ⊥)
unfolding outputs
outputs-is m f v e = go (mask m f) refl e where
  some : (u : ℕ) (t : Bool) → eqb u 0 ≡ t → cond t None (Some u) ≡ Some v → (Some u ≡ Some v) × (v ≡ 0 → ⊥)
  some u true h g = cc
  some u false h g = let value : u ≡ v = cc in (g, λ z. eqb-false u 0 h (value ∙ z))

  go : (r : Option ℕ) → mask m f ≡ r → and_then r None (λ u. cond (eqb u 0) None (Some u)) ≡ Some v → (mask m f ≡ Some v) × (v ≡ 0 → ⊥)
  go (Some u) p g = let found = some u (eqb u 0) refl g in (p ∙ found.0, found.1)
  go None p g = cc

pub outputs-lt : (m : ℕ) (f : List ℕ) (v : ℕ) → outputs m f ≡ Some v → v < 2 ^ m
outputs-lt m f v e = mask_lt m f v (outputs-is m f v e).0
