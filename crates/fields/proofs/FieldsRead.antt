-- A field that says a number, a class with its k, a mask or outputs is the field that is written for them: there is one way to write a digit
-- (`one_digit-read`), the field k (`mixed-read`), a number (`number_read`), a mask (`mask-read`) and outputs (`outputs-read`).
use mathlib.Core.Bool.{Bool, true, false, cond, not, ◌&&◌, ◌||◌, false≢true}
use mathlib.Core.List.{List, [], ◌∷◌, ◌++◌}
use mathlib.Core.Path.{◌≡◌, refl, sym, ap, ap₂, ◌∙◌}
use Prim.Native.Nat.{ℕ, suc, ◌+◌, ◌*◌, ◌/◌, ◌%◌, ◌^◌, ◌≤◌, ◌<◌}
use native.Mathlib.Nat.{div-one, pow-le-pow_right, lt_of_lt_of_le}
use native.Mathlib.Omega.{arith}
use borrow.Author.Tests.{eqb-true, eqb-false, ne_eqb, not-true}
use lib.Dec.{leb, eqb, lit<}
use lib.ListN.{length, get_or}
use Rattle.numbers.proofs.Tests.{both_right}
use Rattle.expansions.specs.declared.kinds.Class.{Class}
use Rattle.expansions.specs.declared.kinds.Class.TheVariants.{Block, Free}
use Rattle.listings.specs.Parts.{bytes}
use Rattle.listings.specs.Listing.{descending, digit_count, decimal, output_bytes, mixed_mark, mixed_field}
use Rattle.listings.proofs.Cubes.{outputs-none, outputs-cons, digits-next}
use Rattle.std.specs.Prelude.{Option, Some, None}
use Rattle.fields.specs.declared.values.Mixed.{Mixed}
use Rattle.fields.specs.Fields.{and_then, digit, one_digit, with_class, mixed_said, digits_from, well_formed, number, bits, mask, outputs}
use Rattle.fields.proofs.Numbers.{under-test, digit_lt, digit-byte, well_formed-le, mask_is, outputs-is}
use Rattle.fields.proofs.Digits.{ten-least, ten-below, digit_count-of}
use Rattle.fields.proofs.Written.{decimal-one}

-- ---- one digit

pub one_digit-read : (f : List ℕ) (v : ℕ) → one_digit f ≡ Some v → f ≡ decimal v
unfolding one_digit
one_digit-read [] v e = cc
one_digit-read (b ∷ []) v e = rw (digit-byte 10 b v e) (sym (decimal-one v (digit_lt 10 b v e)))
one_digit-read (b ∷ b' ∷ f) v e =
    let passes = under-test (eqb (suc (suc (length f))) 1) (digit 10 b) v e in
    absurd (omega (arith, eqb-true (suc (suc (length f))) 1 passes.0))

pub one_digit-lt : (f : List ℕ) (v : ℕ) → one_digit f ≡ Some v → v < 10
unfolding one_digit
one_digit-lt f v e = digit_lt 10 (get_or f 0 0) v (under-test (eqb (length f) 1) (digit 10 (get_or f 0 0)) v e).1

-- ---- the field k

-- the digit after the mark of the class D
class-read : (D : Class) (f : List ℕ) (x : Mixed) → with_class D (one_digit f) ≡ Some x → (mixed_mark D ++ f ≡ mixed_field x.class x.k) × (x.k < 10)
unfolding mixed_field
class-read D f x e = go (one_digit f) refl e where
  go : (o : Option ℕ) → one_digit f ≡ o → with_class D o ≡ Some x → (mixed_mark D ++ f ≡ mixed_mark x.class ++ decimal x.k) × (x.k < 10)
  go (Some k) h g =
      let same : record { class = D; k = k } ≡ x = cc in
      rw (← same) (ap (λ (l : List ℕ). mixed_mark D ++ l) (one_digit-read f k h), one_digit-lt f k h)
  go None h g = cc

pub mixed-read : (f : List ℕ) (x : Mixed) → mixed_said f ≡ Some x → (f ≡ mixed_field x.class x.k) × (x.k < 10)
unfolding mixed_said mixed_mark bytes
mixed-read [] x e = class-read Block [] x e
mixed-read (b ∷ f) x e = go (eqb b 102) refl e where
  go : (t : Bool) → eqb b 102 ≡ t → cond t (with_class Free (one_digit f)) (with_class Block (one_digit (b ∷ f))) ≡ Some x
      → (b ∷ f ≡ mixed_field x.class x.k) × (x.k < 10)
  go true h g = let said = class-read Free f x g in (ap (λ (y : ℕ). y ∷ f) (eqb-true b 102 h) ∙ said.0, said.1)
  go false h g = class-read Block (b ∷ f) x g

-- ---- numbers

-- digits after digits that say u: they are those of the number x that they say, and u is x without them
digits_from_lem : (f : List ℕ) (u x : ℕ) → digits_from u f ≡ Some x → (f ≡ descending (length f) (λ i. 48 + x / 10 ^ i % 10)) × (x / 10 ^ length f ≡ u)
unfolding digits_from descending
digits_from_lem [] u x e = let same : u ≡ x = cc in (refl, div-one x ∙ sym same)
digits_from_lem (b ∷ f) u x e = go (digit 10 b) refl (λ d. digits_from_lem f (u * 10 + d) x) e where
  go : (d : Option ℕ) → digit 10 b ≡ d
      → ((d : ℕ) → digits_from (u * 10 + d) f ≡ Some x → (f ≡ descending (length f) (λ i. 48 + x / 10 ^ i % 10)) × (x / 10 ^ length f ≡ u * 10 + d))
      → and_then d None (λ d. digits_from (u * 10 + d) f) ≡ Some x
      → (b ∷ f ≡ (48 + x / 10 ^ length f % 10) ∷ descending (length f) (λ i. 48 + x / 10 ^ i % 10)) × (x / 10 ^ suc (length f) ≡ u)
  go (Some d) h ih g =
      let others = ih d g in
      let small : d < 10 = digit_lt 10 b d h in
      (ap₂ ◌∷◌ (omega (arith, digit-byte 10 b d h, others.1)) others.0, omega (arith, others.1, digits-next (length f) x))
  go None h ih g = cc

-- "no leading zero (but `0`)": the first of several digits is not 0
first_some : (most b : ℕ) (f : List ℕ) (x : ℕ) → well_formed most (b ∷ f) ≡ true → digits_from 0 (b ∷ f) ≡ Some x → (length f ≡ 0 → ⊥) → 10 ^ length f ≤ x
unfolding well_formed descending
first_some most b f x h e many =
    let said = digits_from_lem (b ∷ f) 0 x e in
    let first : b ≡ 48 + x / 10 ^ length f % 10 = ap (λ (l : List ℕ). get_or l 0 0) said.0 in
    let several : eqb (suc (length f)) 1 ≡ false = ne_eqb (suc (length f)) 1 (λ z. omega arith) in
    let tests = both_right (leb 1 (suc (length f)) && leb (suc (length f)) most) (eqb (suc (length f)) 1 || not (eqb b 48)) h in
    let other : b ≡ 48 → ⊥ = eqb-false b 48 (not-true (eqb b 48) (rw several at tests)) in
    let some : 1 ≤ x / 10 ^ length f = omega arith in
    ten-least (length f) x some

digits-read : (most : ℕ) (f : List ℕ) (v : ℕ) → most ≤ 4 → well_formed most f ≡ true → digits_from 0 f ≡ Some v → (f ≡ decimal v) × (v < 10 ^ length f)
unfolding decimal well_formed
digits-read most [] v few h e = absurd (false≢true h)
digits-read most (b ∷ f) v few h e =
    let said = digits_from_lem (b ∷ f) 0 v e in
    let below : v < 10 ^ suc (length f) = ten-below (suc (length f)) v said.1 in
    let count : digit_count v ≡ suc (length f) =
    digit_count-of (length f) v (omega (arith, well_formed-le most (b ∷ f) h)) below (first_some most b f v h e) in
    (said.0 ∙ ap (λ (k : ℕ). descending k (λ i. 48 + v / 10 ^ i % 10)) (sym count), below)

pub number_read : (most : ℕ) (f : List ℕ) (v : ℕ) → most ≤ 4 → number most f ≡ Some v → (f ≡ decimal v) × (v < 10 ^ most)
unfolding number
number_read most f v few e =
    let passes = under-test (well_formed most f) (digits_from 0 f) v e in
    let said = digits-read most f v few passes.0 passes.1 in
    (said.0, lt_of_lt_of_le said.1 (pow-le-pow_right {n = 10} (lit< tt) (well_formed-le most f passes.0)))

-- ---- masks and outputs

bits-read : (f : List ℕ) (v : ℕ) → bits f ≡ Some v → f ≡ output_bytes (length f) v
unfolding bits
bits-read [] v e = sym (outputs-none v)
bits-read (b ∷ f) v e = go (digit 2 b) (bits f) refl refl (bits-read f) e where
  go : (d r : Option ℕ) → digit 2 b ≡ d → bits f ≡ r → ((u : ℕ) → bits f ≡ Some u → f ≡ output_bytes (length f) u)
      → and_then d None (λ x. and_then r None (λ u. Some (u * 2 + x))) ≡ Some v → b ∷ f ≡ output_bytes (suc (length f)) v
  go (Some x) (Some u) p q ih g =
      let sum : u * 2 + x ≡ v = cc in
      let low : x ≡ v % 2 = omega (arith, digit_lt 2 b x p) in
      let high : u ≡ v / 2 = omega (arith, digit_lt 2 b x p) in
      ap₂ ◌∷◌ (digit-byte 2 b x p ∙ ap (λ (y : ℕ). 48 + y) low) (ih u q ∙ ap (output_bytes (length f)) high) ∙ sym (outputs-cons (length f) v)
  go (Some x) None p q ih g = cc
  go None r p q ih g = cc

pub mask-read : (m : ℕ) (f : List ℕ) (v : ℕ) → mask m f ≡ Some v → f ≡ output_bytes m v
mask-read m f v e = let said = mask_is m f v e in bits-read f v said.1 ∙ ap (λ (m : ℕ). output_bytes m v) said.0

pub outputs-read : (m : ℕ) (f : List ℕ) (v : ℕ) → outputs m f ≡ Some v → (f ≡ output_bytes m v) × (v ≡ 0 → ⊥)
outputs-read m f v e = let said = outputs-is m f v e in (mask-read m f v said.0, said.1)
