-- A field as it is written is read back: digits say their number (`one_digit-decimal`, `number-decimal`), the field k its class and its number
-- (`mixed_is_said`), and characters their mask or outputs (`mask-written`, `outputs-written`).
use mathlib.Core.Bool.{Bool, true, false, not, ◌||◌}
use mathlib.Core.List.{[], ◌∷◌}
use mathlib.Core.Path.{◌≡◌, refl, ap, ◌∙◌}
use Prim.Native.Nat.{ℕ, zero, suc, ◌+◌, ◌-◌, ◌*◌, ◌/◌, ◌%◌, ◌^◌, ◌≤◌, ◌<◌}
use native.Mathlib.Nat.{div-eq_of_lt, div-one}
use native.Mathlib.Omega.{arith}
use borrow.Author.Tests.{lt-ltb, le-leb, eq-eqb, ne_eqb, eqb-false}
use lib.Dec.{eqb}
use Rattle.numbers.specs.Bytes.{at, tabulate}
use Rattle.expansions.specs.declared.kinds.Class.{Class}
use Rattle.expansions.specs.declared.kinds.Class.TheVariants.{Block, Free}
use Rattle.listings.specs.Parts.{bytes}
use Rattle.listings.specs.Listing.{descending, digit_count, decimal, output_bytes, mixed_mark, mixed_field}
use Rattle.listings.proofs.Characters.{length-outputs, length-decimal, at-decimal, digit_count-in}
use Rattle.listings.proofs.Cubes.{outputs-cons, digits-next, digit_count-bound}
use Rattle.listings.proofs.Longest.{digit_count-one}
use Rattle.std.specs.Prelude.{Some}
use Rattle.fields.specs.Fields.{digit, one_digit, with_class, mixed_said, digits_from, well_formed, number, bits, mask, outputs}
use Rattle.fields.proofs.Numbers.{ten-le}
use Rattle.fields.proofs.Digits.{ten-some, digit_count-least, digit_count-le}

-- ---- one digit

pub digit-written : (base d : ℕ) → d < base → digit base (48 + d) ≡ Some d
unfolding digit
digit-written base d h =
    let same : 48 + d - 48 ≡ d = omega arith in
    rw (le-leb 48 (48 + d) (omega arith), same, lt-ltb d base h)

-- ---- the digits of a number

pub decimal-one : (x : ℕ) → x < 10 → decimal x ≡ (48 + x) ∷ []
unfolding decimal descending
decimal-one x h =
    let low : x / 1 % 10 ≡ x = omega arith in
    rw (digit_count-one x h, low)

pub one_digit-decimal : (x : ℕ) → x < 10 → one_digit (decimal x) ≡ Some x
unfolding one_digit
one_digit-decimal x h = rw (decimal-one x h) (digit-written 10 x h)

-- ---- the field k

pub mixed_is_said : (C : Class) (k : ℕ) → k < 10 → mixed_said (mixed_field C k) ≡ Some (record { class = C; k = k })
unfolding mixed_said mixed_field mixed_mark bytes
mixed_is_said Block k h =
    let other : eqb (48 + k) 102 ≡ false = ne_eqb (48 + k) 102 (λ e. omega arith) in
    ap mixed_said (decimal-one k h) ∙ rw other (ap (with_class Block) (rw (decimal-one k h) at (one_digit-decimal k h)))
mixed_is_said Free k h = ap (with_class Free) (one_digit-decimal k h)

-- ---- numbers

digits-written : (d x : ℕ) → digits_from (x / 10 ^ d) (descending d (λ i. 48 + x / 10 ^ i % 10)) ≡ Some x
unfolding digits_from descending
digits-written zero x = ap Some (div-one x)
digits-written (suc d) x =
    rw (digit-written 10 (x / 10 ^ d % 10) (omega arith), digits-next d x) (digits-written d x)

digits_decimal : (x : ℕ) → x < 10000 → digits_from 0 (decimal x) ≡ Some x
unfolding decimal
digits_decimal x h = rw (div-eq_of_lt (digit_count-bound x h)) at (digits-written (digit_count x) x)

-- the first digit of a number of several digits is not 0
leading-some : (x : ℕ) → x < 10000 → (digit_count x ≡ 1 → ⊥) → at (decimal x) 0 ≡ 48 → ⊥
leading-some x h many e =
    let least : 10 ^ (digit_count x - 1) ≤ x = digit_count-least x many in
    let some : 1 ≤ x / 10 ^ (digit_count x - 1) = ten-some (digit_count x - 1) x least in
    let last : suc (digit_count x - 1) ≡ digit_count x = omega (arith, digit_count-in x) in
    let none : x / 10 ^ suc (digit_count x - 1) ≡ 0 = rw last (div-eq_of_lt (digit_count-bound x h)) in
    let whole : digit_count x - 1 - 0 ≡ digit_count x - 1 = omega arith in
    let first : at (decimal x) 0 ≡ 48 + x / 10 ^ (digit_count x - 1) % 10 = rw whole at (at-decimal x 0 (omega (arith, digit_count-in x))) in
    omega (arith, digits-next (digit_count x - 1) x)

well_formed-decimal : (most x : ℕ) → x < 10000 → digit_count x ≤ most → well_formed most (decimal x) ≡ true
unfolding well_formed
well_formed-decimal most x h few =
    rw (length-decimal x, le-leb 1 (digit_count x) (digit_count-in x).0, le-leb (digit_count x) most few) (go (eqb (digit_count x) 1) refl)
  where
    go : (b : Bool) → eqb (digit_count x) 1 ≡ b → (b || not (eqb (at (decimal x) 0) 48)) ≡ true
    go true e = refl
    go false e = rw (ne_eqb (at (decimal x) 0) 48 (leading-some x h (eqb-false (digit_count x) 1 e)))

pub number-decimal : (most x : ℕ) → 1 ≤ most → most ≤ 4 → x < 10 ^ most → number most (decimal x) ≡ Some x
unfolding number
number-decimal most x some few h =
    let small : x < 10000 = omega (arith, ten-le most few) in
    rw (well_formed-decimal most x small (digit_count-le most x some h)) (digits_decimal x small)

-- ---- masks and outputs

bits-written : (m c : ℕ) → c < 2 ^ m → bits (output_bytes m c) ≡ Some c
unfolding bits output_bytes tabulate
bits-written zero c h = let none : c ≡ 0 = omega arith in rw none
bits-written (suc m) c h =
    let sum : c / 2 * 2 + c % 2 ≡ c = omega arith in
    ap bits (outputs-cons m c) ∙ rw (digit-written 2 (c % 2) (omega arith), bits-written m (c / 2) (omega arith), sum)

pub mask-written : (m c : ℕ) → c < 2 ^ m → mask m (output_bytes m c) ≡ Some c
unfolding mask
mask-written m c h = rw (length-outputs m c, eq-eqb m m refl) (bits-written m c h)

pub outputs-written : (m c : ℕ) → c < 2 ^ m → (c ≡ 0 → ⊥) → outputs m (output_bytes m c) ≡ Some c
unfolding outputs
outputs-written m c h some = rw (mask-written m c h, ne_eqb c 0 some)
