-- What a cube's characters show. A cube shows its term, and of a polarity the bits at its term (`term-cube`, `complement-cube`); and
-- any characters of a cube are the cube of what they show (`cube-read`), whose complemented inputs are among the term's (`complement-within`).
use mathlib.Core.Bool.{Bool, true, false, cond, ◌&&◌, ◌||◌, false≢true}
use mathlib.Core.List.{List, [], ◌∷◌}
use mathlib.Core.Path.{◌≡◌, refl, sym, ap, ap₂, ◌∙◌, subst}
use Prim.Native.Nat.{ℕ, zero, suc, ◌+◌, ◌*◌, ◌%◌, ◌^◌, ◌<◌, min}
use native.Mathlib.Nat.{mod-eq_of_lt, mod-one}
use native.Mathlib.Numerals.{one-add}
use native.Mathlib.Omega.{arith}
use borrow.Author.Tests.{eqb-true, eq-eqb}
use lib.Bits.{bit_and, and_le_l, and_comm}
use lib.Dec.{T, eqb, lit<}
use lib.ListN.{length}
use lib.Pow.{mod-pow-add, high}
use Rattle.numbers.specs.Bits.{bit, inside}
use Rattle.numbers.proofs.Bits.{bit-lt, bit_below}
use Rattle.numbers.proofs.Ands.{bit-and, inside_of}
use Rattle.numbers.proofs.Tests.{both_left, both_right}
use Rattle.listings.specs.Listing.{descending, cube_byte, cube}
use Rattle.listings.proofs.Characters.{length-cube, descending-ext}
use Rattle.listings.proofs.Cubes.{character-literal}
use Rattle.std.specs.Prelude.{Some, None}
use Rattle.fields.specs.declared.values.Cube.{Cube}
use Rattle.fields.proofs.Numbers.{under-test}
use Rattle.fields.specs.Cubes.{is_character, present_in, complemented_in, cube_characters, term_shown, complement_shown, cube_said}

-- ---- one character of the cube of a term

present-byte : (t w : ℕ) → t < 2 → present_in (cube_byte t w) ≡ t
unfolding present_in
present-byte t w h = character-literal t w h

complement-byte : (t w : ℕ) → t < 2 → w < 2 → complemented_in (cube_byte t w) ≡ min t w
unfolding complemented_in cube_byte
complement-byte zero w ht hw = omega arith
complement-byte (suc zero) zero ht hw = refl
complement-byte (suc zero) (suc zero) ht hw = refl
complement-byte (suc zero) (suc (suc w)) ht hw = absurd (omega arith)
complement-byte (suc (suc t)) w ht hw = absurd (omega arith)

byte-character : (t w : ℕ) → is_character (cube_byte t w) ≡ true
unfolding is_character cube_byte
byte-character zero w = refl
byte-character (suc t) zero = refl
byte-character (suc t) (suc w) = refl

-- ---- the cube of a term

-- the lowest n + 1 bits, from the lowest n and the next
bits-next : (n x : ℕ) → x % 2 ^ suc n ≡ bit n x * 2 ^ n + x % 2 ^ n
bits-next n x = ap (λ (y : ℕ). x % 2 ^ y) (sym (one-add n)) ∙ mod-pow-add x 1 n

term-low : (n t w : ℕ) → term_shown (cube n t w) ≡ t % 2 ^ n
unfolding term_shown cube descending
term-low zero t w = sym (mod-one t)
term-low (suc n) t w =
    ap₂ ◌+◌ (ap₂ (λ (x y : ℕ). x * 2 ^ y) (present-byte (bit n t) (bit n w) (bit-lt n t)) (length-cube n t w)) (term-low n t w) ∙ sym (bits-next n t)

complement_low : (n t w : ℕ) → complement_shown (cube n t w) ≡ bit_and t w % 2 ^ n
unfolding complement_shown cube descending
complement_low zero t w = sym (mod-one (bit_and t w))
complement_low (suc n) t w =
    ap₂ ◌+◌
    (ap₂ (λ (x y : ℕ). x * 2 ^ y) (complement-byte (bit n t) (bit n w) (bit-lt n t) (bit-lt n w) ∙ sym (bit-and n t w)) (length-cube n t w))
    (complement_low n t w) ∙ sym (bits-next n (bit_and t w))

pub term-cube : (n t w : ℕ) → t < 2 ^ n → term_shown (cube n t w) ≡ t
term-cube n t w h = term-low n t w ∙ mod-eq_of_lt h

pub complement-cube : (n t w : ℕ) → t < 2 ^ n → complement_shown (cube n t w) ≡ bit_and t w
complement-cube n t w h =
    let l : bit_and t w < 2 ^ n = omega (arith, and_le_l t w) in
    complement_low n t w ∙ mod-eq_of_lt l

cube-characters : (n t w : ℕ) → cube_characters (cube n t w) ≡ true
unfolding cube_characters cube descending
cube-characters zero t w = refl
cube-characters (suc n) t w = rw (byte-character (bit n t) (bit n w)) (cube-characters n t w)

-- a cube as it is written is read back
pub cube-written : (n t w : ℕ) → t < 2 ^ n → cube_said n (cube n t w) ≡ Some (record { term = t; complemented = bit_and t w })
unfolding cube_said
cube-written n t w h =
    rw (length-cube n t w, eq-eqb n n refl, cube-characters n t w, term-cube n t w h, complement-cube n t w h)

-- ---- one character

-- what a character shows
record Character (b : ℕ) : Type 0 where
  present : present_in b < 2
  complemented : complemented_in b < 2
  byte : cube_byte (present_in b) (complemented_in b) ≡ b

character : (b : ℕ) → is_character b ≡ true → Character b
unfolding is_character present_in complemented_in cube_byte
character b = go (eqb b 45) (eqb b 48) (eqb b 49) refl refl refl where
  known : (x : ℕ) → b ≡ x → Character x → Character b
  known x e c = subst Character (sym e) c

  go : (p q r : Bool) → eqb b 45 ≡ p → eqb b 48 ≡ q → eqb b 49 ≡ r → (p || (q || r)) ≡ true → Character b
  go true q r e f g t = known 45 (eqb-true b 45 e) (record { present = lit< tt; complemented = lit< tt; byte = refl })
  go false true r e f g t = known 48 (eqb-true b 48 f) (record { present = lit< tt; complemented = lit< tt; byte = refl })
  go false false true e f g t = known 49 (eqb-true b 49 g) (record { present = lit< tt; complemented = lit< tt; byte = refl })
  go false false false e f g t = absurd (false≢true t)

-- ---- any cube

digit-below : (N d x : ℕ) → d < 2 → x < 2 ^ N → d * 2 ^ N + x < 2 ^ suc N
digit-below N zero x h l = omega arith
digit-below N (suc zero) x h l = omega arith
digit-below N (suc (suc d)) x h l = absurd (omega arith)

head-bit : (N d x : ℕ) → d < 2 → x < 2 ^ N → bit N (d * 2 ^ N + x) ≡ d
head-bit N d x h l = ap (λ (y : ℕ). y % 2) (high d N l) ∙ mod-eq_of_lt h

cube-low : (n a t b w : ℕ) → cube n (a * 2 ^ n + t) (b * 2 ^ n + w) ≡ cube n t w
unfolding cube
cube-low n a t b w = descending-ext n _ _ (λ i l. ap₂ cube_byte (bit_below i n a t l) (bit_below i n b w l))

-- the first character of a cube, and the others
cube-first : (b : ℕ) (l : List ℕ) → cube_characters (b ∷ l) ≡ true → Character b × (cube_characters l ≡ true)
unfolding cube_characters
cube-first b l h = (character b (both_left (is_character b) (cube_characters l) h), both_right (is_character b) (cube_characters l) h)

pub term-below : (l : List ℕ) → cube_characters l ≡ true → term_shown l < 2 ^ length l
unfolding term_shown
term-below [] h = omega arith
term-below (b ∷ l) h =
    let c = cube-first b l h in
    digit-below (length l) (present_in b) (term_shown l) c.0.present (term-below l c.1)

pub complement-below : (l : List ℕ) → cube_characters l ≡ true → complement_shown l < 2 ^ length l
unfolding complement_shown
complement-below [] h = omega arith
complement-below (b ∷ l) h =
    let c = cube-first b l h in
    digit-below (length l) (complemented_in b) (complement_shown l) c.0.complemented (complement-below l c.1)

pub cube-read : (l : List ℕ) → cube_characters l ≡ true → cube (length l) (term_shown l) (complement_shown l) ≡ l
unfolding cube descending term_shown complement_shown
cube-read [] h = refl
cube-read (b ∷ l) h =
    let c = cube-first b l h in
    ap₂ ◌∷◌
    (ap₂ cube_byte (head-bit (length l) (present_in b) (term_shown l) c.0.present (term-below l c.1))
    (head-bit (length l) (complemented_in b) (complement_shown l) c.0.complemented (complement-below l c.1)) ∙ c.0.byte)
    (cube-low (length l) (present_in b) (term_shown l) (complemented_in b) (complement_shown l) ∙ cube-read l c.1)

pub complement-within : (l : List ℕ) → cube_characters l ≡ true → T (inside (complement_shown l) (term_shown l))
complement-within l h =
    inside_of (complement_shown l) (term_shown l)
    (and_comm (complement_shown l) (term_shown l) ∙ sym (complement-cube (length l) (term_shown l) (complement_shown l) (term-below l h)) ∙ ap complement_shown (cube-read l h))

-- ---- a field that is a cube

-- a field that shows the term t and the complemented inputs c is their cube
pub record CubeRead (n : ℕ) (f : List ℕ) (t c : ℕ) : Type 0 where
  pub characters : f ≡ cube n t c
  pub term : t < 2 ^ n
  pub complemented : c < 2 ^ n
  pub within : T (inside c t)

pub cube-said : (n : ℕ) (f : List ℕ) (x : Cube) → cube_said n f ≡ Some x → CubeRead n f x.term x.complemented
unfolding cube_said
cube-said n f x e =
    let passes = under-test (eqb (length f) n && cube_characters f) (Some (record { term = term_shown f; complemented = complement_shown f })) x e in
    let long : length f ≡ n = eqb-true (length f) n (both_left (eqb (length f) n) (cube_characters f) passes.0) in
    let all : cube_characters f ≡ true = both_right (eqb (length f) n) (cube_characters f) passes.0 in
    let shown : record { term = term_shown f; complemented = complement_shown f } ≡ x = cc in
    rw (← long, ← shown) (record { characters = sym (cube-read f all); term = term-below f all; complemented = complement-below f all; within = complement-within f all })
