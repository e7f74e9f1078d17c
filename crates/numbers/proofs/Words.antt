-- Bytes side by side in a word. Sums, multiples, ORs and a digit of each go byte by byte (`word-add`, `word-scale`, `word-or`, `word-digit`);
-- the bytes of a word are those it was put together from (`word_byte`), and a number is the word of its bytes (`word_bytes`).
use mathlib.Core.Path.{◌≡◌, refl, sym, ap, ap₂, ◌∙◌}
use Prim.Native.Nat.{ℕ, zero, suc, ◌+◌, ◌-◌, ◌*◌, ◌/◌, ◌%◌, ◌^◌, ◌≤◌, ◌<◌}
use native.Mathlib.Nat.{add-mul, suc-mul, mul_comm, mul_assoc, zero-mul, zero-div, div-one, mod-lt, div-add-mod', add-mul-div_right, div-lt_iff_lt-mul, div-div-eq-div-mul, mul-le-mul_right, pow-suc}
use native.Mathlib.Numerals.{add-one}
use native.Mathlib.Omega.{arith}
use lib.Arith.{lt-one, digits_div, digits_mod}
use lib.Bits.{bit_and, bit_or, and_block, or_block, and_mask}
use lib.Pow.{pow_pos, pow_mono, pow-add, shl_exact, shr-shr, field, mod-mod-pow}
use Rattle.numbers.specs.Bits.{bit}
use Rattle.numbers.specs.Words.{word, byte}

-- ---- byte by byte

pub word-ext : (n : ℕ) (g h : ℕ → ℕ) → ((q : ℕ) → q < n → g q ≡ h q) → word n g ≡ word n h
unfolding word
word-ext zero g h e = refl
word-ext (suc n) g h e =
    ap₂ (λ (x y : ℕ). x * 256 + y) (word-ext n (λ q. g (suc q)) (λ q. h (suc q)) (λ q l. e (suc q) (omega arith))) (e 0 (omega arith))

pub word-zero : (n : ℕ) → word n (λ q. 0) ≡ 0
unfolding word
word-zero zero = refl
word-zero (suc n) = omega (arith, word-zero n)

pub word-add : (n : ℕ) (g h : ℕ → ℕ) → word n g + word n h ≡ word n (λ q. g q + h q)
unfolding word
word-add zero g h = refl
word-add (suc n) g h = omega (arith, word-add n (λ q. g (suc q)) (λ q. h (suc q)))

pub word-scale : (n w : ℕ) (g : ℕ → ℕ) → word n g * w ≡ word n (λ q. g q * w)
unfolding word
word-scale zero w g = zero-mul w
word-scale (suc n) w g =
    let p = word n (λ q. g (suc q)) in
    add-mul (p * 256) (g 0) w
    ∙ ap (λ (x : ℕ). x + g 0 * w) (mul_assoc p 256 w ∙ ap (λ (x : ℕ). p * x) (mul_comm 256 w) ∙ sym (mul_assoc p w 256))
    ∙ ap (λ (x : ℕ). x * 256 + g 0 * w) (word-scale n w (λ q. g (suc q)))

pub word-or : (n : ℕ) (g h : ℕ → ℕ) → ((q : ℕ) → q < n → g q < 256) → ((q : ℕ) → q < n → h q < 256)
    → bit_or (word n g) (word n h) ≡ word n (λ q. bit_or (g q) (h q))
unfolding word
word-or zero g h lg lh = refl
word-or (suc n) g h lg lh =
    or_block 8 (word n (λ q. g (suc q))) (word n (λ q. h (suc q))) (g 0) (h 0) (lg 0 (omega arith)) (lh 0 (omega arith))
    ∙ ap (λ (x : ℕ). x * 256 + bit_or (g 0) (h 0)) (word-or n (λ q. g (suc q)) (λ q. h (suc q)) (λ q l. lg (suc q) (omega arith)) (λ q l. lh (suc q) (omega arith)))

-- ---- the places of the bytes

place-next : (n : ℕ) → 2 ^ (8 * suc n) ≡ 2 ^ (8 * n) * 256
place-next n = let e : 8 * suc n ≡ 8 * n + 8 = omega arith in ap (λ (x : ℕ). 2 ^ x) e ∙ pow-add 2 (8 * n) 8

-- bytes fill the word and no more
pub word_lt : (n : ℕ) (g : ℕ → ℕ) → ((q : ℕ) → q < n → g q < 256) → word n g < 2 ^ (8 * n)
unfolding word
word_lt zero g h = omega arith
word_lt (suc n) g h = rw (place-next n) (omega (arith, word_lt n (λ q. g (suc q)) (λ q l. h (suc q) (omega arith)), h 0 (omega arith)))

-- one byte more, above
pub word-last : (n : ℕ) (g : ℕ → ℕ) → word (suc n) g ≡ word n g + g n * 2 ^ (8 * n)
unfolding word
word-last zero g = omega arith
word-last (suc n) g =
    omega (arith, word-last n (λ q. g (suc q)), ap (λ (x : ℕ). g (suc n) * x) (place-next n), mul_assoc (g (suc n)) (2 ^ (8 * n)) 256)

-- ---- a word from its bytes, lowest first

pub word_none : (g : ℕ → ℕ) → 0 ≡ word 0 g
unfolding word
word_none g = refl

-- one byte more, as code shifts and adds it
module _ (n x v : ℕ) (g : ℕ → ℕ) (next : n < 8) (small : (q : ℕ) → q < 8 → g q < 256) (e : x ≡ word n g) (last : v ≡ g n) where
  pub word_more : x + v * 2 ^ (8 * n) % 2 ^ 64 ≡ word (n + 1) g
  word_more =
      rw add-one
      (ap₂ ◌+◌ e (ap (λ (y : ℕ). y * 2 ^ (8 * n) % 2 ^ 64) last ∙ shl_exact 8 (8 * n) 64 (small n next) (omega arith)) ∙ sym (word-last n g))

  pub word_fits : x + v * 2 ^ (8 * n) % 2 ^ 64 < 2 ^ 64
  word_fits =
      let l : 8 * (n + 1) ≤ 64 = omega arith in
      let size : 2 ^ (8 * (n + 1)) ≤ 2 ^ 64 = pow_mono l in
      rw word_more (omega (arith, word_lt (n + 1) g (λ q h. small q (omega arith))))

-- ---- the bytes of a number

pub byte-lt : (q x : ℕ) → byte q x < 256
unfolding byte
byte-lt q x = omega arith

-- as code takes it
pub byte-masked : (q x : ℕ) → bit_and (x / 2 ^ (8 * q)) 255 ≡ byte q x
unfolding byte
byte-masked q x = and_mask (x / 2 ^ (8 * q)) 8

pub byte-zero : (x : ℕ) → byte 0 x ≡ x % 256
unfolding byte
byte-zero x = ap (λ (y : ℕ). y % 256) (div-one x)

pub byte-suc : (q x : ℕ) → byte (suc q) x ≡ byte q (x / 256)
unfolding byte
byte-suc q x =
    ap (λ (y : ℕ). y % 256)
    (ap (λ (y : ℕ). x / y) (place-next q ∙ mul_comm (2 ^ (8 * q)) 256) ∙ sym (div-div-eq-div-mul x 256 (2 ^ (8 * q))))

-- the lowest byte, and the rest
pub word_low : (n : ℕ) (g : ℕ → ℕ) → g 0 < 256 → word (suc n) g % 256 ≡ g 0
unfolding word
word_low n g h = digits_mod (word n (λ q. g (suc q))) h

pub word-rest : (n : ℕ) (g : ℕ → ℕ) → g 0 < 256 → word (suc n) g / 256 ≡ word n (λ q. g (suc q))
unfolding word
word-rest n g h = digits_div (word n (λ q. g (suc q))) h

pub word_byte : (n : ℕ) (g : ℕ → ℕ) → ((q : ℕ) → q < n → g q < 256) → (q : ℕ) → q < n → byte q (word n g) ≡ g q
word_byte zero g h q l = absurd (omega arith)
word_byte (suc n) g h zero l = byte-zero (word (suc n) g) ∙ word_low n g (h 0 (omega arith))
word_byte (suc n) g h (suc q) l =
    byte-suc q (word (suc n) g) ∙ ap (byte q) (word-rest n g (h 0 (omega arith)))
    ∙ word_byte n (λ p. g (suc p)) (λ p k. h (suc p) (omega arith)) q (omega arith)

pub word_bytes : (n x : ℕ) → x < 2 ^ (8 * n) → word n (λ q. byte q x) ≡ x
unfolding word
word_bytes zero x h = sym (lt-one h)
word_bytes (suc n) x h =
    let l : x < 2 ^ (8 * n) * 256 = rw (place-next n) at h in
    let e : word n (λ q. byte (suc q) x) ≡ x / 256 =
    word-ext n _ _ (λ q k. byte-suc q x) ∙ word_bytes n (x / 256) (omega arith) in
    omega (arith, e, byte-zero x)

-- bit s of byte q
pub byte-bit : (q s x : ℕ) → s < 8 → bit s (byte q x) ≡ bit (8 * q + s) x
unfolding byte
byte-bit q s x h =
    let y = x / 2 ^ (8 * q) in
    let low : 8 - s + s ≡ 8 = omega arith in
    let rest : 7 - s + 1 ≡ 8 - s = omega arith in
    let e : y % 256 / 2 ^ s ≡ y / 2 ^ s % 2 ^ (7 - s + 1) = ap (λ (k : ℕ). y % 2 ^ k / 2 ^ s) (sym low) ∙ field y (8 - s) s ∙ ap (λ (k : ℕ). y / 2 ^ s % 2 ^ k) (sym rest) in
    ap (λ (z : ℕ). z % 2) e ∙ mod-mod-pow (y / 2 ^ s) (7 - s) 1 ∙ ap (λ (z : ℕ). z % 2) (shr-shr x (8 * q) s)

pub word-bit : (n : ℕ) (g : ℕ → ℕ) → ((q : ℕ) → q < n → g q < 256) → (q s : ℕ) → q < n → s < 8 → bit (8 * q + s) (word n g) ≡ bit s (g q)
word-bit n g h q s l k = sym (byte-bit q s (word n g) k) ∙ ap (bit s) (word_byte n g h q l)

-- ---- a digit of each byte

-- shifted to the right by t below 8: what the bytes above send down goes to the upper bits of a byte
module _ (t : ℕ) (h : t < 8) where
  whole : 2 ^ (8 - t) * 2 ^ t ≡ 256
  whole = let e : 8 - t + t ≡ 8 = omega arith in sym (pow-add 2 (8 - t) t) ∙ ap (λ (x : ℕ). 2 ^ x) e

  even : 2 ^ (8 - t) ≡ 2 ^ (7 - t) * 2
  even = let e : 8 - t ≡ suc (7 - t) = omega arith in ap (λ (x : ℕ). 2 ^ x) e ∙ pow-suc 2 (7 - t)

  shifted : (p u : ℕ) → (p * 256 + u) / 2 ^ t ≡ u / 2 ^ t + p * 2 ^ (8 - t)
  shifted p u =
      let e : p * 256 + u ≡ u + p * 2 ^ (8 - t) * 2 ^ t = omega (arith, ap (λ (x : ℕ). p * x) whole, mul_assoc p (2 ^ (8 - t)) (2 ^ t)) in
      ap (λ (x : ℕ). x / 2 ^ t) e ∙ add-mul-div_right u (p * 2 ^ (8 - t)) (pow_pos t)

  -- the byte that stands there after the shift
  abbrev shifted_byte : ℕ → ℕ → ℕ
  shifted_byte p u = p % 2 ^ t * 2 ^ (8 - t) + u / 2 ^ t

  shifted-split : (p u : ℕ) → (p * 256 + u) / 2 ^ t ≡ p / 2 ^ t * 256 + shifted_byte p u
  shifted-split p u =
      let e : p * 2 ^ (8 - t) ≡ p / 2 ^ t * 256 + p % 2 ^ t * 2 ^ (8 - t) =
      ap (λ (x : ℕ). x * 2 ^ (8 - t)) (sym (div-add-mod' p (2 ^ t))) ∙ add-mul (p / 2 ^ t * 2 ^ t) (p % 2 ^ t) (2 ^ (8 - t))
      ∙ ap (λ (x : ℕ). x + p % 2 ^ t * 2 ^ (8 - t)) (mul_assoc (p / 2 ^ t) (2 ^ t) (2 ^ (8 - t)) ∙ ap (λ (x : ℕ). p / 2 ^ t * x) (mul_comm (2 ^ t) (2 ^ (8 - t)) ∙ whole)) in
      omega (arith, shifted p u, e)

  shifted-lt : (p u : ℕ) → u < 256 → shifted_byte p u < 256
  shifted-lt p u l =
      let a : u / 2 ^ t < 2 ^ (8 - t) = (div-lt_iff_lt-mul (pow_pos t)).1 (omega (arith, whole)) in
      let b : suc (p % 2 ^ t) * 2 ^ (8 - t) ≤ 2 ^ t * 2 ^ (8 - t) = mul-le-mul_right (2 ^ (8 - t)) (mod-lt p (pow_pos t)) in
      omega (arith, b, suc-mul (p % 2 ^ t) (2 ^ (8 - t)), mul_comm (2 ^ t) (2 ^ (8 - t)), whole)

  shifted-low : (p u : ℕ) → shifted_byte p u % 2 ≡ bit t u
  shifted-low p u =
      let e : p % 2 ^ t * 2 ^ (8 - t) ≡ p % 2 ^ t * 2 ^ (7 - t) * 2 = ap (λ (x : ℕ). p % 2 ^ t * x) even ∙ sym (mul_assoc (p % 2 ^ t) (2 ^ (7 - t)) 2) in
      omega (arith, e)

  pub word-digit : (n : ℕ) (u : ℕ → ℕ) → ((q : ℕ) → q < n → u q < 256) → bit_and (word n u / 2 ^ t) (word n (λ q. 1)) ≡ word n (λ q. bit t (u q))
  unfolding word
  word-digit zero u l = ap (λ (x : ℕ). bit_and x 0) (zero-div (2 ^ t))
  word-digit (suc n) u l =
      let p = word n (λ q. u (suc q)) in
      rw (shifted-split p (u 0))
      (and_block 8 (p / 2 ^ t) (word n (λ q. 1)) (shifted_byte p (u 0)) 1 (shifted-lt p (u 0) (l 0 (omega arith))) (omega arith)
      ∙ ap₂ (λ (x y : ℕ). x * 256 + y) (word-digit n (λ q. u (suc q)) (λ q k. l (suc q) (omega arith)))
      (and_mask (shifted_byte p (u 0)) 1 ∙ shifted-low p (u 0)))
