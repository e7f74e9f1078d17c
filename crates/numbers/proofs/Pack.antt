-- Numbers put together from bits, and taken apart: the bits of `pack N g` are g's values (`pack-bit`), and a number below 2 ^ N is the
-- pack of its bits (`pack-bits`).
use mathlib.Core.Path.{◌≡◌, refl, sym, ap, ap₂, ◌∙◌}
use Prim.Native.Nat.{ℕ, zero, suc, ◌+◌, ◌-◌, ◌*◌, ◌/◌, ◌%◌, ◌^◌, ◌≤◌, ◌<◌, max}
use native.Mathlib.Nat.{zero-div, mod-one, mod-eq_of_lt, mul-le-mul_right, le_of_suc-le-suc, add-mul-div_right, pow-suc, add_comm, add_assoc}
use native.Mathlib.Numerals.{one-add, add-one}
use native.Mathlib.Omega.{arith}
use lib.Arith.{lt-one}
use lib.Pow.{pow_pos, pow_mono, pow-add, high, mod-pow-add, shl_exact}
use borrow.Author.Count.{below_more}
use lib.Bits.{bit_or, or_shr, or_mod}
use lib.Count.{ones_in, ones, ones_step}
use Rattle.numbers.specs.Sums.{fold_below, sum_below}
use Rattle.numbers.specs.Bits.{bit, pack}
use Rattle.numbers.proofs.Bits.{bit-zero, bit-suc, bit-lt}
use Rattle.numbers.proofs.Sums.{fold-ext}

-- ---- pack

pub pack-ext : (N : ℕ) (g h : ℕ → ℕ) → ((p : ℕ) → p < N → g p ≡ h p) → pack N g ≡ pack N h
unfolding pack
pack-ext N g h e = fold-ext ◌+◌ N _ _ (λ p l. ap (λ (x : ℕ). x * 2 ^ p) (e p l))

pub pack-lt : (N : ℕ) (g : ℕ → ℕ) → ((p : ℕ) → p < N → g p < 2) → pack N g < 2 ^ N
unfolding pack fold_below
pack-lt zero g small = omega arith
pack-lt (suc N) g small =
    let low : pack N g < 2 ^ N = pack-lt N g (λ p l. small p (omega arith)) in
    omega (arith, mul-le-mul_right (2 ^ N) (le_of_suc-le-suc (small N (omega arith))))

-- a multiple of 2 ^ N does not show in the bits below N
bit_below : (p N a b : ℕ) → p < N → bit p (b + a * 2 ^ N) ≡ bit p b
bit_below p N a b h =
    let e : N ≡ suc (N - suc p) + p = omega arith in
    let q : 2 ^ N ≡ 2 ^ (N - suc p) * 2 * 2 ^ p =
    ap (λ (x : ℕ). 2 ^ x) e ∙ pow-add 2 (suc (N - suc p)) p ∙ ap (λ (x : ℕ). x * 2 ^ p) (pow-suc 2 (N - suc p)) in
    let r : a * 2 ^ N ≡ a * 2 ^ (N - suc p) * 2 * 2 ^ p = ap (λ (x : ℕ). a * x) q ∙ omega arith in
    rw (r, add-mul-div_right b (a * 2 ^ (N - suc p) * 2) (pow_pos p)) (omega arith)

pub pack-bit : (N : ℕ) (g : ℕ → ℕ) → ((p : ℕ) → p < N → g p < 2) → (p : ℕ) → p < N → bit p (pack N g) ≡ g p
unfolding pack fold_below
pack-bit zero g small p h = absurd (omega arith)
pack-bit (suc N) g small p h =
    let less : (i : ℕ) → i < N → g i < 2 = λ i l. small i (omega arith) in
    below_more (λ i. bit i (pack N g + g N * 2 ^ N) ≡ g i) N (λ i l. bit_below i N (g N) (pack N g) l ∙ pack-bit N g less i l)
    (rw (add_comm (pack N g) (g N * 2 ^ N), high (g N) N (pack-lt N g less)) (mod-eq_of_lt (small N (omega arith)))) p (omega arith)

-- the number of the N lowest bits of x
pack-mod : (N x : ℕ) → pack N (λ p. bit p x) ≡ x % 2 ^ N
unfolding pack fold_below
pack-mod zero x = sym (mod-one x)
pack-mod (suc N) x =
    ap (λ (y : ℕ). y + bit N x * 2 ^ N) (pack-mod N x) ∙ add_comm (x % 2 ^ N) (bit N x * 2 ^ N) ∙ sym (mod-pow-add x 1 N)
    ∙ ap (λ (y : ℕ). x % 2 ^ y) (one-add N)

pub pack-bits : (N x : ℕ) → x < 2 ^ N → pack N (λ p. bit p x) ≡ x
pack-bits N x h = pack-mod N x ∙ mod-eq_of_lt h

-- ---- OR

or_digits : (a b : ℕ) → a < 2 → b < 2 → bit_or a b ≡ max a b
or_digits zero b ha hb = omega arith
or_digits (suc zero) zero ha hb = refl
or_digits (suc zero) (suc zero) ha hb = refl
or_digits (suc zero) (suc (suc b)) ha hb = absurd (omega arith)
or_digits (suc (suc a)) b ha hb = absurd (omega arith)

pub bit-or : (i a b : ℕ) → bit i (bit_or a b) ≡ max (bit i a) (bit i b)
bit-or i a b =
    ap (λ (x : ℕ). x % 2) (or_shr a b i) ∙ or_mod (a / 2 ^ i) (b / 2 ^ i) 1 ∙ or_digits (bit i a) (bit i b) (bit-lt i a) (bit-lt i b)

pub bit-ors : (i m : ℕ) (f : ℕ → ℕ) → bit i (fold_below bit_or m f) ≡ fold_below max m (λ o. bit i (f o))
unfolding fold_below
bit-ors i zero f = ap (λ (x : ℕ). x % 2) (zero-div (2 ^ i))
bit-ors i (suc m) f = bit-or i (fold_below bit_or m f) (f m) ∙ ap (λ (x : ℕ). max x (bit i (f m))) (bit-ors i m f)

-- ---- the number of bits

-- by the lowest bit and the rest
sum-bits : (N x : ℕ) → sum_below (suc N) (λ i. bit i x) ≡ x % 2 + sum_below N (λ i. bit i (x / 2))
unfolding fold_below
sum-bits zero x = omega (arith, bit-zero x)
sum-bits (suc N) x =
    ap₂ ◌+◌ (sum-bits N x) (bit-suc N x) ∙ add_assoc (x % 2) (sum_below N (λ i. bit i (x / 2))) (bit N (x / 2))

pub ones-bits : (N x : ℕ) → x < 2 ^ N → sum_below N (λ i. bit i x) ≡ ones x
unfolding fold_below ones
ones-bits zero x h = sym (ap ones (lt-one h))
ones-bits (suc N) x h = sum-bits N x ∙ ap (λ (y : ℕ). x % 2 + y) (ones-bits N (x / 2) (omega arith)) ∙ sym (ones_step x)

-- of a number of n digits it is the number in the n lowest
pub ones_in-ones : (n x : ℕ) → x < 2 ^ n → ones_in n x ≡ ones x
unfolding ones_in ones
ones_in-ones zero x h = sym (ap ones (lt-one h))
ones_in-ones (suc n) x h = ap (λ (y : ℕ). x % 2 + y) (ones_in-ones n (x / 2) (omega arith)) ∙ sym (ones_step x)

-- ---- a byte from its bits, lowest first

pub pack-none : (g : ℕ → ℕ) → 0 ≡ pack 0 g
unfolding pack fold_below
pack-none g = refl

-- one bit more, as code shifts and adds it
module _ (N byte : ℕ) (g : ℕ → ℕ) (next : N < 8) (small : (p : ℕ) → g p < 2) (e : byte ≡ pack N g) where
  pub pack-more : byte + g N * 2 ^ N % 2 ^ 8 ≡ pack (N + 1) g
  unfolding pack fold_below
  pack-more = rw add-one (ap₂ ◌+◌ e (shl_exact 1 N 8 (small N) (omega arith)))

  pub pack-fits : byte + g N * 2 ^ N % 2 ^ 8 < 2 ^ 8
  pack-fits =
      let l : N + 1 ≤ 8 = omega arith in
      let size : 2 ^ (N + 1) ≤ 2 ^ 8 = pow_mono l in
      rw pack-more (omega (arith, pack-lt (N + 1) g (λ p h. small p)))
