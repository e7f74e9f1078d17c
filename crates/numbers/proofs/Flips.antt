-- A number by its part above 2 ^ low and the rest: its bits (`bit-above`), its exclusive OR with a multiple of 2 ^ low (`xor_above`), and with
-- one bit inverted (`flip-above`, `flip_up`, `flip-lowest`).
use mathlib.Core.Path.{◌≡◌, refl, sym, ap, ◌∙◌}
use Prim.Native.Nat.{ℕ, zero, suc, ◌+◌, ◌-◌, ◌*◌, ◌/◌, ◌%◌, ◌^◌, ◌<◌}
use native.Mathlib.Numerals.{one-add}
use native.Mathlib.Nat.{add-zero, mul_comm, div-add-mod', mod-lt, div-eq_of_lt, div-lt_iff_lt-mul}
use native.Mathlib.Omega.{arith}
use lib.Bits.{bit_xor, differ, xor_comm, xor_zero_r, xor_block, xor_shifted, xor_shr}
use lib.Pow.{pow_pos, pow-add, pow-lt, high, shr-shr, mod-pow-add}
use Rattle.numbers.specs.Bits.{bit}
use Rattle.numbers.proofs.Bits.{bit-xor}
use Rattle.numbers.proofs.Xor.{xor_assoc, xor-digits}

-- two moves in either order
pub xor-around : (a b c : ℕ) → bit_xor (bit_xor a b) c ≡ bit_xor (bit_xor a c) b
xor-around a b c = xor_assoc a b c ∙ ap (bit_xor a) (xor_comm b c) ∙ sym (xor_assoc a c b)

pub bit-above : (low s q o : ℕ) → o < 2 ^ low → bit (low + s) (q * 2 ^ low + o) ≡ bit s q
bit-above low s q o h = ap (λ (x : ℕ). x % 2) (sym (shr-shr (q * 2 ^ low + o) low s) ∙ ap (λ (x : ℕ). x / 2 ^ s) (high q low h))

pub xor_above : (low w q o : ℕ) → o < 2 ^ low → bit_xor (q * 2 ^ low + o) (w * 2 ^ low) ≡ bit_xor q w * 2 ^ low + o
xor_above low w q o h =
    ap (bit_xor (q * 2 ^ low + o)) (sym (add-zero (w * 2 ^ low))) ∙ xor_block low q w o 0 h (pow_pos low) ∙ ap (λ (x : ℕ). bit_xor q w * 2 ^ low + x) (xor_zero_r o)

pub flip-above : (low s q o : ℕ) → o < 2 ^ low → bit_xor (q * 2 ^ low + o) (2 ^ (low + s)) ≡ bit_xor q (2 ^ s) * 2 ^ low + o
flip-above low s q o h = ap (bit_xor (q * 2 ^ low + o)) (pow-add 2 low s ∙ mul_comm (2 ^ low) (2 ^ s)) ∙ xor_above low (2 ^ s) q o h

-- inverting bit s + 1 of 2 q + b is inverting bit s of q
pub flip_up : (s q b : ℕ) → b < 2 → bit_xor (q * 2 + b) (2 ^ suc s) ≡ bit_xor q (2 ^ s) * 2 + b
flip_up s q b h = ap (λ (x : ℕ). bit_xor (q * 2 + b) (2 ^ x)) (sym (one-add s)) ∙ flip-above 1 s q b h

pub flip-lowest : (q b : ℕ) → b < 2 → bit_xor (q * 2 + b) 1 ≡ q * 2 + (1 - b)
flip-lowest q b h = xor-digits q b 1 h ∙ ap (λ (x : ℕ). x * 2 + differ b 1) (xor_zero_r q) ∙ ap (λ (x : ℕ). q * 2 + x) (go b h)
  where
    go : (b : ℕ) → b < 2 → differ b 1 ≡ 1 - b
    go zero l = refl
    go (suc zero) l = refl
    go (suc (suc b)) l = absurd (omega arith)

-- a bit that is 0 in v is not changed by v
pub bit-unmoved : (s t v : ℕ) → bit s v ≡ 0 → bit s (bit_xor t v) ≡ bit s t
bit-unmoved s t v e = bit-xor s t v ∙ ap (differ (bit s t)) e ∙ go (bit s t)
  where
    go : (x : ℕ) → differ x 0 ≡ x
    go zero = refl
    go (suc x) = refl

-- with bit s inverted a number stays below a multiple of 2 ^ (s + 1)
pub flip-lt : (N s t : ℕ) → N % 2 ^ suc s ≡ 0 → t < N → bit_xor t (2 ^ s) < N
flip-lt N s t e h =
    let D = 2 ^ suc s in
    let n : N / D * D ≡ N = omega (arith, div-add-mod' N D) in
    let k : bit_xor t (2 ^ s) / D ≡ t / D =
    xor_shr t (2 ^ s) (suc s) ∙ ap (bit_xor (t / D)) (div-eq_of_lt (pow-lt {i = s} {j = suc s} (omega arith))) ∙ xor_zero_r (t / D) in
    let l : t / D < N / D = (div-lt_iff_lt-mul {k = D} {x = t} {y = N / D} (pow_pos (suc s))).1 (rw n h) in
    let m : bit_xor t (2 ^ s) < N / D * D = (div-lt_iff_lt-mul {k = D} {x = bit_xor t (2 ^ s)} {y = N / D} (pow_pos (suc s))).0 (rw k l) in
    rw n at m

-- the bits of x below s, and bit s
pub mod-bit : (s x : ℕ) → bit_xor (x % 2 ^ s) (bit s x * 2 ^ s) ≡ x % 2 ^ suc s
mod-bit s x =
    xor_comm (x % 2 ^ s) (bit s x * 2 ^ s) ∙ xor_shifted (bit s x) s (x % 2 ^ s) (mod-lt x (pow_pos s)) ∙ sym (mod-pow-add x 1 s) ∙ ap (λ (y : ℕ). x % 2 ^ y) (one-add s)
