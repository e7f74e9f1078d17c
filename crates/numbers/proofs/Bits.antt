-- The bits of a number: by the lowest bit and the rest, through an exclusive OR, a number by its bits (`bits-same`), and the bits of one number
-- among those of another.
use mathlib.Core.Path.{◌≡◌, refl, sym, ap, ◌∙◌}
use mathlib.Core.Bool.{Bool, true, ◌&&◌}
use Prim.Native.Nat.{ℕ, zero, suc, ◌+◌, ◌-◌, ◌*◌, ◌/◌, ◌%◌, ◌^◌, ◌≤◌, ◌<◌, min}
use native.Mathlib.Nat.{zero-div, div-one, pow-suc, mul_comm, add_comm, add-mul-div_right, div-div-eq-div-mul, div-eq_of_lt}
use native.Mathlib.Decide.{dec_le}
use native.Mathlib.Omega.{arith}
use borrow.Author.Tests.{ne_eqb}
use lib.Arith.{bin_ind, digits_div, digits_mod, mod-mul}
use lib.Bits.{bit_xor, bit_and, differ, and_step, xor_shr}
use lib.Dec.{eqb, T, eqb→eq}
use lib.Pow.{pow_pos, pow-add, pow_mono}
use Rattle.numbers.specs.Bits.{bit, inside}
use Rattle.numbers.proofs.Tests.{and_intro, and_left, and_right, eqb_of, eqb_same}
use Rattle.numbers.proofs.Xor.{low-lt, xor_low}

-- ---- a number by its lowest digit and the rest

pub mod-digits : (n q b : ℕ) → b < 2 → (q * 2 + b) % 2 ^ suc n ≡ q % 2 ^ n * 2 + b
mod-digits n q b h = ap (λ (x : ℕ). (q * 2 + b) % x) (pow-suc 2 n) ∙ mod-mul (q * 2 + b) (pow_pos n) (omega arith) ∙ rw (digits_div q h, digits_mod q h)

-- ---- bits

pub bit-zero : (x : ℕ) → bit 0 x ≡ x % 2
bit-zero x = ap (λ (y : ℕ). y % 2) (div-one x)

pub bit-suc : (i x : ℕ) → bit (suc i) x ≡ bit i (x / 2)
bit-suc i x = ap (λ (y : ℕ). y % 2) (ap (λ (y : ℕ). x / y) (pow-suc 2 i ∙ mul_comm (2 ^ i) 2) ∙ sym (div-div-eq-div-mul x 2 (2 ^ i)))

-- a multiple of 2 ^ N does not show in the bits below N
pub bit_below : (p N a b : ℕ) → p < N → bit p (a * 2 ^ N + b) ≡ bit p b
bit_below p N a b h =
    let e : N ≡ suc (N - suc p) + p = omega arith in
    let q : 2 ^ N ≡ 2 ^ (N - suc p) * 2 * 2 ^ p =
    ap (λ (x : ℕ). 2 ^ x) e ∙ pow-add 2 (suc (N - suc p)) p ∙ ap (λ (x : ℕ). x * 2 ^ p) (pow-suc 2 (N - suc p)) in
    let r : a * 2 ^ N ≡ a * 2 ^ (N - suc p) * 2 * 2 ^ p = ap (λ (x : ℕ). a * x) q ∙ omega arith in
    rw (add_comm (a * 2 ^ N) b, r, add-mul-div_right b (a * 2 ^ (N - suc p) * 2) (pow_pos p)) (omega arith)

pub bit-xor : (i a b : ℕ) → bit i (bit_xor a b) ≡ differ (bit i a) (bit i b)
bit-xor i a b = ap (λ (x : ℕ). x % 2) (xor_shr a b i) ∙ xor_low (a / 2 ^ i) (b / 2 ^ i)

pub bit-lt : (i x : ℕ) → bit i x < 2
bit-lt i x = low-lt (x / 2 ^ i)

pub bit-of-zero : (i : ℕ) → bit i 0 ≡ 0
bit-of-zero i = ap (λ (y : ℕ). y % 2) (zero-div (2 ^ i))

-- a number below 2 ^ n has no bits from n on
pub bit_past : (n i x : ℕ) → x < 2 ^ n → n ≤ i → bit i x ≡ 0
bit_past n i x h l =
    let p : 2 ^ n ≤ 2 ^ i = pow_mono l in
    let k : x < 2 ^ i = omega arith in
    ap (λ (y : ℕ). y % 2) (div-eq_of_lt k)

-- a number with the bit s is at least 2 ^ s
pub bit_le : (s q : ℕ) → bit s q ≡ 1 → 2 ^ s ≤ q
bit_le s q e = go (dec_le (2 ^ s) q)
  where
    go : Dec (2 ^ s ≤ q) → 2 ^ s ≤ q
    go (yes l) = l
    go (no l) = let h : q < 2 ^ s = omega arith in absurd (omega (arith, div-eq_of_lt h))

-- ---- a number is its bits

bits_none : (b : ℕ) → ((i : ℕ) → bit i b ≡ 0) → b ≡ 0
bits_none =
    bin_ind (λ (b : ℕ). ((i : ℕ) → bit i b ≡ 0) → b ≡ 0) (λ f. refl)
    (λ b ih f. omega (arith, ih (λ i. sym (bit-suc i b) ∙ f (suc i)), bit-zero b, f 0))

pub bits-same : (a b : ℕ) → ((i : ℕ) → bit i a ≡ bit i b) → a ≡ b
bits-same =
    bin_ind (λ (a : ℕ). (b : ℕ) → ((i : ℕ) → bit i a ≡ bit i b) → a ≡ b)
    (λ b f. sym (bits_none b (λ i. sym (f i) ∙ bit-of-zero i)))
    (λ a ih b f. omega (arith, ih (b / 2) (λ i. sym (bit-suc i a) ∙ f (suc i) ∙ bit-suc i b), bit-zero a, bit-zero b, f 0))

-- ---- inside, by the lowest bit and the rest

-- a digit that is 1 stands over a digit that is 1
unfoldable pub covered : ℕ → ℕ → Bool
covered zero x = true
covered (suc b) x = eqb x 1

and-digits : (s b x : ℕ) → b < 2 → bit_and (s * 2 + b) x ≡ bit_and s (x / 2) * 2 + min b (x % 2)
and-digits s b x h = and_step (s * 2 + b) x ∙ rw (digits_div s h, digits_mod s h)

pub inside-digits : (s b x : ℕ) → b < 2 → inside (s * 2 + b) x ≡ (covered b (x % 2) && inside s (x / 2))
unfolding inside covered
inside-digits s b x h = rw (and-digits s b x h) (go b (x % 2) h (low-lt x))
  where
    go : (b y : ℕ) → b < 2 → y < 2 → eqb (bit_and s (x / 2) * 2 + min b y) (s * 2 + b) ≡ (covered b y && eqb (bit_and s (x / 2)) s)
    go zero y hb hy = eqb_same (bit_and s (x / 2) * 2 + min 0 y) (s * 2 + 0) (bit_and s (x / 2)) s (omega arith) (omega arith)
    go (suc zero) zero hb hy = ne_eqb (bit_and s (x / 2) * 2 + 0) (s * 2 + 1) (omega arith)
    go (suc zero) (suc zero) hb hy = eqb_same (bit_and s (x / 2) * 2 + 1) (s * 2 + 1) (bit_and s (x / 2)) s (omega arith) (omega arith)
    go (suc zero) (suc (suc y)) hb hy = absurd (omega arith)
    go (suc (suc b)) y hb hy = absurd (omega arith)

pub inside-step : (t x : ℕ) → inside t x ≡ (covered (t % 2) (x % 2) && inside (t / 2) (x / 2))
inside-step t x = let e : t ≡ t / 2 * 2 + t % 2 = omega arith in ap (λ (y : ℕ). inside y x) e ∙ inside-digits (t / 2) (t % 2) x (low-lt t)

pub inside-zero : (x : ℕ) → inside 0 x ≡ true
unfolding inside
inside-zero x = refl

covered-to : (b x : ℕ) → T (covered b x) → b ≡ 1 → x ≡ 1
unfolding covered
covered-to zero x t e = absurd (omega arith)
covered-to (suc b) x t e = eqb→eq x 1 t

covered-from : (b x : ℕ) → b < 2 → (b ≡ 1 → x ≡ 1) → T (covered b x)
unfolding covered
covered-from zero x h f = tt
covered-from (suc zero) x h f = eqb_of x 1 (f refl)
covered-from (suc (suc b)) x h f = absurd (omega arith)

-- every bit of q is a bit of t
pub inside-to : (q t : ℕ) → T (inside q t) → (i : ℕ) → bit i q ≡ 1 → bit i t ≡ 1
inside-to =
    bin_ind (λ (q : ℕ). (t : ℕ) → T (inside q t) → (i : ℕ) → bit i q ≡ 1 → bit i t ≡ 1)
    (λ t h i e. absurd (omega (arith, bit-of-zero i)))
    (λ q ih t h.
    let k : T (covered (q % 2) (t % 2) && inside (q / 2) (t / 2)) = rw (inside-step q t) at h in
    elim [
      | zero ↦ λ e. bit-zero t ∙ covered-to (q % 2) (t % 2) (and_left (covered (q % 2) (t % 2)) (inside (q / 2) (t / 2)) k) (sym (bit-zero q) ∙ e)
      | suc i ↦ λ e. bit-suc i t ∙ ih (t / 2) (and_right (covered (q % 2) (t % 2)) (inside (q / 2) (t / 2)) k) i (sym (bit-suc i q) ∙ e)
    ])

pub inside-from : (q t : ℕ) → ((i : ℕ) → bit i q ≡ 1 → bit i t ≡ 1) → T (inside q t)
inside-from =
    bin_ind (λ (q : ℕ). (t : ℕ) → ((i : ℕ) → bit i q ≡ 1 → bit i t ≡ 1) → T (inside q t))
    (λ t f. rw (inside-zero t) tt)
    (λ q ih t f.
    rw (inside-step q t)
    (and_intro (covered (q % 2) (t % 2)) (inside (q / 2) (t / 2))
    (covered-from (q % 2) (t % 2) (low-lt q) (λ e. sym (bit-zero t) ∙ f 0 (bit-zero q ∙ e)))
    (ih (t / 2) (λ i e. sym (bit-suc i t) ∙ f (suc i) (bit-suc i q ∙ e)))))
