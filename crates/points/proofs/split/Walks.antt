-- The loops that pass the inputs one by one, the lowest first. `Passed` says what they hold once the inputs below b have been passed; the
-- next digit, as code masks it (`digit-in`, `digit-out`), shifts and joins it, is the one that gather and spread put there (`gather-digit`,
-- `spread-digit`).
use mathlib.Core.Path.{◌≡◌, refl, sym, ◌∙◌}
use Prim.Native.Nat.{ℕ, zero, suc, ◌+◌, ◌-◌, ◌*◌, ◌/◌, ◌%◌, ◌^◌, ◌≤◌, ◌<◌}
use native.Mathlib.Nat.{add_comm, mul_assoc, le_of_suc-le-suc, mul-le-mul}
use native.Mathlib.Omega.{arith}
use native.Mathlib.Numerals.{add-one}
use lib.Bits.{bit_and, bit_or, bit_xor, and_mask, and_zero_r, and_le_r, or_shifted_r}
use lib.Count.{ones_in}
use lib.Pow.{shl_exact}
use Rattle.numbers.specs.Bits.{bit}
use Rattle.numbers.proofs.Bits.{bit-lt}
use Rattle.expansions.specs.Split.{gather, spread, outside}
use Rattle.expansions.proofs.ClosedUp.{outside-bit}
use Rattle.expansions.proofs.Masks.{ones-next, gather-next, spread-next}
use Rattle.expansions.proofs.Split.{ones-size, ones-outside, gather-lt, spread-lt}

-- ---- a digit, as code masks it

-- `(x >> i) & 1` is bit i of x
digit-is : (i x : ℕ) → bit_and (x / 2 ^ i) 1 ≡ bit i x
digit-is i x = and_mask (x / 2 ^ i) 1

and-digit : (y d : ℕ) → d < 2 → bit_and y d ≡ d * (y % 2)
and-digit y zero h = and_zero_r y ∙ omega arith
and-digit y (suc zero) h = and_mask y 1 ∙ omega arith
and-digit y (suc (suc d)) h = absurd (omega arith)

flip-digit : (d : ℕ) → d < 2 → bit_xor d 1 ≡ 1 - d
flip-digit zero h = refl
flip-digit (suc zero) h = refl
flip-digit (suc (suc d)) h = absurd (omega arith)

-- bit b of y, where M has the input a
pub digit-in : (a M b y : ℕ) → bit_and (y / 2 ^ b) (bit_and (M / 2 ^ a) 1) ≡ bit a M * bit b y
digit-in a M b y = rw (digit-is a M) (and-digit (y / 2 ^ b) (bit a M) (bit-lt a M))

-- bit b of y, where M has not the input a
pub digit-out : (n a M b y : ℕ) → a < n → bit_and (y / 2 ^ b) (bit_xor (bit_and (M / 2 ^ a) 1) 1) ≡ bit a (outside n M) * bit b y
digit-out n a M b y h =
    rw (digit-is a M, flip-digit (bit a M) (bit-lt a M), ← (outside-bit n M a h)) (and-digit (y / 2 ^ b) (bit a (outside n M)) (bit-lt a (outside n M)))

-- ---- the inputs passed

-- the inputs below b, of n, have been passed, and `used` of them are in the mask
pub record Passed (n mask used b : ℕ) : Type 0 where
  pub inputs : n ≤ 8
  pub within : b ≤ n
  pub count : used ≡ ones_in b mask

pub passed_none : (n mask : ℕ) → n ≤ 8 → Passed n mask 0 0
unfolding ones_in
passed_none n mask h = record { inputs = h; within = omega arith; count = refl }

pub passed-more : (n mask used b : ℕ) → b < n → Passed n mask used b → Passed n mask (used + bit_and (mask / 2 ^ b) 1) (b + 1)
passed-more n mask used b h p =
    record { inputs = p.inputs; within = omega arith; count = rw (digit-is b mask, add-one b, ones-next b mask, p.count) }

pub passed-all : (n mask used b : ℕ) → n ≤ b → Passed n mask used b → b ≡ n
passed-all n mask used b h p = omega arith

-- no more are in the mask than were passed
pub passed-few : (n mask used b : ℕ) → Passed n mask used b → used ≤ b
passed-few n mask used b p = ones-size b used mask (sym p.count)

-- so it is a shift of a word
pub passed-shift : (n mask used b : ℕ) → Passed n mask used b → used < 64
passed-shift n mask used b p = omega (arith, passed-few n mask used b p)

-- one more fits
pub passed-fits : (n mask used b d : ℕ) → Passed n mask used b → used + bit_and d 1 < 2 ^ 64
passed-fits n mask used b d p = omega (arith, passed-few n mask used b p, and_le_r d 1)

-- the others that were passed are outside it
pub passed-outside : (n mask used b : ℕ) → Passed n mask used b → Passed n (outside n mask) (b - used) b
passed-outside n mask used b p =
    record { inputs = p.inputs; within = p.within; count = omega (arith, ones-outside n b mask p.within, p.count) }

-- ---- the next digit

bits-lt : (a x b y : ℕ) → bit a x * bit b y < 2
bits-lt a x b y = omega (arith, mul-le-mul (le_of_suc-le-suc (bit-lt a x)) (le_of_suc-le-suc (bit-lt b y)))

-- a digit put above the bits of z, which are below s
digit-above : (z s d : ℕ) → s ≤ 8 → z < 2 ^ s → d < 2 → bit_or z (d * 2 ^ s % 2 ^ 64) ≡ z + d * 2 ^ s
digit-above z s d h l hd = rw (shl_exact 1 s 64 hd (omega arith)) (or_shifted_r d s z l ∙ add_comm (d * 2 ^ s) z)

-- above the bits gathered so far
pub gather-digit : (n M used b y x d : ℕ) → Passed n M used b → y ≡ gather b M x → d ≡ bit b M * bit b x
    → bit_or y (d * 2 ^ used % 2 ^ 64) ≡ gather (b + 1) M x
gather-digit n M used b y x d p e h =
    rw (h, e)
    (digit-above (gather b M x) used (bit b M * bit b x) (omega (arith, passed-few n M used b p, p.within, p.inputs)) (rw p.count (gather-lt b M x))
    (bits-lt b M b x)
    ∙ rw (add-one b, gather-next b M x, ← p.count, mul_assoc (bit b M) (bit b x) (2 ^ used)))

-- above the bits spread so far
pub spread-digit : (n M used b x y d : ℕ) → Passed n M used b → x ≡ spread b M y → d ≡ bit b M * bit used y
    → bit_or x (d * 2 ^ b % 2 ^ 64) ≡ spread (b + 1) M y
spread-digit n M used b x y d p e h =
    rw (h, e)
    (digit-above (spread b M y) b (bit b M * bit used y) (omega arith) (spread-lt b M y) (bits-lt b M used y)
    ∙ rw (add-one b, spread-next b M y, ← p.count, mul_assoc (bit b M) (bit used y) (2 ^ b)))
