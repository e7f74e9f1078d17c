-- A shift to the left and a mask of the lowest bits, as code computes them at 64 bits, and what fits a byte.
use mathlib.Core.Path.{◌≡◌, ◌∙◌}
use Prim.Native.Nat.{ℕ, ◌-◌, ◌*◌, ◌%◌, ◌^◌, ◌<◌, ◌≤◌}
use native.Mathlib.Omega.{arith}
use lib.Bits.{bit_and, and_mask, mask_lt}
use lib.Dec.{lit<}
use lib.Pow.{shl_exact, pow_mono}

-- `1 << s` is 2 ^ s
pub one_shifted : (s : ℕ) → s < 64 → 1 * 2 ^ s % 2 ^ 64 ≡ 2 ^ s
one_shifted s h = shl_exact 1 s 64 (lit< tt) (omega arith) ∙ omega arith

-- `x & ((1 << s) - 1)` is x % 2 ^ s
pub mask-shifted : (s x : ℕ) → s < 64 → bit_and x (1 * 2 ^ s % 2 ^ 64 - 1) ≡ x % 2 ^ s
mask-shifted s x h = rw (one_shifted s h) (and_mask x s)

-- `x & 255` fits a byte
pub mask-byte : (x : ℕ) → bit_and x 255 < 256
mask-byte x = mask_lt x 8

-- a table of n inputs has at most 256 points
pub points-le : (n : ℕ) → n ≤ 8 → 2 ^ n ≤ 256
points-le n h = pow_mono {i = n} {j = 8} h
