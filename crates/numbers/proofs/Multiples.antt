-- Multiples of a number, of 2 ^ n among them.
use mathlib.Core.Path.{◌≡◌, sym, ◌∙◌}
use Prim.Native.Nat.{ℕ, ◌+◌, ◌-◌, ◌/◌, ◌%◌, ◌^◌, ◌≤◌, ◌<◌}
use native.Mathlib.Nat.{div-add-mod', suc-mul, zero-mod, mul-le-mul_right}
use native.Mathlib.Decide.{dec_lt}
use native.Mathlib.Omega.{arith}
use lib.Pow.{mod-mod-pow}

-- a multiple of d that is below another is so by d at least
pub multiple-room : (d a b : ℕ) → a % d ≡ 0 → b % d ≡ 0 → a < b → a + d ≤ b
multiple-room d a b ea eb h = go (dec_lt (a / d) (b / d))
  where
    go : Dec (a / d < b / d) → a + d ≤ b
    go (yes l) = omega (arith, div-add-mod' a d, div-add-mod' b d, mul-le-mul_right d l, suc-mul (a / d) d)
    go (no l) = let k : b / d ≤ a / d = omega arith in absurd (omega (arith, div-add-mod' a d, div-add-mod' b d, mul-le-mul_right d k))

-- a multiple of 2 ^ n is one of 2 ^ k
pub multiple-down : (n k x : ℕ) → k ≤ n → x % 2 ^ n ≡ 0 → x % 2 ^ k ≡ 0
multiple-down n k x h e =
    let s : n ≡ n - k + k = omega arith in
    sym (mod-mod-pow x (n - k) k) ∙ rw (← s, e) (zero-mod (2 ^ k))
