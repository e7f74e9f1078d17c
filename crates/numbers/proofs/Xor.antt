-- Laws of the exclusive OR of numbers, bit by bit, that the kit's lib.Bits lacks.
use mathlib.Core.Path.{◌≡◌, refl, sym, ap, ◌∙◌}
use Prim.Native.Nat.{ℕ, zero, suc, ◌+◌, ◌*◌, ◌/◌, ◌%◌, ◌<◌}
use native.Mathlib.Omega.{arith}
use lib.Arith.{bin_ind, digits_div, digits_mod}
use lib.Bits.{bit_xor, differ, xor_step, xor_zero_r, xor_self}
use lib.Dec.{lit<}

-- ---- digits

pub low-lt : (a : ℕ) → a % 2 < 2
low-lt a = omega arith

differ-assoc : (x y z : ℕ) → x < 2 → y < 2 → z < 2 → differ (differ x y) z ≡ differ x (differ y z)
differ-assoc zero y z hx hy hz = refl
differ-assoc (suc zero) zero z hx hy hz = refl
differ-assoc (suc zero) (suc zero) zero hx hy hz = refl
differ-assoc (suc zero) (suc zero) (suc zero) hx hy hz = refl
differ-assoc (suc zero) (suc zero) (suc (suc z)) hx hy hz = absurd (omega arith)
differ-assoc (suc zero) (suc (suc y)) z hx hy hz = absurd (omega arith)
differ-assoc (suc (suc x)) y z hx hy hz = absurd (omega arith)

differ-lt : (x y : ℕ) → x < 2 → y < 2 → differ x y < 2
differ-lt zero y hx hy = hy
differ-lt (suc x) zero hx hy = hx
differ-lt (suc zero) (suc zero) hx hy = lit< tt
differ-lt (suc zero) (suc (suc y)) hx hy = absurd (omega arith)
differ-lt (suc (suc x)) (suc y) hx hy = absurd (omega arith)

lows-lt : (a b : ℕ) → differ (a % 2) (b % 2) < 2
lows-lt a b = differ-lt (a % 2) (b % 2) (low-lt a) (low-lt b)

-- ---- exclusive OR by the lowest bit and the rest

pub xor-half : (a b : ℕ) → bit_xor a b / 2 ≡ bit_xor (a / 2) (b / 2)
xor-half a b = ap (λ (x : ℕ). x / 2) (xor_step a b) ∙ digits_div (bit_xor (a / 2) (b / 2)) (lows-lt a b)

pub xor_low : (a b : ℕ) → bit_xor a b % 2 ≡ differ (a % 2) (b % 2)
xor_low a b = ap (λ (x : ℕ). x % 2) (xor_step a b) ∙ digits_mod (bit_xor (a / 2) (b / 2)) (lows-lt a b)

pub xor-digits : (s b w : ℕ) → b < 2 → bit_xor (s * 2 + b) w ≡ bit_xor s (w / 2) * 2 + differ b (w % 2)
xor-digits s b w h = xor_step (s * 2 + b) w ∙ rw (digits_div s h, digits_mod s h)

-- ---- a group

pub xor_assoc : (a b c : ℕ) → bit_xor (bit_xor a b) c ≡ bit_xor a (bit_xor b c)
xor_assoc a =
    bin_ind (λ (n : ℕ). (b c : ℕ) → bit_xor (bit_xor n b) c ≡ bit_xor n (bit_xor b c)) (λ b c. refl)
    (λ n ih b c.
    cc (
      xor_step (bit_xor n b) c,
      xor-half n b,
      xor_low n b,
      ih (b / 2) (c / 2),
      differ-assoc (n % 2) (b % 2) (c % 2) (low-lt n) (low-lt b) (low-lt c),
      xor_step n (bit_xor b c),
      xor-half b c,
      xor_low b c,
    )) a

pub xor-cancel-l : (a b : ℕ) → bit_xor a (bit_xor a b) ≡ b
xor-cancel-l a b = sym (xor_assoc a a b) ∙ ap (λ (x : ℕ). bit_xor x b) (xor_self a)

pub xor-cancel-r : (a b : ℕ) → bit_xor (bit_xor a b) b ≡ a
xor-cancel-r a b = xor_assoc a b b ∙ ap (bit_xor a) (xor_self b) ∙ xor_zero_r a

pub xor-eq : (a b : ℕ) → bit_xor a b ≡ 0 → a ≡ b
xor-eq a b e = sym (xor-cancel-r a b) ∙ ap (λ (x : ℕ). bit_xor x b) e
