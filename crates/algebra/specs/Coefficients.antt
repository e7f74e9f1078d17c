-- The coefficients of a table in one polarity: equation (5) of document 003.
use Rattle.std.specs.Prelude.{ℕ, ◌^◌}
use Rattle.std.specs.Int.Bits.{bit_xor}
use Rattle.numbers.specs.Sums.{xor_below}
use Rattle.numbers.specs.Bits.{inside}
use Rattle.numbers.specs.Tests.{only}

-- the exclusive OR of g over the numbers below 2 ^ n that lie inside t
unfoldable pub xor_inside : ℕ → (ℕ → ℕ) → ℕ → ℕ
xor_inside n g t = xor_below (2 ^ n) (λ q. only (inside q t) (g q))

-- The coefficient of the term t of the function f of n inputs under the polarity w: the derivative of f by the inputs of t, taken at w.
-- That is the exclusive OR of f over the points inside t, moved by w.
unfoldable pub coefficient : ℕ → ℕ → (ℕ → ℕ) → ℕ → ℕ
coefficient n w f t = xor_inside n (λ q. f (bit_xor q w)) t
