-- The bits of a number. Document 01: points, terms, polarities and mixed sets are masks, "bit i−1 of p is the value of xi"; so inputs are
-- counted from 0 here.
use Rattle.std.specs.Prelude.{Bool, ℕ, ◌*◌, ◌/◌, ◌%◌, ◌^◌, eqb}
use Rattle.std.specs.Int.Bits.{bit_and}
use Rattle.numbers.specs.Sums.{sum_below}

-- bit i of x: "Inputs are x1 to xn", and "bit i−1 of p is the value of xi"
abbrev pub bit : ℕ → ℕ → ℕ
bit i x = x / 2 ^ i % 2

-- every bit of q is a bit of t
unfoldable pub inside : ℕ → ℕ → Bool
inside q t = eqb (bit_and q t) q

-- the number whose bit p is g p, for p below N
unfoldable pub pack : ℕ → (ℕ → ℕ) → ℕ
pack N g = sum_below N (λ p. g p * 2 ^ p)
