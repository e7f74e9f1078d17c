-- The values of a function below a bound, joined into one number: by exclusive OR, and by addition.
use Rattle.std.specs.Prelude.{ℕ, zero, suc, ◌+◌}
use Rattle.std.specs.Int.Bits.{bit_xor}

-- g 0, g 1, .., g (N - 1) joined by op, from 0
unfoldable pub fold_below : (ℕ → ℕ → ℕ) → ℕ → (ℕ → ℕ) → ℕ
fold_below op zero g = 0
fold_below op (suc N) g = op (fold_below op N g) (g N)

-- the exclusive OR of g 0, .., g (N - 1): all outputs together, bit o for output o
abbrev pub xor_below : ℕ → (ℕ → ℕ) → ℕ
xor_below = fold_below bit_xor

-- the sum of g 0, .., g (N - 1)
abbrev pub sum_below : ℕ → (ℕ → ℕ) → ℕ
sum_below = fold_below ◌+◌
