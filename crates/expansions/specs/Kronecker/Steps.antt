-- The coefficients of a table in a kind, by one step an input: "Uniqueness of coefficients is shown for a mixture of the three steps". Shannon's
-- step keeps the two values. Positive Davio keeps the value at 0 and negative Davio that at 1, and both put the exclusive OR of the two on
-- the terms that have the input.
use Rattle.std.specs.Prelude.{ℕ, zero, suc, ◌+◌, ◌-◌, ◌*◌, ◌^◌}
use Rattle.std.specs.Int.Bits.{bit_xor}
use Rattle.numbers.specs.Bits.{bit}

-- what the step leaves at a term, by the letter, the term's bit, and the values at 0 and at 1
unfoldable pub step_value : (letter b f0 f1 : ℕ) → ℕ
step_value zero zero f0 f1 = f0
step_value zero (suc b) f0 f1 = f1
step_value (suc zero) zero f0 f1 = f0
step_value (suc (suc letter)) zero f0 f1 = f1
step_value (suc letter) (suc b) f0 f1 = bit_xor f0 f1

-- t with bit i cleared
unfoldable pub without : (i t : ℕ) → ℕ
without i t = t - bit i t * 2 ^ i

-- the step for input i
unfoldable pub kronecker_step : (i letter : ℕ) → (ℕ → ℕ) → ℕ → ℕ
kronecker_step i letter g t = step_value letter (bit i t) (g (without i t)) (g (without i t + 2 ^ i))

-- the steps for the inputs 0 to n - 1, one after the other: "a mixture of the three steps"
unfoldable pub kronecker_coefficient : (n : ℕ) (letters f : ℕ → ℕ) → ℕ → ℕ
kronecker_coefficient zero letters f = f
kronecker_coefficient (suc n) letters f = kronecker_step n (letters n) (kronecker_coefficient n letters f)
