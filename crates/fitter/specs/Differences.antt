-- What rows give at a point, and the lowest point at which two functions differ. Document 02, W-201: "differs, with the lowest point that differs";
-- W-205: "The fitter's check reads the line and inverts."
use Rattle.std.specs.Prelude.{not, ℕ, ◌^◌, eqb}
use Rattle.std.specs.Int.Bits.{bit_xor}
use Rattle.algebra.specs.Terms.{value}
use Rattle.expansions.specs.Least.{Best, first_least}

-- "An output is the exclusive OR of its terms, then inverted where marked", at the point p: w t are the inputs that the term t shows complemented, c t is
-- its coefficient, and v is the inversion mask
abbrev pub inverted_value : ℕ → (w c : ℕ → ℕ) → (v p : ℕ) → ℕ
inverted_value n w c v p = bit_xor (value n w c p) v

-- the lowest point of n inputs at which g is not f, if there is one: the first of those that differ, all of one charge
unfoldable pub first_difference : ℕ → (ℕ → ℕ) → (ℕ → ℕ) → Best
first_difference n g f = first_least (2 ^ n) (λ p. not (eqb (g p) (f p))) (λ p. 0)
