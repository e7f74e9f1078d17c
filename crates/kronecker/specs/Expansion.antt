-- The record of a Kronecker expansion: the record with no product, and document 02's words of a record that holds the answer.
use Rattle.std.specs.Prelude.{ℕ, replicate}
use Rattle.numbers.specs.Bytes.{at}
use Rattle.expansions.specs.Kronecker.Answers.{KroneckerMinimal}
use Rattle.kronecker.specs.declared.expansion.KroneckerExpansion.{KroneckerExpansion}

-- the record with no product, every letter `S`
unfoldable pub empty_kronecker : KroneckerExpansion
empty_kronecker = record { coefficients = replicate 256 0; letters = replicate 8 0; products = 0; literals = 0 }

-- the record holds the answer for the table f: "Demand 3 holds for `K` too, its rivals all expansions of these 3^n kinds that give the same
-- outputs"
abbrev pub KroneckerAnswered : ℕ → (ℕ → ℕ) → KroneckerExpansion → Type 0
KroneckerAnswered n f e = KroneckerMinimal n f (at e.letters) (at e.coefficients) e.products e.literals
