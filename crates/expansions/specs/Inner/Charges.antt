-- What the terms of one block are charged under a rule, by their bits in a byte. Cited by the contracts of private functions alone.
use Rattle.std.specs.Prelude.{List, [], ◌∷◌, ℕ, zero, suc, ◌+◌, ◌*◌, ◌/◌, ◌%◌}
use Rattle.std.specs.Int.Count.{ones}
use Rattle.numbers.specs.Bytes.{at}
use Rattle.numbers.specs.Sums.{sum_below}
use Rattle.numbers.specs.Bits.{bit}
use Rattle.expansions.specs.Rules.{Rule, weight}

-- "The literal count of each of the eight terms is 0, 1, 1, 2, 1, 2, 2, 3"
unfoldable pub literal_counts : List ℕ
literal_counts = 0 ∷ 1 ∷ 1 ∷ 2 ∷ 1 ∷ 2 ∷ 2 ∷ 3 ∷ []

-- the literal count of the term t, for t below 8
unfoldable pub literal_count : ℕ → ℕ
literal_count t = at literal_counts t

-- the charge of the terms of a block that are the bits of the byte u: the weight of each, by its literals in the block
unfoldable pub byte_charge : Rule → ℕ → ℕ
byte_charge R u = sum_below 8 (λ t. bit t u * weight R (literal_count t))

-- what a block costs by the byte u of its terms, where each has `more` literals outside the mixed set
unfoldable pub used_charge : Rule → ℕ → ℕ → ℕ
used_charge R more u = byte_charge R u + more * R.literal * ones u

-- the terms of block j that are charged, of the byte u of its terms: block 0 has the constant, term 0, which goes into the inversion mask
unfoldable pub charged_terms : ℕ → ℕ → ℕ
charged_terms zero u = u / 2 * 2
charged_terms (suc j) u = u

-- what block j adds to the inversion mask, where x is the coefficient at its place 0: block 0 adds the constant's, and the others nothing
unfoldable pub constant_in : ℕ → ℕ → ℕ
constant_in zero x = x
constant_in (suc j) x = 0

-- the terms below T of the byte u as one small number: 16 for each product and 1 for each literal in the block. It is at most 140, so that
-- the sums of eight bytes stand side by side in a word; under every rule by which a product weighs more than four literals it orders the bytes as
-- their charges do (proofs/SmallSums)
unfoldable pub sum_to : ℕ → ℕ → ℕ
sum_to T u = sum_below T (λ t. bit t u * (16 + literal_count t))

-- the small sum of a byte of terms
abbrev pub small_sum : ℕ → ℕ
small_sum u = sum_to 8 u

-- the charge that a small sum stands for, where each term has `more` literals outside the mixed set
unfoldable pub sum_charge : Rule → ℕ → ℕ → ℕ
sum_charge R more s = s / 16 * weight R more + s % 16 * R.literal
