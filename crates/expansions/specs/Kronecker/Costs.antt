-- What an expansion of a kind costs. Its products are those of Costs, the terms whose coefficient is not 0; "literals are from now on a cube's
-- characters other than `-`"; and the two are one number, the charge.
use Rattle.std.specs.Prelude.{ℕ, ◌^◌}
use Rattle.numbers.specs.Sums.{sum_below}
use Rattle.expansions.specs.Costs.{counted}
use Rattle.expansions.specs.declared.families.Family.TheVariants.{One}
use Rattle.expansions.specs.Rules.{weight, rule_of}
use Rattle.expansions.specs.Kronecker.Letters.{literal_count, term_literal}

-- the literals of the term t: a Shannon input counts always, a Davio one where the term has it
unfoldable pub term_literals : (n : ℕ) (letters : ℕ → ℕ) (t : ℕ) → ℕ
term_literals n letters t = sum_below n (λ i. literal_count (term_literal letters t i))

-- the literals of the products, summed
unfoldable pub kronecker_literals : (n : ℕ) (letters c : ℕ → ℕ) → ℕ
kronecker_literals n letters c = sum_below (2 ^ n) (λ t. counted (c t) (term_literals n letters t))

-- the charge of family one, products * 4096 + literals, as one sum over the terms (proofs/Kronecker/Costs, `kronecker-charge-parts`): "`K` is for
-- `table` only"
unfoldable pub kronecker_charge : (n : ℕ) (letters c : ℕ → ℕ) → ℕ
kronecker_charge n letters c = sum_below (2 ^ n) (λ t. counted (c t) (weight (rule_of One) (term_literals n letters t)))
