-- The rules by which the part families charge. Document 02, W-203: "The cost of a block is now a charge under a stated rule". First what each family
-- compares, in words; then the same as one number, a sum over the products. That the number says the same, and that products and literals are had back
-- from it, are the laws `charge-cost`, `charge-products` and `charge-literals` of proofs/Costs. With document 02's inverters (W-205) a term has a price.
use Rattle.std.specs.Prelude.{ℕ, zero, suc, ◌+◌, ◌-◌, ◌*◌, ◌/◌, ◌%◌, ◌≤◌, ◌≡◌}
use Rattle.expansions.specs.declared.families.Family.{Family}
use Rattle.expansions.specs.declared.families.Family.TheVariants.{One, Two}
use Rattle.expansions.specs.Costs.{counted}

-- ---- in words

-- what a family compares first. Family one: "fewest products", "Texts that begin `table` keep products first." Family two: "4 × products + literals"
abbrev pub cost_of : Family → (p l : ℕ) → ℕ
cost_of One p l = p
cost_of Two p l = 4 * p + l

-- and what it compares where that is equal. Family one: "then fewest literals". Family two: "among equal charges by fewest products"
abbrev pub tie_of : Family → (p l : ℕ) → ℕ
tie_of One p l = l
tie_of Two p l = p

-- p products and l literals cost no more than p' and l'. Family one: "at least as many products, and where as many, at least as many literals".
-- Family two: "demand 3 weighs its rivals in the same way", by the charge, and where it is equal by the products
abbrev pub NoDearer : Family → (p l p' l' : ℕ) → Type 0
NoDearer F p l p' l' = (cost_of F p l ≤ cost_of F p' l') × (cost_of F p l ≡ cost_of F p' l' → tie_of F p l ≤ tie_of F p' l')

-- ---- as one number

-- A rule of charging: what a product weighs without its literals, what each literal of it adds, and how products and literals are had back from the
-- sum of the weights: "a charge under a stated rule"
pub record Rule : Type 0 where
  pub product : ℕ
  pub literal : ℕ
  pub products_in : ℕ → ℕ
  pub literals_in : ℕ → ℕ

-- what a product of l literals weighs
unfoldable pub weight : Rule → ℕ → ℕ
weight R l = R.product + l * R.literal

-- Family one: 4096 + l, so that the sum is products * 4096 + literals; there are fewer than 4,096 literals. Family two: (4 + l) * 512 + 1, so that the
-- sum is (4 * products + literals) * 512 + products; there are fewer than 512 products
abbrev pub rule_of : Family → Rule
rule_of One = record { product = 4096; literal = 1; products_in = λ x. x / 4096; literals_in = λ x. x % 4096 }
rule_of Two = record { product = 4 * 512 + 1; literal = 512; products_in = λ x. x % 512; literals_in = λ x. x / 512 - 4 * (x % 512) }

-- ---- with inverters

-- What a term of l literals with the coefficient c is charged by a rule, where every output has an inverter: "Output inverters are free", and equal
-- costs "go to the least mask". The term without literals is the constant 1; its coefficient is the inversion mask, and counts as the number that it
-- is. Every other product is charged 256 times its weight, so that no mask outweighs it
unfoldable pub price : Rule → (l c : ℕ) → ℕ
price R zero c = c
price R (suc l) c = counted c (weight R (suc l)) * 256
