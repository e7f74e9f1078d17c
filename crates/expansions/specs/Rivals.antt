-- Demand 3's rivals, of every kind of k: "every other expansion of the class at that k that gives the same outputs". Document 02, W-202: "Demand 3
-- holds for `K` too, its rivals all expansions of these 3^n kinds that give the same outputs." W-205: "rivals may choose inverters too", and
-- "Kronecker listings have no inverters." W-207: "With an `f` field, cheapness is owed against every rival of the free class at that field". And the
-- least cost of a table: that of a rival which no other undercuts.
use Rattle.std.specs.Prelude.{ℕ}
use Rattle.expansions.specs.declared.kinds.Kind.{Kind}
use Rattle.expansions.specs.declared.kinds.Kind.TheVariants.{Mixed, Kronecker}
use Rattle.expansions.specs.declared.kinds.Class.{Class}
use Rattle.expansions.specs.declared.families.Family.{Family}
use Rattle.expansions.specs.Members.{InClass, Gives}
use Rattle.expansions.specs.Costs.{products, literals}
use Rattle.expansions.specs.Rules.{NoDearer}
use Rattle.expansions.specs.Kronecker.Letters.{IsKind, KroneckerGives}
use Rattle.expansions.specs.Kronecker.Costs.{kronecker_literals}

-- an expansion of the class that the kind of k selects, with any coefficients and, but for `K`, any inversion mask v, that gives the table f; w t is the
-- polarity of the term t, and p and l are its products and its literals. "rivals may choose inverters too"; "every rival of the free class at that field"
pub data Rival (n : ℕ) (f : ℕ → ℕ) : Kind → (p l : ℕ) → Type 0 where
  mixed : (C : Class) (k v M i : ℕ) (w c : ℕ → ℕ) → InClass C n k M i w → Gives n v w c f → Rival n f (Mixed C k) (products n c) (literals n c)
  kronecker : (letters c : ℕ → ℕ) → IsKind n letters → KroneckerGives n letters c f → Rival n f Kronecker (products n c) (kronecker_literals n letters c)

-- p products and l literals are the least cost of the table f at a kind of k, as the family weighs costs: an expansion of the class that gives f has
-- them, and every other that gives it "has at least as many products, and where as many, at least as many literals", or for family two no smaller charge,
-- and where it is equal no fewer products
pub record LeastCost (n : ℕ) (family : Family) (kind : Kind) (f : ℕ → ℕ) (p l : ℕ) : Type 0 where
  pub reached : Rival n f kind p l
  pub cheapest : (p' l' : ℕ) → Rival n f kind p' l' → NoDearer family p l p' l'

-- there is a least cost
abbrev pub HasLeast : (n : ℕ) → Family → Kind → (ℕ → ℕ) → Type 0
HasLeast n family kind f = (p : ℕ) × (l : ℕ) × LeastCost n family kind f p l
