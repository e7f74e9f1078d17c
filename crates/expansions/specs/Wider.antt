-- One more mixed input in the free class. Document 02, W-207: "for tables with n of 2 or more `f2` never costs more than `f1`, nor `f1` more than `f0`."
-- `f1` is a field from n = 1 on, and the second half holds from there.
use Rattle.std.specs.Prelude.{ℕ, ◌^◌, ◌≤◌, ◌<◌}
use Rattle.expansions.specs.declared.families.Family.{Family}
use Rattle.expansions.specs.declared.kinds.Kind.{Kind}
use Rattle.expansions.specs.declared.kinds.Kind.TheVariants.{Mixed}
use Rattle.expansions.specs.declared.kinds.Class.TheVariants.{Free}
use Rattle.expansions.specs.Rules.{NoDearer}
use Rattle.expansions.specs.Rivals.{LeastCost, HasLeast}

-- the table f "never costs more" at one kind of k than at another, as the family weighs costs
abbrev pub NeverDearer : (n : ℕ) → Family → (ℕ → ℕ) → (kind other : Kind) → Type 0
NeverDearer n family f kind other = (p l p' l' : ℕ) → LeastCost n family other f p l → LeastCost n family kind f p' l' → NoDearer family p' l' p l

-- W-207 of a table f of n inputs, for each family
pub record WiderNoDearer (n : ℕ) (family : Family) (f : ℕ → ℕ) : Type 0 where
  -- the table has a least cost at each of these fields: "n inputs (1 to 8)", bytes for the outputs, and no `f` with a digit "above 2 or above n"
  pub least : n ≤ 8 → ((p : ℕ) → p < 2 ^ n → f p < 2 ^ 8) → (k : ℕ) → k ≤ 2 → k ≤ n → HasLeast n family (Mixed Free k) f
  -- "`f2` never costs more than `f1`"
  pub f2 : 2 ≤ n → NeverDearer n family f (Mixed Free 2) (Mixed Free 1)
  -- "nor `f1` more than `f0`"
  pub f1 : 1 ≤ n → NeverDearer n family f (Mixed Free 1) (Mixed Free 0)
