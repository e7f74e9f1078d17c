-- The choice of a block that the search stores, from the functions of all blocks. Cited by the contracts of private functions; no public contract rests on
-- this file.
use Rattle.std.specs.Prelude.{ℕ, ◌-◌, ◌^◌, ltb}
use Rattle.numbers.specs.Tests.{only}
use Rattle.expansions.specs.declared.kinds.Class.{Class}
use Rattle.expansions.specs.Classes.{choices}
use Rattle.expansions.specs.declared.families.Family.{Family}
use Rattle.expansions.specs.Inner.Answer.{least_choice}
use Rattle.charges.specs.Inner.Charges.{charge_from}

-- the first least choice of block j, from the block functions, and 0 where there is no block j
unfoldable pub choice_at : Class → Family → (n k : ℕ) → (ℕ → ℕ) → ℕ → ℕ
choice_at C F n k lanes j = only (ltb j (2 ^ (n - k))) (least_choice (choices C k) (charge_from C k F lanes j))
