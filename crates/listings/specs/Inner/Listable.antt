-- The records that the writing functions take. Cited by the contracts of private functions alone.
use Rattle.std.specs.Prelude.{◌≡◌, ℕ, ◌^◌, ◌≤◌, ◌<◌}
use Rattle.numbers.specs.Bytes.{at}
use Rattle.expansions.specs.Costs.{products}
use Rattle.search.specs.declared.expansion.Expansion.{Expansion}

-- an expansion that can be written: at most eight inputs and outputs, masks of n inputs, and as many products as its record states
pub record Listable (n m : ℕ) (e : Expansion) : Type 0 where
  pub inputs : n ≤ 8
  pub outputs : m ≤ 8
  pub mixed : e.mixed < 2 ^ n
  pub fixed : e.fixed < 2 ^ n
  pub counted : e.products ≡ products n (at e.coefficients)
