-- The lowest point that differs, as the code tells it. Cited by the contracts of private functions alone.
use Rattle.std.specs.Prelude.{ℕ, Option, Some, None}
use Rattle.expansions.specs.Least.{Best, nothing, best}

-- what each case of a search for a difference stands for
unfoldable pub difference_of : Best → Option ℕ
difference_of nothing = None
difference_of (best p) = Some p
