use mathlib.Core.Path.{◌≡◌}
use Rattle.expansions.specs.Split.{spread}
use Rattle.points.proofs.split.Walks.{Passed}
use Rattle.points.proofs.split.spread.Given as goal

abbrev pub invariant-loop-b : goal.invariant-loop-b
invariant-loop-b l = Passed l.n l.mask l.used l.b × (l.x ≡ spread l.b l.mask l.y)
