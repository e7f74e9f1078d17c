use mathlib.Core.Path.{◌≡◌}
use Rattle.expansions.specs.Split.{gather, outside}
use Rattle.points.proofs.split.Walks.{Passed}
use Rattle.points.proofs.split.split.Given as goal

abbrev pub invariant-loop-i : goal.invariant-loop-i
invariant-loop-i l = Passed l.n l.mixed l.used l.i × (l.place ≡ gather l.i l.mixed l.x) × (l.block ≡ gather l.i (outside l.n l.mixed) l.x)
