use mathlib.Core.Path.{◌≡◌}
use lib.ListN.{length}
use Rattle.numbers.proofs.Front.{Front}
use Rattle.expansions.specs.Split.{spread}
use Rattle.lanes.proofs.expand.open_out.Given as goal

abbrev pub invariant-loop-point : goal.invariant-loop-point
invariant-loop-point l = Front (spread l.n l.mask) (length l.initial.points) l.point-index l.points × (l.next ≡ spread l.n l.mask l.point-index)
