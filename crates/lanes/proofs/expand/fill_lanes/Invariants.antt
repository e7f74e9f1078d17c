use Prim.Native.Nat.{◌*◌}
use lib.ListN.{length}
use Rattle.numbers.proofs.Front.{Front}
use Rattle.lanes.proofs.expand.Laying.{laid_byte}
use Rattle.lanes.proofs.expand.fill_lanes.Given as goal

abbrev pub invariant-loop-q : goal.invariant-loop-q
invariant-loop-q l = Front (laid_byte l.table l.points l.offsets) (length l.initial.lanes) (8 * l.q) l.lanes
