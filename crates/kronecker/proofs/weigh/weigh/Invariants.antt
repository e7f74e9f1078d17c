use Rattle.numbers.specs.Bytes.{at}
use Rattle.expansions.proofs.Kronecker.Weighing.{WeighedTo}
use Rattle.kronecker.proofs.weigh.weigh.Given as goal

abbrev pub invariant-loop-s : goal.invariant-loop-s
invariant-loop-s l = WeighedTo l.i l.more l.half l.s (at l.weights) l.next
