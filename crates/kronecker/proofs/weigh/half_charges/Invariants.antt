use Rattle.numbers.specs.Bytes.{at}
use Rattle.expansions.proofs.Kronecker.Weighing.{HalvesTo}
use Rattle.kronecker.proofs.weigh.half_charges.Given as goal

abbrev pub invariant-loop-s : goal.invariant-loop-s
invariant-loop-s l = HalvesTo l.m l.half l.s (at l.values) (at l.weights) l.lower l.upper l.both
