use Rattle.numbers.specs.Bytes.{at}
use Rattle.pairs.proofs.leader.Charging.{BlocksSummed}
use Rattle.pairs.proofs.leader.others_charge.Given as goal

abbrev pub invariant-loop-j : goal.invariant-loop-j
invariant-loop-j g l = BlocksSummed l.search.sizes (at l.lanes) l.count l.others l.j
