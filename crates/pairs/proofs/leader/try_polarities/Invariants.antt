use Rattle.numbers.specs.Bytes.{at}
use Rattle.pairs.proofs.leader.Trying.{Trying}
use Rattle.pairs.proofs.leader.try_polarities.Given as goal

abbrev pub invariant-loop-w : goal.invariant-loop-w
invariant-loop-w l = Trying l.search.sizes l.mixed (at l.table) l.count l.w l.lanes l.led
