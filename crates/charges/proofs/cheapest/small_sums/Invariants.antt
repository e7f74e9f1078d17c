use Rattle.charges.proofs.cheapest.Sums.{Summed}
use Rattle.charges.proofs.cheapest.small_sums.Given as goal

abbrev pub invariant-loop-t : goal.invariant-loop-t
invariant-loop-t l = Summed l.used l.sums l.t
