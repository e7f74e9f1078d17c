use Rattle.numbers.specs.Bytes.{at}
use Rattle.numbers.proofs.Front.{Front}
use Rattle.lanes.specs.Inner.Terms.{coefficient_at}
use Rattle.lanes.proofs.terms.coefficients.Given as goal

abbrev pub invariant-loop-t : goal.invariant-loop-t
invariant-loop-t l = Front (coefficient_at l.search.sizes.class l.search.sizes.n l.search.sizes.k l.mixed (at l.lanes) (at l.chosen)) 256 l.t l.coefficient-items
