-- After t turns the word holds the small sums of the terms below t.
use native.Mathlib.Omega.{arith}
use Rattle.expansions.specs.Inner.Charges.{literal_counts, literal_count}
use Rattle.charges.proofs.cheapest.Sums.{summed-none, summed-fits, summed-more, summed-all}
use Rattle.charges.proofs.cheapest.small_sums.Goals as goal

pub loop-t-init : goal.loop-t-init
loop-t-init c = summed-none _ (omega (arith, c.ranges.used))

pub overflow_mul-sums : goal.overflow_mul-sums
unfolding literal_counts literal_count
overflow_mul-sums c = omega (arith, summed-fits _ _ _ _ c.loop-t-test.true c.from.ensures c.loop-t.invariant)

pub overflow_add-sums-in-loop-t : goal.overflow_add-sums-in-loop-t
unfolding literal_counts literal_count
overflow_add-sums-in-loop-t c = omega (arith, summed-fits _ _ _ _ c.loop-t-test.true c.from.ensures c.loop-t.invariant)

pub loop-t-preserved : goal.loop-t-preserved
unfolding literal_counts literal_count
loop-t-preserved c = summed-more _ _ _ _ c.loop-t-test.true c.from.ensures c.loop-t.invariant

pub returns : goal.returns
returns c = summed-all _ _ _ c.loop-t-test.false c.loop-t.invariant
