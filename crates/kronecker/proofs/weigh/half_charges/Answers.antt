-- `half_charges` meets its contract: after s turns the first s places of each half are weighed.
use native.Mathlib.Omega.{arith}
use Rattle.expansions.proofs.Kronecker.Weighing.{halves-none, halves-more, halves-fit}
use Rattle.kronecker.proofs.weigh.half_charges.Goals as goal

pub loop-s-init : goal.loop-s-init
loop-s-init c = halves-none _ _ _ c.requires.0 c.requires.1

pub overflow_add-lower : goal.overflow_add-lower
overflow_add-lower c =
    let fit = halves-fit _ _ _ _ _ _ _ _ c.loop-s-test.true c.loop-s.invariant _ _ c.counted_weight-lower.ensures in
    omega (arith, fit.0)

pub overflow_add-upper : goal.overflow_add-upper
overflow_add-upper c =
    let fit = halves-fit _ _ _ _ _ _ _ _ c.loop-s-test.true c.loop-s.invariant _ _ c.counted_weight-upper.ensures in
    omega (arith, fit.1)

pub overflow_add-both : goal.overflow_add-both
overflow_add-both c =
    let fit = halves-fit _ _ _ _ _ _ _ _ c.loop-s-test.true c.loop-s.invariant _ _ c.counted_weight-both.ensures in
    omega (arith, fit.2)

pub loop-s-preserved : goal.loop-s-preserved
loop-s-preserved c =
    halves-more _ _ _ _ _ _ _ _ _ _ _ c.loop-s-test.true c.loop-s.invariant c.counted_weight-lower.ensures
    c.counted_weight-upper.ensures c.counted_weight-both.ensures
