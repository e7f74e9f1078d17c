-- `join_inside` meets its contract: after s turns the steps for the inputs below s have been done.
use Rattle.algebra.proofs.HalfSteps.{half-below}
use Rattle.algebra.proofs.transform.Inputs.{stepped-none, stepped-ready, stepped-more}
use Rattle.algebra.proofs.transform.join_inside.Goals as goal

pub loop-s-init : goal.loop-s-init
loop-s-init c = stepped-none _ _ _ _ c.requires

pub half_step-requires : goal.half_step-requires
half_step-requires c = stepped-ready _ _ _ _ _ _ c.loop-s-test.true c.loop-s.invariant

pub loop-s-preserved : goal.loop-s-preserved
loop-s-preserved c =
    stepped-more _ _ _ _ _ _ _ c.loop-s-test.true (half-below _ 1 _) c.loop-s.invariant c.half_step.ensures
