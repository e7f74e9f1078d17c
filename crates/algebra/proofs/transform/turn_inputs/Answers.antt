-- `turn_inputs` meets its contract: after i turns the inputs below i that are bits of `changed` have been turned over.
use mathlib.Core.Path.{sym, ◌∙◌}
use Prim.Native.Nat.{◌/◌, ◌^◌}
use lib.Bits.{and_mask}
use Rattle.algebra.proofs.HalfSteps.{where_below}
use Rattle.algebra.proofs.transform.Inputs.{stepped-none, stepped-ready, stepped-more, turned_none, turned-one}
use Rattle.algebra.proofs.transform.turn_inputs.Goals as goal
use Rattle.algebra.proofs.transform.turn_inputs.Goals.{then-turned, else-turned}

pub loop-i-init : goal.loop-i-init
loop-i-init c = stepped-none _ _ _ _ c.requires

pub half_step-requires : goal.half_step-requires
half_step-requires c = stepped-ready _ _ _ _ _ _ c.loop-i-test.true c.loop-i.invariant

pub loop-i-preserved : goal.loop-i-preserved
loop-i-preserved c =
    let digit = and_mask (c.args.changed / 2 ^ c.loop-i.i) 1 in
    stepped-more _ _ _ _ _ _ _ c.loop-i-test.true (where_below _ _ _) c.loop-i.invariant
    (elim c.if-turned.branch [
      | then-turned w ↦ w.bytes-is ∙ turned-one _ _ _ _ (λ e. w.if-turned.true (digit ∙ e)) w.half_step.ensures
      | else-turned w ↦ w.bytes-is ∙ turned_none _ _ _ (sym digit ∙ w.if-turned.false)
    ])
