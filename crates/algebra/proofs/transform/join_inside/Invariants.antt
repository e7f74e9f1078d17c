use Prim.Native.Nat.{◌+◌}
use Rattle.algebra.specs.Inner.Steps.{half_step}
use Rattle.algebra.proofs.transform.Inputs.{SteppedTo}
use Rattle.algebra.proofs.transform.join_inside.Given as goal

abbrev pub invariant-loop-s : goal.invariant-loop-s
invariant-loop-s l = SteppedTo (λ x. half_step 1 (l.low + x)) l.low l.n l.s l.initial.bytes l.bytes
