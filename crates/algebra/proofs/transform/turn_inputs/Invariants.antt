use Prim.Native.Nat.{◌+◌}
use Rattle.algebra.specs.Inner.Steps.{turned_where}
use Rattle.algebra.proofs.transform.Inputs.{SteppedTo}
use Rattle.numbers.specs.Bits.{bit}
use Rattle.algebra.proofs.transform.turn_inputs.Given as goal

abbrev pub invariant-loop-i : goal.invariant-loop-i
invariant-loop-i l = SteppedTo (λ x. turned_where (bit x l.changed) (l.low + x)) l.low l.n l.i l.initial.bytes l.bytes
