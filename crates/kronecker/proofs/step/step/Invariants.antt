use Prim.Native.Nat.{◌*◌}
use Rattle.numbers.specs.Bytes.{at}
use Rattle.expansions.proofs.Kronecker.Runs.{StepAt}
use Rattle.kronecker.specs.Letters.{letter_number}
use Rattle.kronecker.proofs.step.step.Given as goal

abbrev pub invariant-loop-run : goal.invariant-loop-run
invariant-loop-run l = StepAt l.i (letter_number l.letter) l.size l.half (2 * l.half * l.run) (at l.from) l.to
