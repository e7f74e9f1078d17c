use mathlib.Core.Path.{◌≡◌}
use Rattle.numbers.specs.Bits.{pack}
use Rattle.lanes.proofs.terms.Outputs.{output_bit}
use Rattle.lanes.proofs.terms.coefficient_in.Given as goal

abbrev pub invariant-loop-o : goal.invariant-loop-o
invariant-loop-o l = l.byte ≡ pack l.o (output_bit l.rows l.lanes l.j l.s l.choice)
