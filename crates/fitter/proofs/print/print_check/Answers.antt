-- `print_check` meets its contract: the line of the check's answer stands in the bytes.
use mathlib.Core.Path.{sym}
use native.Mathlib.Omega.{arith}
use lib.Seq.{length-take-le}
use Rattle.fitter.proofs.Printed.{answer-within, print-holds}
use Rattle.fitter.proofs.print.print_check.Goals as goal

pub slice_bounds-check-end : goal.slice_bounds-check-end
slice_bounds-check-end c = sym (length-take-le _ _ c.judged_length-judged.ensures.0)

pub slice_bounds-check-end-2 : goal.slice_bounds-check-end-2
slice_bounds-check-end-2 c = sym (length-take-le _ _ c.judged_length-other.ensures.0)

pub invariant_of-result : goal.invariant_of-result
invariant_of-result c = record { within = omega (arith, c.write_answer-length.ensures.to, answer-within c.check.result) }

pub returns : goal.returns
returns c =
    print-holds _ _ _ _ _ _ _ c.judged_length-judged.ensures.1 c.judged_length-other.ensures.1 c.check.ensures c.write_answer-length.ensures
