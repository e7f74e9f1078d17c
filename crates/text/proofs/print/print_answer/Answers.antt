-- `print_answer` meets its contract: the listing stands in the bytes, or the line `refused` is written there.
use mathlib.Core.Path.{sym}
use native.Mathlib.Omega.{arith}
use lib.Seq.{length-take-le}
use Rattle.text.specs.Print.{Print}
use Rattle.text.proofs.print.Shown.{printed-within, print-written, print-refused}
use Rattle.text.proofs.print.print_answer.Goals.{in-Ok, in-Err}
use Rattle.text.proofs.print.print_answer.Goals as goal

pub slice_bounds-compile-end : goal.slice_bounds-compile-end
slice_bounds-compile-end c = sym (length-take-le _ _ c.judged_length-judged.ensures.0)

pub invariant_of-result : goal.invariant_of-result
invariant_of-result c =
    let print : Print c.args.input.now c.match-compile.bytes c.match-compile.length =
    elim c.match-compile.branch [
      | in-Ok w ↦ rw (w.bytes-is, w.length-is) (print-written _ _ _ _ _ c.judged_length-judged.ensures.1 w.in-Ok.is c.compile.ensures)
      | in-Err w ↦ rw (w.bytes-is, w.length-is) (print-refused _ _ _ _ _ _ _ c.judged_length-judged.ensures.1 w.in-Err.is c.compile.ensures w.write_refusal-length.ensures)
    ] in
    record { within = omega (arith, print.counted, printed-within c.args.input.now) }

pub returns : goal.returns
returns c =
    elim c.match-compile.branch [
      | in-Ok w ↦ rw (w.bytes-is, w.length-is) (print-written _ _ _ _ _ c.judged_length-judged.ensures.1 w.in-Ok.is c.compile.ensures)
      | in-Err w ↦ rw (w.bytes-is, w.length-is) (print-refused _ _ _ _ _ _ _ c.judged_length-judged.ensures.1 w.in-Err.is c.compile.ensures w.write_refusal-length.ensures)
    ]
