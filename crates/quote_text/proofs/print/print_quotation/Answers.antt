-- `print_quotation` meets its contract: the line of the quotation stands in the bytes.
use mathlib.Core.Path.{sym}
use native.Mathlib.Omega.{arith}
use lib.Seq.{length-take-le}
use Rattle.quote_text.proofs.Printed.{quotation-within, print-holds}
use Rattle.quote_text.proofs.print.print_quotation.Goals as goal

pub slice_bounds-quote-end : goal.slice_bounds-quote-end
slice_bounds-quote-end c = sym (length-take-le _ _ c.judged_length-judged.ensures.0)

pub invariant_of-result : goal.invariant_of-result
invariant_of-result c = record { within = omega (arith, c.write_quotation-length.ensures.to, quotation-within c.quote.result) }

pub returns : goal.returns
returns c =
    print-holds _ _ _ _ _ c.judged_length-judged.ensures.1 c.quote.ensures c.write_quotation-length.ensures
