use Rattle.shown_rows.proofs.shown.Counting.{Counting}
use Rattle.shown_rows.proofs.shown.count_rows.Given as goal

abbrev pub invariant-loop-t : goal.invariant-loop-t
invariant-loop-t l = Counting l.rows l.t l.products l.literals
