use mathlib.Core.Bool.{not}
use lib.Dec.{eqb}
use Rattle.charges.proofs.cheapest.Choices.{Tried}
use Rattle.charges.proofs.cheapest.least_sum.Given as goal

abbrev pub invariant-loop-choice : goal.invariant-loop-choice
invariant-loop-choice g l = Tried (not (eqb g.row.MASKED 0)) l.sums l.masks l.least l.rest l.rest_masks l.choice
