use mathlib.Core.Path.{◌≡◌}
use Rattle.charges.proofs.cheapest.Used.{or_below}
use Rattle.charges.proofs.cheapest.used_terms.Given as goal

abbrev pub invariant-loop-o : goal.invariant-loop-o
invariant-loop-o l = l.used ≡ or_below l.rows l.lanes l.half l.j l.o
