-- The first p values of the two are the same.
use mathlib.Core.Path.{◌≡◌}
use lib.ListN.{take}
use Rattle.table_texts.proofs.read.copy.Given as goal

abbrev pub invariant-loop-p : goal.invariant-loop-p
invariant-loop-p l = take l.p l.table ≡ take l.p l.rows
