use mathlib.Core.Path.{◌≡◌}
use lib.ListN.{length}
use Rattle.expansions.proofs.Kronecker.Coefficients.{CoefficientsTo}
use Rattle.kronecker.proofs.answer.coefficients.Given as goal

abbrev pub invariant-loop-i : goal.invariant-loop-i
invariant-loop-i l = (length l.values ≡ 256) × CoefficientsTo l.n l.size l.i l.letters l.table l.values
