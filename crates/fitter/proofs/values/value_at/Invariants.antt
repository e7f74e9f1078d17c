use mathlib.Core.Path.{◌≡◌}
use lib.Bits.{bit_xor}
use Rattle.numbers.specs.Bytes.{at}
use Rattle.numbers.specs.Sums.{fold_below}
use Rattle.numbers.specs.Tests.{only}
use Rattle.algebra.specs.Terms.{holds}
use Rattle.fitter.proofs.values.value_at.Given as goal

abbrev pub invariant-loop-t : goal.invariant-loop-t
invariant-loop-t l = l.sum ≡ fold_below bit_xor l.t (λ u. only (holds u (at l.complements u) l.p) (at l.coefficients u))
