-- The lowest bit of each byte is taken off.
use native.Mathlib.Omega.{arith}
use lib.Bits.{and_le_l}
use Rattle.charges.proofs.cheapest.FirstTerms.{even-bytes}
use Rattle.charges.proofs.cheapest.without_constants.Goals as goal

pub overflow_sub-result : goal.overflow_sub-result
overflow_sub-result c = and_le_l c.args.used _

pub returns : goal.returns
returns c = even-bytes c.args.used (omega (arith, c.ranges.used))
