-- `outside` meets its contract: all inputs, less those of the mixed set.
use mathlib.Core.Path.{sym}
use native.Mathlib.Omega.{arith}
use Rattle.numbers.proofs.Shifts.{one_shifted}
use Rattle.expansions.proofs.Masks.{outside-difference}
use Rattle.points.proofs.split.outside.Goals as goal

pub returns : goal.returns
returns c = rw (one_shifted c.args.n (omega (arith, c.requires.0))) (sym (outside-difference _ _ c.requires.1))
