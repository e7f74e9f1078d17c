-- `move_points` meets its contract: after q turns the first q places are filled.
use native.Mathlib.Omega.{arith}
use Rattle.numbers.proofs.Bytes.{filled-all}
use Rattle.algebra.proofs.transform.move_points.Goals as goal

pub returns : goal.returns
returns c = filled-all _ _ _ _ (omega arith) c.loop-q.invariant
