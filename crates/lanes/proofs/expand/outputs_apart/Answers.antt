-- `outputs_apart` meets its contract: the rule of the 256 bytes is one test (`word-apart`).
use native.Mathlib.Omega.{arith}
use Rattle.numbers.proofs.WordBits.{word-apart}
use Rattle.lanes.proofs.expand.outputs_apart.Goals as goal

pub returns : goal.returns
returns c = rw c.from.ensures (word-apart _ (omega (arith, c.ranges.outputs)))
