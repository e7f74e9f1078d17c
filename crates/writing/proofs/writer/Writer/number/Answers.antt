-- `number` meets its contract: its digits are written, the highest first.
use native.Mathlib.Omega.{arith}
use Rattle.listings.proofs.Characters.{digit_count-in}
use Rattle.writing.proofs.writer.Writer.number.Goals as goal

pub descending-requires-clause-callable : goal.descending-requires-clause-callable
descending-requires-clause-callable c = λ i h _ _ _ _ _ _. omega (arith, digit_count-in c.args.x)
