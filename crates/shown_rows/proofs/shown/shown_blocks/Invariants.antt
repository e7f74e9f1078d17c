use Rattle.numbers.specs.Bytes.{at}
use Rattle.shown_rows.proofs.shown.Blocks.{BlocksBelow}
use Rattle.shown_rows.proofs.shown.shown_blocks.Given as goal

abbrev pub invariant-loop-t : goal.invariant-loop-t
invariant-loop-t l = BlocksBelow l.class l.n l.k l.mixed (at l.complements) l.t l.blocks
