use Rattle.numbers.specs.Words.{word}
use Rattle.numbers.proofs.Front.{Front}
use Rattle.expansions.specs.BlockTable.{entry}
use Rattle.blocks.proofs.rows.block_rows.Given as goal

abbrev pub invariant-loop-g : goal.invariant-loop-g
invariant-loop-g l = Front (λ g. word 8 (entry g)) 512 l.g l.all
