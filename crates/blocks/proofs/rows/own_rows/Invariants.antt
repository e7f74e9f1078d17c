use Prim.Native.Nat.{◌+◌, ◌*◌, ◌/◌, ◌%◌}
use Rattle.numbers.specs.Words.{word}
use Rattle.numbers.proofs.Front.{Front}
use Rattle.expansions.specs.BlockTable.{own_entry}
use Rattle.blocks.proofs.rows.own_rows.Given as goal

abbrev pub invariant-loop-y : goal.invariant-loop-y
invariant-loop-y l = Front (λ y. word 8 (λ q. own_entry (y % 256) (y / 256 * 8 + q))) 512 l.y l.row-items
