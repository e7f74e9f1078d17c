-- The loop fills the front of the array by the rows of the block table.
use mathlib.Core.Path.{◌≡◌, ap, ◌∙◌}
use mathlib.Core.List.{List}
use Prim.Native.Nat.{ℕ, ◌+◌, ◌*◌, ◌<◌}
use native.Mathlib.Omega.{arith}
use Rattle.numbers.specs.Bytes.{at}
use Rattle.numbers.proofs.Front.{front_more}
use Rattle.numbers.proofs.Words.{word-ext}
use Rattle.expansions.specs.BlockTable.{entry, block_table}
use Rattle.expansions.proofs.BlockTable.{block_table-entry}
use Rattle.blocks.proofs.rows.block_rows.Goals as goal

-- the entries that are read are those of the row
read : (entries : List ℕ) (g q : ℕ) → entries ≡ block_table → g < 256 → q < 8 → at entries (g * 8 + q) ≡ entry g q
read entries g q e hg hq = ap (λ (xs : List ℕ). at xs (g * 8 + q)) e ∙ block_table-entry g q hg hq

pub loop-g-preserved : goal.loop-g-preserved
loop-g-preserved c =
    let l = c.loop-g in
    front_more _ _ l.g l.all _ (omega arith)
    (c.row_at.ensures ∙ word-ext 8 _ _ (λ q. read _ l.g q c.block_table-entries.ensures c.loop-g-test.true)) l.invariant
