-- The loop fills the array by the rows of the table of two inputs.
use mathlib.Core.Path.{◌≡◌, ap, ◌∙◌}
use mathlib.Core.List.{List}
use Prim.Native.Nat.{ℕ, ◌+◌, ◌*◌, ◌/◌, ◌%◌, ◌<◌}
use lib.Bits.{bit_and, and_mask}
use Rattle.numbers.specs.Bytes.{at}
use Rattle.numbers.proofs.Front.{front_more}
use Rattle.numbers.proofs.Words.{word-ext}
use Rattle.expansions.specs.BlockTable.{own_entry, own_table}
use Rattle.expansions.proofs.BlockTable.{own_table-row}
use Rattle.blocks.proofs.rows.own_rows.Goals as goal

-- where it stands in the table
abbrev start : ℕ → ℕ
start y = bit_and y 15 * 16 + y / 256 * 8

read : (entries : List ℕ) (y q : ℕ) → entries ≡ own_table → y < 512 → q < 8 → at entries (start y + q) ≡ own_entry (y % 256) (y / 256 * 8 + q)
read entries y q e hy hq = ap (λ (xs : List ℕ). at xs (start y + q)) e ∙ rw (and_mask y 4) (own_table-row y q hy hq)

pub loop-y-preserved : goal.loop-y-preserved
loop-y-preserved c =
    let l = c.loop-y in
    front_more _ _ l.y l.row-items _ c.loop-y-test.true
    (c.row_at.ensures ∙ word-ext 8 _ _ (λ q. read _ l.y q c.own_table-entries.ensures c.loop-y-test.true)) l.invariant
