-- `rows_of` meets its contract: the rows are those of the table by whose entries the class is searched.
use mathlib.Core.Path.{◌≡◌, sym, ap, ◌∙◌}
use mathlib.Core.List.{List}
use Prim.Native.Nat.{ℕ, zero, suc, ◌+◌, ◌*◌, ◌<◌}
use native.Mathlib.Nat.{zero-add}
use native.Mathlib.Omega.{arith}
use Rattle.numbers.specs.Bytes.{at}
use Rattle.numbers.specs.Words.{word}
use Rattle.numbers.proofs.Words.{word-ext}
use Rattle.expansions.specs.BlockTable.{entry}
use Rattle.blocks.proofs.rows.rows_of.Goals as goal

-- one row for each function
one-row : (rows : List ℕ) → ((g : ℕ) → g < 256 → at rows g ≡ word 8 (entry g))
    → (h g : ℕ) → h < 1 → g < 256 → at rows (h * 256 + g) ≡ word 8 (λ q. entry g (h * 8 + q))
one-row rows e zero g a b = ap (at rows) (zero-add g) ∙ e g b ∙ word-ext 8 _ _ (λ q l. ap (entry g) (sym (zero-add q)))
one-row rows e (suc h) g a b = absurd (omega arith)

pub returns-else-apart : goal.returns-else-apart
returns-else-apart c =
    let e = sym c.apart.ensures ∙ c.if-apart.false in
    rw e (one-row c.block_rows.result c.block_rows.ensures)
