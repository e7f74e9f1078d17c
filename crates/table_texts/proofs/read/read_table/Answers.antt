-- `read_table` meets its contract. An accepted text gives 256 rows, which are copied; a refusal leaves the lent table as it was.
use mathlib.Core.Path.{◌≡◌, sym}
use native.Mathlib.Nat.{lt_of_lt_of_le}
use borrow.Author.Tests.{eq-eqb, ne_eqb}
use lib.ListN.{length}
use Rattle.std.proofs.Common.{rules}
use Rattle.numbers.proofs.Shifts.{points-le}
use Rattle.table_texts.specs.Inner.Reading.{given, reading, stands_for, lent, table_after}
use Rattle.table_texts.proofs.read.Accepted.{reading-accepted}
use Rattle.table_texts.proofs.read.Words.{read-words}
use Rattle.table_texts.proofs.read.read_table.Goals as goal
use Rattle.table_texts.proofs.read.read_table.Goals.{In_ok-design}

-- an accepted text gives the rows
rows-read : (c : In_ok-design) → reading c.args.text.now ≡ given c.in_ok-design.design c.judge_text.new.rows
unfolding stands_for
rows-read c = sym (rw c.in_ok-design.was at c.judge_text.ensures)

pub returns-in_err-design : goal.returns-in_err-design
unfolding stands_for lent table_after
returns-in_err-design c =
    let same : c.from_residual.result ≡ c.judge_text.result = search rules in
    read-words _ _ _ _ (rw (same, ← c.judge_text.ensures, c.in_err-design.was)) (rw (← c.judge_text.ensures, c.in_err-design.was))

pub returns-then-table-ne-PLACES : goal.returns-then-table-ne-PLACES
unfolding stands_for lent table_after
returns-then-table-ne-PLACES c =
    let other = ne_eqb (length c.args.table.now) 256 c.if-table-ne-PLACES.true in
    let read = rows-read (goal.at.returns-then-table-ne-PLACES c).In_ok-design in
    read-words _ _ _ _ (rw (c.at.ensures, read, other)) (rw (read, other))

pub copy-requires : goal.copy-requires
copy-requires c =
    let accepted = reading-accepted _ _ _ (rows-read (goal.at.copy-requires c).In_ok-design) in
    (c.if-table-ne-PLACES.false, λ p. lt_of_lt_of_le (accepted.table.small p) (points-le _ accepted.sized.outputs.1))

pub returns : goal.returns
unfolding stands_for lent table_after
returns c =
    let fits = eq-eqb (length c.args.table.now) 256 c.if-table-ne-PLACES.false in
    let read = rows-read (goal.at.returns c).In_ok-design in
    read-words _ _ _ _ (rw (read, fits, c.copy.ensures)) (rw (read, fits, c.copy.ensures))
