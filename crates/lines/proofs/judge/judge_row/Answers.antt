-- `judge_row` meets its contract. Each return cites the law of proofs/judge/Steps.antt for what the line says.
use mathlib.Core.List.{List}
use mathlib.Core.Path.{◌≡◌, ap, sym, ◌∙◌}
use Prim.Native.Nat.{ℕ, ◌+◌}
use native.Mathlib.Omega.{arith}
use Rattle.std.specs.Prelude.{Some}
use Rattle.listings.proofs.Parts.{stop_le}
use Rattle.lines.specs.Inner.Steps.{rows_at}
use Rattle.lines.proofs.RowLines.{row_small}
use Rattle.lines.proofs.judge.Steps.{lines-unfinished, lines-inside, lines-wrong, lines-done, lines-follow, lines-place, lines_next, stepped_refused}
use Rattle.lines.proofs.judge.judge_row.Goals as goal

pub slice_bounds-line-end : goal.slice_bounds-line-end
slice_bounds-line-end c = omega (arith, stop_le 10 c.args.text.now c.args.cursor.at c.requires.0.inside)

pub returns-then-stop-text : goal.returns-then-stop-text
returns-then-stop-text c =
    stepped_refused _ _ _ _ _ c.requires.0 _ c.seek-stop.ensures.0 _ _ _ _ (c.at.ensures ∙ rw c.unfinished.ensures)
    (lines-unfinished _ _ _ _ _ c.requires.0 _ c.seek-stop.ensures.0 c.if-stop-text.true)

pub put_row-requires : goal.put_row-requires
put_row-requires c = (c.requires.1, row_small _ _ _ _ c.requires.1 c.requires.2 (sym c.in-Some-Row.ensures ∙ ap Some c.in-Some-Row.field-0-is))

pub returns-then-not-put_row : goal.returns-then-not-put_row
returns-then-not-put_row c =
    stepped_refused _ _ _ _ _ c.requires.0 _ c.seek-stop.ensures.0 _ _ _ _ c.at-then-not-put_row.ensures
    (lines-place _ _ _ _ _ c.requires.0 _ c.seek-stop.ensures.0 _ _ c.if-stop-text.false (sym c.in-Some-Row.ensures ∙ ap Some c.in-Some-Row.field-0-is) (sym c.if-not-put_row.ensures.value))

pub returns-else-not-put_row : goal.returns-else-not-put_row
returns-else-not-put_row c =
    let a = c.args in
    let p = c.in-Some-Row.at in
    let line : c.next_line.result.line ≡ a.cursor.line + 1 = omega arith in
    let inside = lines-inside _ a.grammar _ a.least a.rows.now c.requires.0 _ c.seek-stop.ensures.0 c.if-stop-text.false in
    record {
      meaning =
          ap (λ (t : List ℕ). rows_at a.text.now a.grammar c.next_line.result (p + 1) t) c.if-not-put_row.ensures.rows_after
          ∙ sym (lines_next _ _ _ _ _ c.requires.0 _ c.seek-stop.ensures.0 p _ _ c.if-stop-text.false (sym c.in-Some-Row.ensures ∙ ap Some c.in-Some-Row.field-0-is) (sym c.if-not-put_row.ensures.value) c.next_line.ensures.0 line);
      forward = (omega arith, record { inside = omega (arith, inside); counted = omega arith });
    }

pub returns-in-Some-End : goal.returns-in-Some-End
returns-in-Some-End c =
    record {
      meaning = sym (lines-done _ _ _ _ _ c.requires.0 _ c.seek-stop.ensures.0 c.if-stop-text.false (sym c.in-Some-End.ensures ∙ ap Some c.in-Some-End.field-0-is) c.if-stop-text-2.true);
      forward = tt;
    }

pub returns-in-Some-End-2 : goal.returns-in-Some-End-2
returns-in-Some-End-2 c =
    stepped_refused _ _ _ _ _ c.requires.0 _ c.seek-stop.ensures.0 _ _ _ _ c.at-in-Some-End-2.ensures
    (lines-follow _ _ _ _ _ c.requires.0 _ c.seek-stop.ensures.0 c.if-stop-text.false (sym c.in-Some-End.ensures ∙ ap Some c.in-Some-End.field-0-is) c.if-stop-text-2.false)

pub returns-in-None : goal.returns-in-None
returns-in-None c =
    stepped_refused _ _ _ _ _ c.requires.0 _ c.seek-stop.ensures.0 _ _ _ _ c.at-in-None.ensures
    (lines-wrong _ _ _ _ _ c.requires.0 _ c.seek-stop.ensures.0 c.if-stop-text.false (sym c.in-None.ensures))
