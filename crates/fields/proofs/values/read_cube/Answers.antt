-- `read_cube` meets its contract. The invariant: the characters passed show `term` and `complemented`, and the field says what the characters left
-- say after them.
use mathlib.Core.Path.{◌≡◌, sym, ◌∙◌}
use native.Mathlib.Omega.{arith}
use lib.Dec.{lit<}
use Rattle.numbers.proofs.Shifts.{points-le}
use Rattle.fields.specs.Cubes.{character_said}
use Rattle.fields.proofs.Numbers.{two-more}
use Rattle.fields.proofs.values.Shown.{cube-start, cube-step, cube-wrong, cube-end, character-lt}
use Rattle.fields.proofs.values.read_cube.Goals as goal

pub loop-b-init : goal.loop-b-init
loop-b-init c = (omega arith, lit< tt, lit< tt, cube-start c.args.n c.args.field.now c.if-field-n.false)

pub returns-in_err-shown : goal.returns-in_err-shown
returns-in_err-shown c =
    let l = c.loop-b in
    c.from_residual.ensures ∙ sym (l.invariant.3 ∙ cube-wrong l.cube.term l.cube.complemented c.args.field.now l.b-index c.loop-b-test.true (sym c.in_err-shown.ensures))

pub overflow_add-cube : goal.overflow_add-cube
overflow_add-cube c =
    let l = c.loop-b in
    omega (arith, points-le l.b-index (omega arith), (character-lt _ _ (sym c.in_ok-shown.ensures)).0)

pub overflow_add-cube-in-loop-b : goal.overflow_add-cube-in-loop-b
overflow_add-cube-in-loop-b c =
    let l = c.loop-b in
    omega (arith, points-le l.b-index (omega arith), (character-lt _ _ (sym c.in_ok-shown.ensures)).1)

pub loop-b-preserved : goal.loop-b-preserved
loop-b-preserved c =
    let l = c.loop-b in
    let says : character_said _ ≡ _ = sym c.in_ok-shown.ensures in
    let shown = character-lt _ _ says in (
      l.invariant.0,
      two-more l.b-index l.cube.term _ l.invariant.1 shown.0,
      two-more l.b-index l.cube.complemented _ l.invariant.2 shown.1,
      l.invariant.3 ∙ cube-step l.cube.term l.cube.complemented c.args.field.now l.b-index _ c.loop-b-test.true says,
    )

pub returns : goal.returns
returns c =
    let l = c.loop-b in
    sym (l.invariant.3 ∙ cube-end l.cube.term l.cube.complemented c.args.field.now l.b-index c.loop-b-test.false)
