-- `read_number` meets its contract. The invariant: the digits passed say `value`, below 10 ^ b-index, and the field says what the digits left say after it.
use mathlib.Core.Path.{◌≡◌, sym, ◌∙◌}
use native.Mathlib.Omega.{arith}
use lib.Dec.{lit<}
use Rattle.fields.specs.Fields.{digit, number}
use Rattle.fields.proofs.Numbers.{digit_lt, digits_step, digits-wrong, digits-end, well_formed-le, ten-le, ten-more}
use Rattle.fields.proofs.values.read_number.Goals as goal

pub loop-b-init : goal.loop-b-init
unfolding number
loop-b-init c =
    let a = c.args in
    let right = sym c.if-not-well_formed.ensures in
    (omega (arith, well_formed-le a.most a.field.now right), lit< tt, rw right)

pub overflow_add-value : goal.overflow_add-value
overflow_add-value c =
    let l = c.loop-b in
    omega (arith, ten-le l.b-index (omega arith), digit_lt 10 _ _ (sym c.in_ok-value.ensures))

pub returns-in_err-value : goal.returns-in_err-value
returns-in_err-value c =
    let l = c.loop-b in
    c.from_residual.ensures ∙ sym (l.invariant.2 ∙ digits-wrong c.args.field.now l.b-index l.value c.loop-b-test.true (sym c.in_err-value.ensures))

pub loop-b-preserved : goal.loop-b-preserved
loop-b-preserved c =
    let l = c.loop-b in
    let says : digit 10 _ ≡ _ = sym c.in_ok-value.ensures in (
      l.invariant.0,
      ten-more l.b-index l.value _ l.invariant.1 (digit_lt 10 _ _ says),
      l.invariant.2 ∙ digits_step c.args.field.now l.b-index l.value _ c.loop-b-test.true says,
    )

pub returns : goal.returns
returns c =
    let l = c.loop-b in
    sym (l.invariant.2 ∙ digits-end c.args.field.now l.b-index l.value c.loop-b-test.false)
