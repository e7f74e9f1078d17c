-- `mask` meets its contract. The invariant: the characters taken say `value`, and the field says what the characters left say before it.
use mathlib.Core.List.{[], ◌∷◌, ◌++◌}
use mathlib.Core.Path.{◌≡◌, sym, ◌∙◌}
use Prim.Native.Nat.{ℕ, suc, ◌+◌, ◌-◌}
use native.Mathlib.Omega.{arith}
use lib.ListN.{length, length-append}
use lib.Pow.{pow_pos}
use Rattle.std.specs.Slice.Iter.{iter_rest}
use Rattle.numbers.proofs.Shifts.{points-le}
use Rattle.fields.proofs.Numbers.{digit_lt, bits_last, bits_first, two-more, mask-bits}
use Rattle.fields.proofs.values.mask.Goals as goal

pub loop-b-init : goal.loop-b-init
loop-b-init c =
    let f = c.args.field.now in
    let whole : iter_rest c.into_iter-b-iterator.result.iter ≡ f = cc in
    rw whole (omega arith, omega arith, pow_pos (length f - length f), rw (← c.if-field-m.false) (mask-bits f))

pub overflow_add-bits : goal.overflow_add-bits
overflow_add-bits c =
    let l = c.loop-b in
    omega (arith, points-le (length c.args.field.now - length (iter_rest l.b-iterator.iter)) (omega arith), digit_lt 2 _ _ (sym c.in_ok-bits.ensures))

pub returns-in_err-bits : goal.returns-in_err-bits
returns-in_err-bits c =
    let l = c.loop-b in
    let last : iter_rest l.b-iterator.iter ≡ _ = c.in-Some.ensures.steps in
    c.from_residual.ensures ∙ sym (l.invariant.3 ∙ rw (last, bits_last, ← c.in_err-bits.ensures))

pub loop-b-preserved : goal.loop-b-preserved
loop-b-preserved c =
    let l = c.loop-b in
    let f = c.args.field.now in
    let last : iter_rest l.b-iterator.iter ≡ iter_rest c.next.new.self.iter ++ c.in-Some.field-0.now ∷ [] = c.in-Some.ensures.steps in
    let fewer : length (iter_rest l.b-iterator.iter) ≡ suc (length (iter_rest c.next.new.self.iter)) = rw last (omega (arith, length-append {A = ℕ})) in
    let more : length f - length (iter_rest c.next.new.self.iter) ≡ length f - length (iter_rest l.b-iterator.iter) + 1 = omega arith in (
      l.invariant.0,
      omega arith,
      rw more (two-more _ l.bits _ l.invariant.2 (digit_lt 2 _ _ (sym c.in_ok-bits.ensures))),
      l.invariant.3 ∙ rw (last, bits_last, ← c.in_ok-bits.ensures),
    )

pub returns : goal.returns
returns c = sym (c.loop-b.invariant.3 ∙ bits_first _ _ c.in-None.ensures.steps.0)
