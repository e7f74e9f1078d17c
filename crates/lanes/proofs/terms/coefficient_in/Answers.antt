-- `byte` holds the bits of the outputs below o.
use mathlib.Core.Path.{◌≡◌, ap, ◌∙◌}
use Prim.Native.Nat.{ℕ, ◌+◌, ◌*◌}
use Rattle.numbers.specs.Bits.{pack}
use Rattle.numbers.proofs.Pack.{pack-none}
use Rattle.lanes.proofs.terms.Outputs.{output_bit, outputs-more, outputs-fit, rows-coefficient}
use native.Mathlib.Omega.{arith}
use Rattle.lanes.proofs.terms.coefficient_in.Goals as goal

pub loop-o-init : goal.loop-o-init
loop-o-init c = pack-none _

pub overflow_add-byte : goal.overflow_add-byte
overflow_add-byte c =
    let a = c.args in
    let l = c.loop-o in
    record {
      fits = outputs-fit a.rows.now a.lanes.now a.j a.s a.choice l.o _ _ _ _ c.loop-o-test.true l.invariant c.from-first.ensures c.from.ensures c.from-in-loop-o.ensures;
    }

pub loop-o-preserved : goal.loop-o-preserved
loop-o-preserved c =
    let a = c.args in
    let l = c.loop-o in
    outputs-more a.rows.now a.lanes.now a.j a.s a.choice l.o _ _ _ _ c.loop-o-test.true l.invariant c.from-first.ensures c.from.ensures c.from-in-loop-o.ensures

pub returns : goal.returns
returns c C k held choice =
    let l = c.loop-o in
    let a = c.args in
    let e : l.o ≡ 8 = omega arith in
    l.invariant ∙ ap (λ (x : ℕ). pack x (output_bit a.rows.now a.lanes.now a.j a.s a.choice)) e
    ∙ rows-coefficient C k a.rows.now a.lanes.now held a.j a.s a.choice c.requires.2 choice (λ o h. (c.type_inv.lanes (a.j * 8 + o)).fits)
