-- `count_rows` meets its contract: after t turns the products and the literals of the terms below t are counted.
use mathlib.Core.Path.{◌≡◌, sym, ◌∙◌}
use Prim.Native.Nat.{◌≤◌, ◌<◌, ◌^◌}
use native.Mathlib.Omega.{arith}
use lib.Bits.{and_mask}
use lib.Count.{ones, ones-le}
use Rattle.numbers.proofs.Pack.{ones_in-ones}
use Rattle.numbers.proofs.Shifts.{one_shifted, points-le}
use Rattle.expansions.specs.Costs.{products, literals}
use Rattle.shown_rows.proofs.shown.Counting.{count-start, count-product, count_none}
use Rattle.shown_rows.proofs.shown.count_rows.Goals as goal
use Rattle.shown_rows.proofs.shown.count_rows.Goals.{then-rows-t-ne0, else-rows-t-ne0, In-loop-t}

term-lt : (c : In-loop-t) → c.loop-t.t < 2 ^ c.args.n
term-lt c = omega (arith, c.loop-t-test.true, one_shifted c.args.n (omega arith))

-- a term of n inputs has at most eight literals
few_ones : (c : In-loop-t) → ones c.loop-t.t ≤ 8
few_ones c = omega (arith, ones-le c.args.n c.loop-t.t (term-lt c), c.requires)

pub loop-t-init : goal.loop-t-init
loop-t-init c = count-start _

pub overflow_add-literals : goal.overflow_add-literals
overflow_add-literals c =
    let at = (goal.at.overflow_add-literals c).In-loop-t in
    omega (
      arith,
      term-lt at,
      points-le c.args.n c.requires,
      c.loop-t.invariant.few_literals,
      few_ones at,
      c.ones_in-literals.ensures,
      ones_in-ones c.args.n c.loop-t.t (term-lt at),
    )

pub loop-t-preserved : goal.loop-t-preserved
loop-t-preserved c =
    let l = c.loop-t in
    let at = (goal.at.loop-t-preserved c).In-loop-t in
    elim c.if-rows-t-ne0.branch [
      | then-rows-t-ne0 w ↦
          let literals = w.ones_in-literals.ensures ∙ ones_in-ones c.args.n l.t (term-lt at) in
          rw (w.products-is, w.literals-is)
          (count-product _ l.t l.products l.literals l.invariant _ (λ e. w.if-rows-t-ne0.true (and_mask _ 8 ∙ e)) literals (few_ones at))
      | else-rows-t-ne0 w ↦
          rw (w.products-is, w.literals-is) (count_none _ l.t l.products l.literals l.invariant (sym (and_mask _ 8) ∙ w.if-rows-t-ne0.false))
    ]

pub returns : goal.returns
unfolding products literals
returns c =
    let l = c.loop-t in
    let e : l.t ≡ 2 ^ c.args.n = omega (arith, l.auto.t-end, c.loop-t-test.false, one_shifted c.args.n (omega (arith, c.requires))) in
    (rw e at l.invariant.products, rw e at l.invariant.literals)
