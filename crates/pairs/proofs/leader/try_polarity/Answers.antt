-- `try_polarity` meets its contract: the pair costs less than the leader, or it does not.
use mathlib.Core.Path.{ap, ap₂, ◌∙◌}
use Prim.Native.Nat.{ℕ, ◌+◌}
use native.Mathlib.Omega.{arith}
use Rattle.expansions.specs.Split.{spread}
use Rattle.expansions.proofs.Split.{spread-lt}
use Rattle.pairs.proofs.leader.Leading.{pair-shifted, pair_lt, led-take, led-keep}
use Rattle.pairs.proofs.leader.try_polarity.Goals as goal

pub overflow_add-result : goal.overflow_add-result
overflow_add-result c =
    let i = c.spread-fixed.ensures.value in
    let few = c.args.search.now.sizes.inputs in
    let mask = c.requires.mixed_bound.0 in
    omega (arith, pair-shifted c.args.search.now.sizes.n c.args.mixed few mask, pair_lt _ _ c.spread-fixed.result few mask (rw i (spread-lt _ _ _)))

pub returns-then-charge-leader : goal.returns-then-charge-leader
returns-then-charge-leader c =
    let o = c.outside.ensures in
    led-take _ _ _ c.pair_charge-charge.ensures _ _
    (ap₂ ◌+◌ (pair-shifted c.args.search.now.sizes.n c.args.mixed c.args.search.now.sizes.inputs c.requires.mixed_bound.0)
    (c.spread-fixed.ensures.value ∙ ap (λ (m : ℕ). spread c.args.search.now.sizes.n m c.args.w) o)) c.if-charge-leader.true

pub returns : goal.returns
returns c = led-keep _ _ _ c.pair_charge-charge.ensures _ c.if-charge-leader.false
