-- The loop holds the first least of the sums tried, and the rest of the two words.
use mathlib.Core.Path.{◌≡◌}
use native.Mathlib.Omega.{arith}
use Rattle.charges.proofs.cheapest.Choices.{tried-first, tried-take, tried-keep, tried-all}
use Rattle.charges.proofs.cheapest.least_sum.Goals as goal
use Rattle.charges.proofs.cheapest.least_sum.Goals.{then-sum-least, else-sum-least}

pub loop-choice-init : goal.loop-choice-init
loop-choice-init g c = tried-first _ c.args.sums c.args.masks _ c.compared.ensures

pub loop-choice-preserved : goal.loop-choice-preserved
loop-choice-preserved g c =
    let tried = c.loop-choice.invariant in
    elim c.if-sum-least.branch [ then-sum-least w ↦ rw w.least-is (tried-take _ _ _ _ _ _ _ _ tried c.compared-sum.ensures w.if-sum-least.true) | else-sum-least w ↦ rw w.least-is (tried-keep _ _ _ _ _ _ _ _ tried c.compared-sum.ensures w.if-sum-least.false) ]

pub returns : goal.returns
returns g c =
    let all : c.loop-choice.choice ≡ c.args.count = omega (arith, c.requires.0, c.loop-choice-test.false) in
    tried-all _ c.args.count c.args.sums c.args.masks _ _ _ _ c.requires.0 all c.loop-choice.invariant
