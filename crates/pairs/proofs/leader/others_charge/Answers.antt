-- The loop adds up what the blocks below j cost, each under its first least choice.
use Prim.Native.Nat.{◌*◌}
use mathlib.Core.Path.{◌≡◌}
use Rattle.numbers.specs.Bytes.{at}
use Rattle.pairs.proofs.leader.Charging.{blocks-first, blocks-lt, blocks_more, blocks-all, other-least}
use Rattle.pairs.specs.Inner.Pairs.{least_from}
use Rattle.pairs.proofs.leader.others_charge.Given.{Over}
use Rattle.pairs.proofs.leader.others_charge.Goals as goal
use Rattle.pairs.proofs.leader.others_charge.Goals.{After-cheapest_block-others}

pub loop-j-init : goal.loop-j-init
loop-j-init g c = blocks-first _ (at c.args.lanes.now)

-- what block j costs
one : (g : Over) (c : After-cheapest_block-others g) → c.cheapest_block-others.result.charge * 256 ≡ least_from c.args.search.now.sizes (at c.args.lanes.now) c.loop-j.j
one g c = other-least c.args.search.now.sizes (at c.args.lanes.now) c.loop-j.j _ c.loop-j.invariant.some c.cheapest_block-others.ensures

pub overflow_add-others : goal.overflow_add-others
overflow_add-others g c =
    let l = c.loop-j in
    record { fits = blocks-lt _ _ _ _ _ c.loop-j-test.true l.invariant _ (one g (goal.at.overflow_add-others g c).After-cheapest_block-others) }

pub loop-j-preserved : goal.loop-j-preserved
loop-j-preserved g c =
    let l = c.loop-j in
    blocks_more _ _ _ _ _ c.loop-j-test.true l.invariant _ (one g (goal.at.loop-j-preserved g c).After-cheapest_block-others)

pub returns : goal.returns
returns g c = blocks-all _ _ _ _ _ c.loop-j-test.false c.loop-j.invariant
