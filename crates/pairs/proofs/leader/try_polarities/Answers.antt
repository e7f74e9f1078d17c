-- `try_polarities` meets its contract: the leader leads the pairs of `mixed` whose polarity, closed up, is below w.
use mathlib.Core.Path.{◌∙◌}
use native.Mathlib.Omega.{arith}
use Rattle.numbers.proofs.Shifts.{one_shifted}
use Rattle.lanes.proofs.expand.Room.{blocks-le}
use Rattle.pairs.proofs.leader.Trying.{trying-none, trying-next, trying-all}
use Rattle.pairs.proofs.leader.try_polarities.Goals as goal

pub expand_blocks-requires : goal.expand_blocks-requires
expand_blocks-requires c = let p = c.requires in record { mixed_set = p.mixed_set.0; table_len = (p.given.long, p.mixed_set.1) }

pub loop-w-init : goal.loop-w-init
loop-w-init c =
    let p = c.requires in
    let e = c.expand_blocks in
    trying-none _ _ _ _ _ _ (one_shifted _ (omega (arith, blocks-le c.args.search.now.sizes))) (e.auto.lanes ∙ p.mixed_set.1) e.ensures.lanes_after p.leads

pub try_polarity-led-requires : goal.try_polarity-led-requires
try_polarity-led-requires c =
    let p = c.requires in
    record { mixed_bound = (p.mixed_set.0.mask, c.loop-w.invariant.long) }

pub next_polarity-requires : goal.next_polarity-requires
next_polarity-requires c =
    let l = c.loop-w in
    (blocks-le c.args.search.now.sizes, omega (arith, c.loop-w-test.true, l.invariant.all), l.invariant.long)

pub loop-w-preserved : goal.loop-w-preserved
loop-w-preserved c =
    let p = c.requires in
    let l = c.loop-w in
    let less = c.loop-w-test.true in
    let next = c.next_polarity in
    trying-next c.args.search.now.sizes c.args.mixed c.args.table.now _ _ _ _ p.mixed_set.0 l.invariant p.given less _ _
    c.try_polarity-led.ensures next.auto.lanes next.ensures.by_index

pub returns : goal.returns
returns c =
    trying-all _ _ c.args.table.now _ _ _ _ c.requires.mixed_set.0 c.loop-w.invariant c.loop-w-test.false
