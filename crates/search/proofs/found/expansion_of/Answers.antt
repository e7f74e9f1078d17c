-- The leader's M and i are the answer's, and so are the block functions that `lanes` holds for them.
use mathlib.Core.Path.{◌≡◌, ap, ◌∙◌}
use mathlib.Core.List.{List, ◌++◌}
use Prim.Native.Nat.{ℕ, ◌-◌, ◌*◌, ◌/◌, ◌%◌, ◌^◌}
use lib.ListN.{length, take, drop, replicate}
use Rattle.lanes.specs.Inner.Sizes.{MixedSet}
use Rattle.lanes.proofs.expand.Room.{room-lent, room-kept}
use Rattle.search.proofs.found.Leader.{leader-member}
use Rattle.search.proofs.found.Answer.{blocks-lt, record-answer}
use native.Mathlib.Omega.{arith}
use Rattle.search.proofs.found.expansion_of.Goals as goal
use Rattle.search.proofs.found.expansion_of.Goals.{After-expand_blocks, Start}

set : (c : Start) → MixedSet c.args.search.now.sizes (c.args.leader.pair / 2 ^ c.args.search.now.sizes.n)
set c =
    let z = c.args.search.now.sizes in
    let member = leader-member z.class z.family _ _ _ c.args.leader z.inputs z.within c.requires.leads in
    record { mask = member.pair.mask; size = member.pair.size }

abbrev lanes : After-expand_blocks → List ℕ
lanes c = c.expand_blocks.new.lanes

long : (c : After-expand_blocks) → length (lanes c) ≡ 8 * 2 ^ (c.args.search.now.sizes.n - c.args.search.now.sizes.k)
long c = c.expand_blocks.auto.lanes ∙ room-lent 8 c.args.search.now.sizes (omega arith)

pub expand_blocks-requires-clause-mixed_set : goal.expand_blocks-requires-clause-mixed_set
expand_blocks-requires-clause-mixed_set c = set (goal.at.expand_blocks-requires-clause-mixed_set c).Start

-- what is lent again of `lanes` is all that was filled
abbrev lent : After-expand_blocks → List ℕ
lent c = take (8 * 2 ^ (c.args.search.now.sizes.n - c.args.search.now.sizes.k) % 2 ^ 64) (lanes c ++ drop (8 * 2 ^ (c.args.search.now.sizes.n - c.args.search.now.sizes.k) % 2 ^ 64) (replicate 2048 0))

kept : (c : After-expand_blocks) → lent c ≡ lanes c
kept c = room-kept 8 c.args.search.now.sizes (omega arith) (lanes c) _ (long c)

pub coefficients-filled-requires-clause-mixed_set : goal.coefficients-filled-requires-clause-mixed_set
coefficients-filled-requires-clause-mixed_set c =
    let g = goal.at.coefficients-filled-requires-clause-mixed_set c in
    (set g.Start, ap length (kept g.After-expand_blocks) ∙ long g.After-expand_blocks)

pub coefficients-filled-requires-clause-by_index : goal.coefficients-filled-requires-clause-by_index
coefficients-filled-requires-clause-by_index c =
    let p = c.requires in
    let g = goal.at.coefficients-filled-requires-clause-by_index c in
    blocks-lt c.args.search.now.sizes _ _ _ _ p.given p.leads (kept g.After-expand_blocks ∙ c.expand_blocks.ensures.lanes_after) c.block_choices-chosen.ensures

pub returns : goal.returns
returns c =
    let p = c.requires in
    let g = goal.at.returns c in
    record-answer c.args.search.now.sizes _ _ _ _ p.given p.leads (kept g.After-expand_blocks ∙ c.expand_blocks.ensures.lanes_after)
    c.block_choices-chosen.ensures _ c.coefficients-filled.ensures _ _ c.counts_in-counts.ensures
