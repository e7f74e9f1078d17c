-- `try_mixed` meets its contract: `mixed` has another number of inputs, or every i is tried with it.
use mathlib.Core.Path.{sym, ◌∙◌}
use native.Mathlib.Omega.{arith}
use Rattle.lanes.proofs.expand.Room.{room-lent}
use Rattle.pairs.proofs.leader.Leading.{leads-other}
use Rattle.pairs.proofs.leader.try_mixed.Goals as goal

pub returns-then-ones_in-search : goal.returns-then-ones_in-search
returns-then-ones_in-search c =
    leads-other c.args.search.now.sizes.class c.args.search.now.sizes.family _ _ _ _ _ (λ e. c.if-ones_in-search.true (c.ones_in.ensures ∙ e)) c.requires.mixed_bound.1

pub try_polarities-requires : goal.try_polarities-requires
try_polarities-requires c =
    let p = c.requires in
    let size = sym c.ones_in.ensures ∙ c.if-ones_in-search.false in
    record { given = p.given; mixed_set = (record { mask = p.mixed_bound.0; size = size }, room-lent 8 c.args.search.now.sizes (omega arith)); leads = p.mixed_bound.1 }
