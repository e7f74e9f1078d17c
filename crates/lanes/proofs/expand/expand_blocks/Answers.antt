-- `expand_blocks` meets its contract: the lent part of `laid` holds the layout, and each output is expanded by itself.
use mathlib.Core.Path.{ap, ◌∙◌}
use native.Mathlib.Omega.{arith}
use lib.ListN.{length}
use Rattle.numbers.proofs.Bytes.{length-tabulate}
use Rattle.lanes.proofs.expand.Laying.{closed-lt, blocks-both}
use Rattle.lanes.proofs.expand.Room.{blocks-le, room-kept}
use Rattle.lanes.proofs.expand.expand_blocks.Goals as goal

pub expand_lanes-requires : goal.expand_lanes-requires
expand_lanes-requires c =
    let laid = c.lay_out in
    let long = ap length laid.ensures.lanes_after ∙ length-tabulate _ _ in (
      blocks-le c.args.sizes,
      closed-lt c.args.sizes c.args.pair.mixed _ _ _ c.requires.mixed_set c.outside.ensures c.gather-w.ensures.value,
      ap length (room-kept 8 c.args.sizes (omega arith) laid.new.lanes _ long) ∙ long,
      c.requires.table_len.1,
    )

pub returns : goal.returns
returns c =
    let laid = c.lay_out in
    let long = ap length laid.ensures.lanes_after ∙ length-tabulate _ _ in
    let kept = room-kept 8 c.args.sizes (omega arith) laid.new.lanes _ long in
    let others = c.outside.ensures in
    let fixed = c.gather-w.ensures.value in
    let b =
    blocks-both c.args.sizes c.args.pair.mixed _ _ _ c.requires.mixed_set others fixed c.args.table.now _ _ _ kept (laid.ensures.lanes_after, laid.ensures.places)
    c.expand_lanes.ensures in
    record { lanes_after = b.0; functions = b.1 }
