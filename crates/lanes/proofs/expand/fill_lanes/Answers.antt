-- `fill_lanes` meets its contract: the bytes of the blocks below q are filled.
use Prim.Native.Nat.{◌*◌}
use native.Mathlib.Omega.{arith}
use Rattle.numbers.proofs.Front.{front_all}
use Rattle.lanes.proofs.expand.Laying.{laid_more}
use Rattle.lanes.proofs.expand.fill_lanes.Goals as goal

pub loop-q-preserved : goal.loop-q-preserved
loop-q-preserved c =
    let l = c.loop-q in
    laid_more c.args.table.now c.args.points.now c.args.offsets.now l.lanes _ _ l.q _ _ _
    (omega (arith, c.loop-q-test.true, c.requires.0)) c.from.ensures c.lane_word-all.ensures
    c.to_le_bytes.ensures c.copy_from_slice.ensures.after l.invariant

pub returns : goal.returns
returns c = let l = c.loop-q in front_all _ _ (8 * l.q) l.lanes (omega (arith, c.loop-q-test.false, c.requires.0)) l.invariant
