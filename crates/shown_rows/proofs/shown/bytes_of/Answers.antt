-- `bytes_of` meets its contract: after t turns the first t bytes are filled.
use native.Mathlib.Omega.{arith}
use lib.Bits.{and_mask}
use Rattle.numbers.proofs.Bytes.{filled_none, filled_more, filled-all}
use Rattle.shown_rows.proofs.shown.bytes_of.Goals as goal

pub loop-t-init : goal.loop-t-init
loop-t-init c = filled_none _ _

pub loop-t-preserved : goal.loop-t-preserved
loop-t-preserved c =
    let l = c.loop-t in
    filled_more _ _ _ _ _ (omega (arith, l.invariant.long, c.loop-t-test.true)) (and_mask _ 8) l.invariant

pub returns : goal.returns
returns c =
    let l = c.loop-t in
    filled-all _ _ _ _ (omega (arith, l.auto.t-end, l.invariant.long, c.loop-t-test.false)) l.invariant
