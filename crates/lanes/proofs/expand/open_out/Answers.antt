-- `open_out` meets its contract: the points so far are filled, and `next` is the one that comes.
use mathlib.Core.Path.{refl, sym}
use native.Mathlib.Numerals.{add-one}
use native.Mathlib.Omega.{arith}
use Rattle.numbers.proofs.Front.{front_none, front_more, front_all}
use Rattle.expansions.proofs.Split.{spread-zero, spread-lt}
use Rattle.lanes.proofs.expand.Laying.{opened-byte}
use Rattle.lanes.proofs.expand.open_out.Goals as goal

pub loop-point-init : goal.loop-point-init
loop-point-init c = (front_none _ _ _ refl, sym (spread-zero _ _))

pub next_point-next-requires : goal.next_point-next-requires
next_point-next-requires c =
    let p = c.requires in (p.0, p.1, rw c.loop-point.invariant.1 (spread-lt _ _ _))

pub loop-point-preserved : goal.loop-point-preserved
loop-point-preserved c =
    let l = c.loop-point in (
      front_more _ _ _ l.points _ (omega (arith, l.invariant.0.long)) (opened-byte c.args.n c.args.mask l.point-index l.next c.requires.0 l.invariant.1) l.invariant.0,
      rw (add-one l.point-index) (c.next_point-next.ensures.by_index l.point-index l.invariant.1),
    )

pub returns : goal.returns
returns c = let l = c.loop-point in front_all _ _ l.point-index l.points (omega (arith, l.invariant.0.long)) l.invariant.0
