-- The loop holds what the rows of the outputs below o have together.
use mathlib.Core.Path.{refl}
use Prim.Native.Nat.{◌+◌, ◌*◌}
use native.Mathlib.Omega.{arith}
use Rattle.numbers.specs.Sums.{fold_below}
use Rattle.charges.proofs.cheapest.Used.{or-more, used_all}
use Rattle.charges.proofs.cheapest.used_terms.Goals as goal

pub loop-o-init : goal.loop-o-init
unfolding fold_below
loop-o-init c = refl

pub loop-o-preserved : goal.loop-o-preserved
loop-o-preserved c =
    let l = c.loop-o in
    let a = c.args in
    or-more a.rows.now a.lanes.now a.half a.j l.o l.used _ l.invariant c.row_of-used.ensures

pub returns : goal.returns
returns c C k held h =
    let l = c.loop-o in
    let a = c.args in
    used_all C k a.rows.now a.lanes.now held a.half a.j h l.o l.used (omega arith) l.invariant (λ p. (c.type_inv.lanes (a.j * 8 + p)).fits)
