-- `coefficients_into` meets its contract.
use mathlib.Core.Path.{sym, ap, ◌∙◌}
use native.Mathlib.Omega.{arith}
use lib.ListN.{length}
use Rattle.numbers.proofs.Bytes.{length-tabulate}
use Rattle.algebra.specs.Transform.{coefficient_bytes}
use Rattle.algebra.proofs.Lanes.{Fitting, fits-true}
use Rattle.algebra.proofs.transform.Filling.{move-room, steps-ready, coefficients-filled}
use Rattle.algebra.proofs.transform.coefficients_into.Goals as goal
use Rattle.algebra.proofs.transform.coefficients_into.Goals.{Then-lengths_fit}

fitting : (c : Then-lengths_fit) → let a = c.args in Fitting a.low a.n a.w (length a.tables.now) (length a.coefficients.now)
fitting c = fits-true _ _ _ _ _ (sym c.lengths_fit.ensures ∙ c.if-lengths_fit.true)

pub overflow_shl-w : goal.overflow_shl-w
overflow_shl-w c = omega (arith, (fitting c).lows)

pub move_points-requires : goal.move_points-requires
move_points-requires c = move-room _ _ _ _ _ (fitting (goal.at.move_points-requires c).Then-lengths_fit)

pub join_inside-requires : goal.join_inside-requires
join_inside-requires c =
    let e = ap length c.move_points.ensures ∙ length-tabulate _ _ in
    steps-ready _ _ _ _ _ _ _ (fitting (goal.at.join_inside-requires c).Then-lengths_fit) (omega arith) e

pub returns-then-lengths_fit : goal.returns-then-lengths_fit
returns-then-lengths_fit c =
    let fits = sym c.lengths_fit.ensures ∙ c.if-lengths_fit.true in
    coefficients-filled _ _ _ _ _ _ _ fits c.move_points.ensures c.join_inside.ensures

pub returns-else-lengths_fit : goal.returns-else-lengths_fit
unfolding coefficient_bytes
returns-else-lengths_fit c = rw (sym c.lengths_fit.ensures ∙ c.if-lengths_fit.false)
