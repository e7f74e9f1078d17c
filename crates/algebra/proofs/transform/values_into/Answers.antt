-- `values_into` meets its contract.
use mathlib.Core.Path.{sym, ap, ◌∙◌}
use Prim.Native.Nat.{ℕ, ◌^◌}
use native.Mathlib.Nat.{zero-add}
use lib.ListN.{length}
use Rattle.algebra.specs.Transform.{value_bytes}
use Rattle.algebra.proofs.Lanes.{Fitting, fits-true}
use Rattle.algebra.proofs.transform.values_into.Goals as goal
use Rattle.algebra.proofs.transform.values_into.Goals.{Then-lengths_fit}

fitting : (c : Then-lengths_fit) → let a = c.args in Fitting 0 a.n a.w (length a.coefficients.now) (length a.table.now)
fitting c = fits-true _ _ _ _ _ (sym c.lengths_fit.ensures ∙ c.if-lengths_fit.true)

pub fill_values-requires : goal.fill_values-requires
fill_values-requires c = let f = fitting (goal.at.fill_values-requires c).Then-lengths_fit in (f.inputs, f.polarity, f.lent_long ∙ ap (λ (x : ℕ). 2 ^ x) (zero-add _))

pub returns-then-lengths_fit : goal.returns-then-lengths_fit
unfolding value_bytes
returns-then-lengths_fit c =
    c.fill_values.ensures ∙ sym (rw (sym c.lengths_fit.ensures ∙ c.if-lengths_fit.true))

pub returns-else-lengths_fit : goal.returns-else-lengths_fit
unfolding value_bytes
returns-else-lengths_fit c = rw (sym c.lengths_fit.ensures ∙ c.if-lengths_fit.false)
