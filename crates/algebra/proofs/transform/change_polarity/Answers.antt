-- `change_polarity` meets its contract.
use mathlib.Core.Path.{◌≡◌, refl, sym, ◌∙◌}
use Prim.Native.Nat.{◌*◌, ◌%◌, ◌^◌, ◌≤◌, ◌<◌}
use native.Mathlib.Omega.{arith}
use borrow.Author.Tests.{le-ltb}
use lib.ListN.{length}
use Rattle.numbers.proofs.Shifts.{one_shifted}
use Rattle.algebra.specs.Transform.{changed_bytes}
use Rattle.algebra.proofs.Lanes.{Fitting, fits-true}
use Rattle.algebra.proofs.transform.Filling.{steps-ready, changed-filled}
use Rattle.algebra.proofs.transform.change_polarity.Goals as goal
use Rattle.algebra.proofs.transform.change_polarity.Goals.{Then-lengths_fit, else-lengths_fit-via-then-lengths_fit+else-w-n, else-lengths_fit-via-else-lengths_fit}

fitting : (c : Then-lengths_fit) → let a = c.args in Fitting a.low a.n a.v (length a.bytes.now) (length a.bytes.now)
fitting c = fits-true _ _ _ _ _ (sym c.lengths_fit.ensures ∙ c.if-lengths_fit.true)

size : (c : Then-lengths_fit) → 1 * 2 ^ c.args.n % 2 ^ 64 ≡ 2 ^ c.args.n
size c = one_shifted _ (omega (arith, (fitting c).inputs))

pub overflow_shl-n : goal.overflow_shl-n
overflow_shl-n c = omega (arith, (fitting c).inputs)

pub turn_inputs-requires : goal.turn_inputs-requires
turn_inputs-requires c = steps-ready _ _ _ _ _ _ _ (fitting (goal.at.turn_inputs-requires c).Then-lengths_fit) (omega arith) refl

pub returns-then-w-n : goal.returns-then-w-n
returns-then-w-n c =
    let h : c.args.w < 2 ^ c.args.n = omega (arith, c.if-w-n.true, size (goal.at.returns-then-w-n c).Then-lengths_fit) in
    changed-filled _ _ _ _ _ _ (sym c.lengths_fit.ensures ∙ c.if-lengths_fit.true) h c.turn_inputs.ensures

pub returns-else-lengths_fit : goal.returns-else-lengths_fit
unfolding changed_bytes
returns-else-lengths_fit c = elim c.else-lengths_fit.branch [
  | else-lengths_fit-via-then-lengths_fit+else-w-n w ↦
      let fit = sym c.lengths_fit.ensures ∙ w.if-lengths_fit.true in
      let size = one_shifted c.args.n (omega (arith, (fits-true _ _ _ _ _ fit).inputs)) in
      let h : 2 ^ c.args.n ≤ c.args.w = omega (arith, w.if-w-n.false, size) in
      rw (fit, le-ltb _ _ h)
  | else-lengths_fit-via-else-lengths_fit w ↦ rw (sym c.lengths_fit.ensures ∙ w.if-lengths_fit.false)
]
