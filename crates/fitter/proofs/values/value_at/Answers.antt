-- `value_at` meets its contract: after t turns the terms below t are joined.
use mathlib.Core.Path.{◌≡◌, refl, sym, ap, ◌∙◌}
use Prim.Native.Nat.{ℕ, ◌^◌}
use native.Mathlib.Numerals.{add-one}
use native.Mathlib.Omega.{arith}
use lib.Bits.{bit_xor, xor_zero_r}
use Rattle.numbers.specs.Bytes.{at}
use Rattle.numbers.specs.Sums.{fold_below}
use Rattle.numbers.specs.Tests.{only}
use Rattle.numbers.proofs.Shifts.{one_shifted}
use Rattle.algebra.specs.Terms.{holds, value}
use Rattle.fitter.proofs.values.value_at.Goals as goal
use Rattle.fitter.proofs.values.value_at.Goals.{then-holds, else-holds}

pub loop-t-init : goal.loop-t-init
unfolding fold_below
loop-t-init c = refl

pub loop-t-preserved : goal.loop-t-preserved
unfolding fold_below only
loop-t-preserved c =
    let a = c.args in
    let l = c.loop-t in
    let test : c.holds.result ≡ holds l.t (at a.complements.now l.t) a.p =
    c.holds.ensures ∙ ap (λ (x : ℕ). holds l.t x a.p) c.from.ensures in
    elim c.if-holds.branch [
      | then-holds w ↦ w.sum-is ∙ rw (add-one, sym test ∙ w.if-holds.true) (ap (λ (x : ℕ). bit_xor x (at a.coefficients.now l.t)) l.invariant)
      | else-holds w ↦ w.sum-is ∙ l.invariant ∙ rw (add-one, sym test ∙ w.if-holds.false) (sym (xor_zero_r _))
    ]

pub returns : goal.returns
unfolding value
returns c =
    let l = c.loop-t in
    let e : l.t ≡ 2 ^ c.args.n = omega (arith, l.auto.t-end, c.loop-t-test.false, one_shifted c.args.n (omega (arith, c.requires))) in
    rw e at l.invariant
