-- `split` meets its contract: block and place have the bits of x at the inputs below i, outside the mixed set and in it.
use borrow.Author.Rules.{rules}
use mathlib.Core.Path.{◌≡◌, refl, ap, ◌∙◌}
use Prim.Native.Nat.{ℕ, ◌/◌, ◌^◌}
use native.Mathlib.Omega.{arith}
use lib.Bits.{and_le_r}
use Rattle.expansions.specs.ClosedUp.{IsSplit}
use Rattle.expansions.specs.Members.{block, place}
use Rattle.expansions.specs.Split.{gather, outside}
use Rattle.expansions.proofs.ClosedUp.{split-is}
use Rattle.points.proofs.split.Walks.{passed_none, passed-more, passed-few, passed-fits, passed-outside, passed-all, digit-in, digit-out, gather-digit}
use Rattle.points.proofs.split.split.Goals as goal

-- the words follow from the equations
parts_are : (n M x j r : ℕ) → j ≡ block n M x → r ≡ place n M x → (j ≡ block n M x) × (r ≡ place n M x) × IsSplit n M x j r
parts_are n M x j r o p = (o, p, rw (o, p) (split-is n M x))

pub loop-i-init : goal.loop-i-init
unfolding gather
loop-i-init c = (passed_none _ _ c.requires, refl, refl)

pub overflow_shl-place : goal.overflow_shl-place
overflow_shl-place c =
    let l = c.loop-i in
    omega (arith, passed-few _ _ _ _ l.invariant.0, and_le_r (c.args.mixed / 2 ^ l.i) 1)

pub overflow_sub-block : goal.overflow_sub-block
overflow_sub-block c = omega (arith, passed-few _ _ _ _ c.loop-i.invariant.0)

pub overflow_add-used : goal.overflow_add-used
overflow_add-used c = search (rules, passed-fits)

pub loop-i-preserved : goal.loop-i-preserved
loop-i-preserved c =
    let l = c.loop-i in
    let a = c.args in
    let out = digit-out a.n l.i a.mixed l.i a.x c.loop-i-test.true in (
      passed-more _ _ _ _ c.loop-i-test.true l.invariant.0,
      gather-digit _ _ _ _ _ _ _ l.invariant.0 l.invariant.1 (digit-in l.i a.mixed l.i a.x),
      gather-digit _ _ _ _ _ _ _ (passed-outside _ _ _ _ l.invariant.0) l.invariant.2 out,
    )

pub returns : goal.returns
returns c =
    let l = c.loop-i in
    let a = c.args in
    let all = passed-all _ _ _ _ c.loop-i-test.false l.invariant.0 in
    parts_are a.n a.mixed a.x _ _
    (l.invariant.2 ∙ ap (λ (b : ℕ). gather b (outside a.n a.mixed) a.x) all)
    (l.invariant.1 ∙ ap (λ (b : ℕ). gather b a.mixed a.x) all)
