-- `spread` meets its contract: x has the bits of y at the inputs of the mask below b.
use borrow.Author.Rules.{rules}
use mathlib.Core.Path.{refl, ◌∙◌, ap}
use Prim.Native.Nat.{ℕ}
use Rattle.expansions.specs.Split.{spread}
use Rattle.expansions.proofs.ClosedUp.{spread-opened-out}
use Rattle.points.proofs.split.Walks.{passed_none, passed-more, passed-shift, passed-fits, passed-all, digit-in, spread-digit}
use Rattle.points.proofs.split.spread.Goals as goal

pub loop-b-init : goal.loop-b-init
unfolding spread
loop-b-init c = (passed_none _ _ c.requires, refl)

pub overflow_shr-x : goal.overflow_shr-x
overflow_shr-x c = search (rules, passed-shift)

pub overflow_add-used : goal.overflow_add-used
overflow_add-used c = search (rules, passed-fits)

pub loop-b-preserved : goal.loop-b-preserved
loop-b-preserved c =
    let l = c.loop-b in
    let a = c.args in (
      passed-more _ _ _ _ c.loop-b-test.true l.invariant.0,
      spread-digit _ _ _ _ _ _ _ l.invariant.0 l.invariant.1 (digit-in l.b a.mask l.used a.y),
    )

pub returns-clause-bits : goal.returns-clause-bits
returns-clause-bits c =
    let l = c.loop-b in
    let a = c.args in
    let e = l.invariant.1 ∙ ap (λ (b : ℕ). spread b a.mask a.y) (passed-all _ _ _ _ c.loop-b-test.false l.invariant.0) in
    rw e (spread-opened-out a.n a.mask a.y)
