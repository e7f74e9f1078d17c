-- `judge_beside_kronecker` meets its contract, by that of `first_line`.
use mathlib.Core.Bool.{true, false, not, false≢true}
use mathlib.Core.Path.{◌≡◌, refl, ap, sym, ◌∙◌}
use Prim.Native.Nat.{ℕ, ◌≤◌}
use native.Mathlib.Omega.{arith}
use borrow.Author.Tests.{eq-eqb}
use lib.ListN.{length}
use lib.Seq.{length-take-le}
use Rattle.std.specs.Prelude.{Option, Some, None, is_some}
use Rattle.numbers.specs.declared.refusals.Refusal.TheVariants.{BrokenListing, UnlikeListing}
use Rattle.listings.specs.Inner.Stops.{stop}
use Rattle.listings.proofs.Parts.{stop_le}
use Rattle.listing_texts.specs.declared.form.Form.{Form}
use Rattle.listing_texts.specs.Read.{beside_line}
use Rattle.listing_texts.proofs.read.Steps.{beside-unfinished, beside-judged}
use Rattle.listing_texts.proofs.beside.judge_beside_kronecker.Goals as goal
use Rattle.listing_texts.proofs.beside.judge_beside_kronecker.Goals.{After-seek-stop, then-stop-listing, else-stop-listing}

-- where the first line stops
first-stop : (c : After-seek-stop) → c.seek-stop.result.at ≡ stop 10 c.args.listing.now 0
first-stop c = c.seek-stop.ensures.0 ∙ ap (λ (i : ℕ). stop 10 c.args.listing.now i) c.new.ensures.0

-- it stops in the listing, or at its end
stop-le : (c : After-seek-stop) → c.seek-stop.result.at ≤ length c.args.listing.now
stop-le c = omega (arith, first-stop c, stop_le 10 c.args.listing.now 0 (omega arith))

pub slice_bounds-first_line-end : goal.slice_bounds-first_line-end
slice_bounds-first_line-end c = sym (length-take-le _ _ (stop-le (goal.at.slice_bounds-first_line-end c).After-seek-stop))

-- the refusal by whether the first line says something
by-none : (x : Option Form) → is_some x ≡ false → BrokenListing ≡ beside_line x
by-none None e = refl
by-none (Some f) e = absurd (false≢true (sym e))

by-some : (x : Option Form) → is_some x ≡ true → UnlikeListing ≡ beside_line x
by-some None e = absurd (false≢true e)
by-some (Some f) e = refl

pub returns-then-is_none : goal.returns-then-is_none
returns-then-is_none c =
    let at = first-stop (goal.at.returns-then-is_none c).After-seek-stop in
    elim c.if-stop-listing.branch [
      | then-stop-listing w ↦ sym (beside-unfinished _ _ at (omega (arith, w.if-stop-listing.true)))
      | else-stop-listing w ↦
          by-none _ (w.is_none.ensures ∙ ap not (sym w.value-is ∙ c.if-is_none.true)) ∙ ap beside_line w.first_line.ensures
          ∙ sym (beside-judged _ _ at (omega (arith, stop-le (goal.at.returns-then-is_none c).After-seek-stop, w.if-stop-listing.false)))
    ]

pub returns-else-is_none : goal.returns-else-is_none
returns-else-is_none c =
    let at = first-stop (goal.at.returns-else-is_none c).After-seek-stop in
    elim c.if-stop-listing.branch [
      | then-stop-listing w ↦ absurd (false≢true (sym c.if-is_none.false ∙ w.value-is ∙ eq-eqb _ _ w.if-stop-listing.true))
      | else-stop-listing w ↦
          by-some _ (w.is_none.ensures ∙ ap not (sym w.value-is ∙ c.if-is_none.false)) ∙ ap beside_line w.first_line.ensures
          ∙ sym (beside-judged _ _ at (omega (arith, stop-le (goal.at.returns-else-is_none c).After-seek-stop, w.if-stop-listing.false)))
    ]
