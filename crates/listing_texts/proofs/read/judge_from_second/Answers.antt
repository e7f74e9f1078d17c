-- `judge_from_second` meets its contract: the second line's mask, or what the lines after it mean.
use mathlib.Core.Path.{◌≡◌, ap, sym, ◌∙◌}
use Prim.Native.Nat.{◌<◌}
use native.Mathlib.Omega.{arith}
use borrow.Author.Rules.{rules}
use lib.ListN.{length}
use Rattle.std.specs.Prelude.{Err}
use Rattle.numbers.specs.declared.refusals.Refusal.TheVariants.{BrokenListing}
use Rattle.numbers.specs.Refusals.{declined}
use Rattle.listings.proofs.Parts.{stop_le}
use Rattle.listing_texts.specs.Inner.Judging.{stands_for}
use Rattle.listing_texts.proofs.read.Steps.{second-line-unfinished, second-line-judged}
use Rattle.listing_texts.proofs.read.judge_from_second.Goals as goal
use Rattle.listing_texts.proofs.read.judge_from_second.Goals.{After-at-broken, Else-stop-listing}

-- the second line ends before the listing does
before-end : (c : Else-stop-listing) → c.seek-stop.result.at < length c.args.listing.now
before-end c =
    let a = c.args in
    omega (arith, stop_le 10 a.listing.now a.start.at c.requires.0.inside)

-- the refusal of a broken second line
broken : (c : After-at-broken) → c.at-broken.result ≡ declined BrokenListing 2
broken c = c.at-broken.ensures ∙ ap (declined BrokenListing) (c.seek-stop.ensures.1 ∙ c.requires.1)

pub returns-then-stop-listing : goal.returns-then-stop-listing
unfolding stands_for
returns-then-stop-listing c =
    rw (broken (goal.at.returns-then-stop-listing c).After-at-broken)
    (sym (second-line-unfinished _ _ _ _ _ c.seek-stop.ensures.0 (omega (arith, c.if-stop-listing.true))))

pub slice_bounds-inv_line-end : goal.slice_bounds-inv_line-end
slice_bounds-inv_line-end c = omega (arith, before-end (goal.at.slice_bounds-inv_line-end c).Else-stop-listing)

pub returns-in_err-inverted : goal.returns-in_err-inverted
unfolding stands_for
returns-in_err-inverted c =
    let at = goal.at.returns-in_err-inverted c in
    let none = c.in_err-inverted.ensures.ok_part in
    let same : c.from_residual.result ≡ Err c.at-broken.result = search rules in
    rw (same, broken at.After-at-broken)
    (sym (second-line-judged _ _ _ _ _ c.seek-stop.ensures.0 (before-end at.Else-stop-listing) ∙ rw (← c.inv_line.ensures, none)))

pub returns : goal.returns
returns c =
    let says = c.in_ok-inverted.ensures.ok_part in
    c.judge_terms.ensures
    ∙ rw (c.next_line.ensures.0, c.next_line.ensures.1, c.seek-stop.ensures.1, c.requires.1, c.requires.4)
    (sym (second-line-judged _ _ _ _ _ c.seek-stop.ensures.0 (before-end (goal.at.returns c).Else-stop-listing) ∙ rw (← c.inv_line.ensures, says)))
