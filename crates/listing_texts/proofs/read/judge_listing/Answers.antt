-- `judge_listing` meets its contract: the first line's verdict, or what the lines after it mean.
use mathlib.Core.Path.{◌≡◌, ap, sym, ◌∙◌}
use Prim.Native.Nat.{ℕ, ◌<◌}
use native.Mathlib.Omega.{arith}
use borrow.Author.Rules.{rules}
use lib.ListN.{length}
use lib.Seq.{length-take-le}
use Rattle.std.specs.Prelude.{Err}
use Rattle.numbers.specs.declared.refusals.Refusal.TheVariants.{BrokenListing}
use Rattle.numbers.specs.Refusals.{declined}
use Rattle.listings.specs.Inner.Stops.{stop}
use Rattle.listings.proofs.Parts.{stop_le}
use Rattle.listing_texts.specs.Inner.Judging.{stands_for}
use Rattle.listing_texts.proofs.Compared.{alike-sizes}
use Rattle.listing_texts.proofs.read.Steps.{listing-unfinished, listing-judged}
use Rattle.listing_texts.proofs.read.judge_listing.Goals as goal
use Rattle.listing_texts.proofs.read.judge_listing.Goals.{After-at-broken, After-seek-stop, Else-stop-listing}

-- where the first line stops
first-stop : (c : After-seek-stop) → c.seek-stop.result.at ≡ stop 10 c.args.listing.now 0
first-stop c = c.seek-stop.ensures.0 ∙ ap (λ (i : ℕ). stop 10 c.args.listing.now i) c.new.ensures.0

-- the cursor there is on line 1
first-line : (c : After-seek-stop) → c.seek-stop.result.line ≡ 1
first-line c = c.seek-stop.ensures.1 ∙ c.new.ensures.1

-- the first line ends before the listing does
before-end : (c : Else-stop-listing) → c.seek-stop.result.at < length c.args.listing.now
before-end c = omega (arith, first-stop (goal.at.Else-stop-listing c).After-seek-stop, stop_le 10 c.args.listing.now 0 (omega arith))

-- the refusal of a broken first line
broken : (c : After-at-broken) → c.at-broken.result ≡ declined BrokenListing 1
broken c = c.at-broken.ensures ∙ ap (declined BrokenListing) (first-line (goal.at.After-at-broken c).After-seek-stop)

pub returns-then-stop-listing : goal.returns-then-stop-listing
unfolding stands_for
returns-then-stop-listing c =
    let at = goal.at.returns-then-stop-listing c in
    rw (broken at.After-at-broken) (sym (listing-unfinished _ _ (first-stop at.After-seek-stop) _ (omega (arith, c.if-stop-listing.true))))

pub slice_bounds-first_line-end : goal.slice_bounds-first_line-end
slice_bounds-first_line-end c = sym (length-take-le _ _ (omega (arith, before-end (goal.at.slice_bounds-first_line-end c).Else-stop-listing)))

pub returns-in_err-form : goal.returns-in_err-form
unfolding stands_for
returns-in_err-form c =
    let at = goal.at.returns-in_err-form c in
    let none = c.in_err-form.ensures.ok_part in
    let same : c.from_residual.result ≡ Err c.at-broken.result = search rules in
    rw (same, broken at.After-at-broken)
    (sym (listing-judged _ _ (first-stop at.After-seek-stop) _ (before-end at.Else-stop-listing) ∙ rw (← c.first_line.ensures, none)))

pub returns-then-not-alike : goal.returns-then-not-alike
unfolding stands_for
returns-then-not-alike c =
    let at = goal.at.returns-then-not-alike c in
    let says = c.in_ok-form.ensures.ok_part in
    let unlike = sym c.if-not-alike.ensures in
    rw (c.at.ensures, first-line at.After-seek-stop)
    (sym (listing-judged _ _ (first-stop at.After-seek-stop) _ (before-end at.Else-stop-listing) ∙ rw (← c.first_line.ensures, says, unlike)))

pub next_line-requires : goal.next_line-requires
next_line-requires c =
    let at = goal.at.next_line-requires c in
    omega (arith, before-end at.Else-stop-listing, first-line at.After-seek-stop)

pub judge_from_second-requires : goal.judge_from_second-requires
judge_from_second-requires c =
    let limits = (alike-sizes _ _ (sym c.if-not-alike.ensures)).0 in
    let next = c.next_line.ensures.0 in
    let at = goal.at.judge_from_second-requires c in (
      record { inside = omega (arith, before-end at.Else-stop-listing, next); counted = omega (arith, next) },
      omega (arith, first-line at.After-seek-stop, c.next_line.ensures.1),
      limits.inputs.1,
      limits.outputs.1,
      c.requires,
    )

pub returns : goal.returns
returns c =
    let at = goal.at.returns c in
    let says = c.in_ok-form.ensures.ok_part in
    let same = sym c.if-not-alike.ensures in
    c.judge_from_second.ensures
    ∙ rw c.next_line.ensures.0
    (sym (listing-judged _ _ (first-stop at.After-seek-stop) _ (before-end at.Else-stop-listing) ∙ rw (← c.first_line.ensures, says, same)))
