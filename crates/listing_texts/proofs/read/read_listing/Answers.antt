-- `read_listing` meets its contract: what judging leads to is handed up, and so the record of a listing that was written.
use mathlib.Core.Path.{◌≡◌, sym, ◌∙◌}
use native.Mathlib.Omega.{arith}
use borrow.Author.Rules.{rules}
use Rattle.std.specs.Prelude.{Result, Ok, Err, MatchResult, is_ok}
use Rattle.numbers.specs.declared.refusals.Refused.{Refused}
use Rattle.numbers.proofs.Shifts.{points-le}
use Rattle.expansions.proofs.Classes.{most-three}
use Rattle.listing_texts.specs.declared.read.Passed.{Passed}
use Rattle.listing_texts.specs.declared.read.RefusedListing.{RefusedListing}
use Rattle.listing_texts.specs.Record.{handed_up}
use Rattle.listing_texts.specs.Inner.Judging.{stands_for}
use Rattle.listing_texts.proofs.Exactness.{listing-read}
use Rattle.listing_texts.proofs.ReadBack.{yields-record}
use Rattle.listing_texts.proofs.read.read_listing.Goals as goal

-- a listing that passes once refusals have their record has passed judging, with the same numbers
passed-before : (Q : Refused → Type 0) (r : Result Passed Refused) (given : Result Passed RefusedListing) (p : Passed)
    → MatchResult r (λ x. given ≡ Ok x) Q → is_ok given ≡ is_ok r → given ≡ Ok p → r ≡ Ok p
passed-before Q (Ok x) given p cases same was = let e : Ok x ≡ Ok p = sym cases ∙ was in cc
passed-before Q (Err e) given p cases same was = cc

pub shown_listing-requires : goal.shown_listing-requires
unfolding stands_for
shown_listing-requires c =
    let was = passed-before _ _ _ _ c.map_err.ensures.cases c.map_err.ensures.variant c.in_ok-passed.was in
    let known = listing-read _ _ _ _ _ (sym (rw was at c.judge_listing-judged.ensures)) in (
      known.sized.inputs.1,
      omega (arith, known.sized.mixed.0, most-three c.args.sizes.class),
      omega (arith, known.mask, points-le _ known.sized.outputs.1),
      known.rows.small,
    )

pub returns-in_err-passed-clause-had_back : goal.returns-in_err-passed-clause-had_back
unfolding stands_for handed_up
returns-in_err-passed-clause-had_back c = yields-record _ _ _ (search rules)

pub returns-clause-had_back : goal.returns-clause-had_back
unfolding stands_for handed_up
returns-clause-had_back c = yields-record _ _ _ (search rules)
