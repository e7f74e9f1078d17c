-- What judging a listing leads to, with the rows that it leaves, and what a listing means from its second line on. Cited by the contracts of private
-- functions alone.
use Rattle.std.specs.Prelude.{List, ℕ, drop, Result, Ok, Err}
use Rattle.numbers.specs.declared.refusals.Refused.{Refused}
use Rattle.listings.specs.Parts.{parts}
use Rattle.table_texts.specs.declared.sizes.Sizes.{Sizes}
use Rattle.listing_texts.specs.declared.form.Form.{Form}
use Rattle.listing_texts.specs.declared.read.Passed.{Passed}
use Rattle.listing_texts.specs.Read.{ListingReading, shown, refused, from_second}

-- what each case stands for
unfoldable pub stands_for : Result Passed Refused → List ℕ → ListingReading
stands_for (Ok passed) rows = shown passed.form passed.inverted rows
stands_for (Err e) rows = refused e.refusal e.line

-- what a listing means whose first line states f, by the lines from the place `at` on, where its second line begins
abbrev pub second_at : Sizes → Form → List ℕ → ℕ → ListingReading
second_at z f s at = from_second z f (parts 10 (drop at s)).first (parts 10 (drop at s)).others
