-- A listing by its first line and what follows it, and that by the second line and what follows it.
use mathlib.Core.List.{List, ◌++◌}
use mathlib.Core.Path.{◌≡◌, ap, ◌∙◌}
use Prim.Native.Nat.{ℕ, suc, ◌≤◌, ◌<◌}
use lib.ListN.{length, drop}
use Rattle.numbers.specs.declared.refusals.Refusal.TheVariants.{BrokenListing}
use Rattle.listings.specs.Parts.{parts}
use Rattle.listings.specs.Listing.{tabbed, line}
use Rattle.listings.proofs.Parts.{others-none, others-more}
use Rattle.fields.specs.Fields.{and_then}
use Rattle.lines.specs.Rows.{rows_from}
use Rattle.lines.proofs.LineKinds.{line-ended}
use Rattle.lines.proofs.FirstBad.{first-split}
use Rattle.table_texts.specs.declared.sizes.Sizes.{Sizes}
use Rattle.listing_texts.specs.declared.form.Form.{Form}
use Rattle.listing_texts.specs.Form.{first_line}
use Rattle.listing_texts.specs.Inv.{inv_said}
use Rattle.listing_texts.specs.Read.{ListingReading, refused, lines_judged, first_judged, grammar, from_second, all_lines, listing_reading}
use Rattle.listing_texts.specs.Inner.Judging.{second_at}

-- what a listing means whose first line is l, without its byte 10, and is followed by s
abbrev pub opened : Sizes → List ℕ → List ℕ → ListingReading
opened z l s = first_judged (first_line l) z (λ f. second_at z f s 0)

-- what a listing means whose first line states f, whose second line is l, without its byte 10, and is followed by s
abbrev pub opened_second : Sizes → Form → List ℕ → List ℕ → ListingReading
opened_second z f l s = and_then (inv_said z.m l) (refused BrokenListing 2) (λ v. lines_judged z.n f v (rows_from (grammar z) 3 s))

-- ---- where byte 10 ends the line

module _ (s : List ℕ) (h : length (parts 10 s).first < length s) where
  pub reading-split : (z : Sizes) → listing_reading z s ≡ opened z (parts 10 s).first (drop (suc (length (parts 10 s).first)) s)
  unfolding listing_reading all_lines
  reading-split z = ap (all_lines z (parts 10 s).first) (others-more 10 s h)

  pub second-split : (z : Sizes) (f : Form) → second_at z f s 0 ≡ opened_second z f (parts 10 s).first (drop (suc (length (parts 10 s).first)) s)
  unfolding from_second
  second-split z f = ap (from_second z f (parts 10 s).first) (others-more 10 s h)

  -- the line and what follows it, as the fields of the line are known
  pub split-joined : (word : List ℕ) (fs : List (List ℕ)) → (parts 10 s).first ≡ word ++ tabbed fs
      → s ≡ line word fs ++ drop (suc (length (parts 10 s).first)) s
  split-joined word fs e = first-split s h ∙ line-ended word (parts 10 s).first (drop (suc (length (parts 10 s).first)) s) fs e

-- ---- where none does

module _ (s : List ℕ) (h : length s ≤ length (parts 10 s).first) where
  pub reading-unfinished : (z : Sizes) → listing_reading z s ≡ refused BrokenListing 1
  unfolding listing_reading all_lines
  reading-unfinished z = ap (all_lines z (parts 10 s).first) (others-none 10 s h)

  pub second-unfinished : (z : Sizes) (f : Form) → second_at z f s 0 ≡ refused BrokenListing 2
  unfolding from_second
  second-unfinished z f = ap (from_second z f (parts 10 s).first) (others-none 10 s h)
