-- When a listing is refused beside a table whose k is a number, and by which number and line, in document 02's words. W-201: "n, m or k unlike the table's is
-- 12 with line 1, before any later line is read; counts unlike the lines are 12 with line 1, after every line has passed."
use Rattle.std.specs.Prelude.{List, ◌∷◌, ◌++◌, ◌≡◌, ℕ}
use Rattle.numbers.specs.declared.refusals.Refusal.{Refusal}
use Rattle.numbers.specs.declared.refusals.Refusal.TheVariants.{BrokenListing, UnlikeListing}
use Rattle.lines.specs.FirstBad.{line_after, end_line}
use Rattle.table_texts.specs.declared.sizes.Sizes.{Sizes}
use Rattle.listing_texts.specs.Form.{FormListing}
use Rattle.listing_texts.specs.Inv.{NoInv}
use Rattle.listing_texts.specs.FirstLines.{FirstLines, BadNext, CountsUnlike}

-- the listing s is refused beside a table with the sizes z by this refusal and with this line; whatever follows what is named here
pub data ListingRefusal (z : Sizes) (s : List ℕ) : (why : Refusal) (line : ℕ) → Type 0 where
  -- "A broken listing line .. is 11 with its line in the listing": the first line is no `form` or `form2` line
  first : (FormListing s → ⊥) → ListingRefusal z s BrokenListing 1
  -- "n, m or k unlike the table's is 12 with line 1, before any later line is read"; "a listing of the other family than its table is 12, line 1"; W-207:
  -- "`f` with a digit above 2 or above n is .. in a listing 12", and so is an `f` field beside a digit
  unlike : (l : FormListing s) → (l.form.sizes ≡ z → ⊥) → ListingRefusal z s UnlikeListing 1
  -- W-205: "a second line, `inv` and m characters"; it is broken or is not there
  second : (l : FormListing s) → l.form.sizes ≡ z → NoInv z.m l.rest → ListingRefusal z s BrokenListing 2
  -- "A broken listing line, or a term whose t is not above the one before, is 11 with its line in the listing", after lines that pass
  later : (l : FirstLines z s) → BadNext z s l → ListingRefusal z s BrokenListing (line_after l.before)
  -- "and so is an end that refusal 6 would catch in a table text": a byte after the `end` line, with the line that it begins
  followed : (l : FirstLines z s) (b : ℕ) (more : List ℕ) → l.rest ≡ end_line ++ b ∷ more
      → ListingRefusal z s BrokenListing (line_after (l.before ++ end_line))
  -- "counts unlike the lines are 12 with line 1, after every line has passed"
  counts : (l : FirstLines z s) → CountsUnlike z s l → ListingRefusal z s UnlikeListing 1
