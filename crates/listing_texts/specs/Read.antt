-- What a listing beside a table means: the numbers of its first line, the mask of its second and its rows, or the refusal that it meets. Document 02,
-- W-201, W-202, W-203, W-205 and W-207.
use Rattle.std.specs.Prelude.{Bool, cond, ◌&&◌, List, [], ◌∷◌, ℕ, eqb, replicate, is_ok, Option, Some, None}
use Rattle.numbers.specs.declared.refusals.Refusal.{Refusal}
use Rattle.numbers.specs.declared.refusals.Refusal.TheVariants.{BrokenListing, UnlikeListing}
use Rattle.numbers.specs.Refusals.{sizes_refusal}
use Rattle.expansions.specs.Classes.{most_mixed}
use Rattle.expansions.specs.Numbered.{class_number, family_number}
use Rattle.expansions.specs.Costs.{products, literals}
use Rattle.listings.specs.Parts.{parts}
use Rattle.lines.specs.declared.rows.Grammar.{Grammar}
use Rattle.fields.specs.Fields.{and_then}
use Rattle.lines.specs.Rows as lines
use Rattle.table_texts.specs.declared.sizes.Sizes.{Sizes}
use Rattle.listing_texts.specs.declared.form.Form.{Form}
use Rattle.listing_texts.specs.Form.{first_line}
use Rattle.listing_texts.specs.Inv.{inv_said}
use Rattle.shown_rows.specs.Rows.{coefficient_in}

-- the numbers of a first line with the inversion mask of the second and the rows of the `term` lines; or "11 with its line in the listing" and "12
-- with line 1"
pub data ListingReading : Type 0 where
  shown : (form : Form) (inverted : ℕ) (rows : List ℕ) → ListingReading
  refused : (why : Refusal) (line : ℕ) → ListingReading

-- ---- the judgement

-- "n, m or k unlike the table's is 12 with line 1", and "a listing of the other family than its table is 12, line 1"; W-207: "the listing repeats that
-- field", and "`f` with a digit above 2 or above n is .. in a listing 12": the sizes z are a table's, and those of the listing are the same, with the same
-- class and the same family
unfoldable pub alike : Sizes → Sizes → Bool
alike z y =
    is_ok (sizes_refusal z.n z.m (most_mixed z.class) z.k)
    && (eqb y.n z.n && (eqb y.m z.m && (eqb y.k z.k
    && (eqb (class_number y.class) (class_number z.class) && eqb (family_number y.family) (family_number z.family)))))

-- "counts unlike the lines are 12 with line 1": the products and the literals that the first line states are those of the `term` lines
unfoldable pub counts_right : ℕ → Form → List ℕ → Bool
counts_right n f rows = eqb f.products (products n (coefficient_in rows)) && eqb f.literals (literals n (coefficient_in rows))

-- "A broken listing line, or a term whose t is not above the one before, is 11 with its line in the listing, and so is an end that refusal 6
-- would catch in a table text"; the counts are judged "after every line has passed"
unfoldable pub lines_judged : ℕ → Form → ℕ → lines.RowsRead → ListingReading
lines_judged n f v (lines.rows values) = cond (counts_right n f values) (shown f v values) (refused UnlikeListing 1)
lines_judged n f v (lines.refused why line) = refused BrokenListing line

-- a broken first line is 11; unlike sizes, or another family, are 12 "before any later line is read"
abbrev pub first_judged : Option Form → Sizes → (Form → ListingReading) → ListingReading
first_judged (Some f) z next = cond (alike z f.sizes) (next f) (refused UnlikeListing 1)
first_judged None z next = refused BrokenListing 1

-- the lines of the listing of a table with the sizes z
abbrev pub grammar : Sizes → Grammar
grammar z = lines.listing_grammar z.n z.m

-- the second line, "`inv` and m characters", and the lines after it; a second line that is broken, is not there, or has no byte 10 at its end is 11
unfoldable pub from_second : Sizes → Form → List ℕ → List (List ℕ) → ListingReading
from_second z f l [] = refused BrokenListing 2
from_second z f l (l' ∷ ls) =
    and_then (inv_said z.m l) (refused BrokenListing 2)
    (λ v. lines_judged z.n f v (lines.later_lines (lines.row_line (grammar z)) z.n 3 0 (replicate 256 0) l' ls))

-- the first line, and the lines after it; a first line that no byte 10 ends is 11
unfoldable pub all_lines : Sizes → List ℕ → List (List ℕ) → ListingReading
all_lines z l [] = refused BrokenListing 1
all_lines z l (l' ∷ ls) = first_judged (first_line l) z (λ f. from_second z f l' ls)

-- "Read a listing beside its table text": what the bytes of a listing mean beside a table with the sizes z
unfoldable pub listing_reading : Sizes → List ℕ → ListingReading
listing_reading z s = all_lines z (parts 10 s).first (parts 10 s).others

-- ---- beside a `K` table

-- "a `K` table beside a `form` listing is 12": the refusal by the first line, which is 11 where it is no `form` or `form2` line
abbrev pub beside_line : Option Form → Refusal
beside_line (Some f) = UnlikeListing
beside_line None = BrokenListing

-- the refusal by the first line and the parts after it; a first line that no byte 10 ends is 11
unfoldable pub beside_lines : List ℕ → List (List ℕ) → Refusal
beside_lines l [] = BrokenListing
beside_lines l (l' ∷ ls) = beside_line (first_line l)

-- "In the fitter's check a `kron` listing is 11, line 1, and a `K` table beside a `form` listing is 12.": the refusal, with line 1,
-- that every listing meets beside a `K` table
unfoldable pub beside_kronecker : List ℕ → Refusal
beside_kronecker s = beside_lines (parts 10 s).first (parts 10 s).others
