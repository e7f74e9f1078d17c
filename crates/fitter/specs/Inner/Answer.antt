-- The check's answer as a function. When each answer is given is said in words by `Check`: no promise rests on this file.
use Rattle.std.specs.Prelude.{cond, List, ℕ, Result, Ok, Err}
use Rattle.numbers.specs.Refusals.{declined}
use Rattle.numbers.specs.Bytes.{at}
use Rattle.expansions.specs.declared.families.Family.{Family}
use Rattle.expansions.specs.declared.kinds.Kind.{Kind}
use Rattle.expansions.specs.declared.kinds.Kind.TheVariants.{Mixed, Kronecker}
use Rattle.expansions.specs.Least.{Best, nothing, best}
use Rattle.membership.specs.Class.{of_class}
use Rattle.table_texts.specs.declared.sizes.Sizes.{Sizes}
use Rattle.table_texts.specs.declared.sizes.Design.{Design}
use Rattle.table_texts.specs.Inner.Reading as tables
use Rattle.shown_rows.specs.Rows.{coefficient_in, complemented_in}
use Rattle.listing_texts.specs.Read.{ListingReading, shown, refused, listing_reading, beside_kronecker}
use Rattle.fitter.specs.Differences.{inverted_value, first_difference}
use Rattle.fitter.specs.declared.check.Verdict.{Verdict}
use Rattle.numbers.specs.declared.refusals.Refused.{Refused}
use Rattle.fitter.specs.declared.check.Verdict.TheVariants.{Same, Differs, NotOfClass}

-- "differs, with the lowest point that differs; or same"
abbrev pub compared : Best → Verdict
compared nothing = Same
compared (best p) = Differs p

-- "Class is judged before points.": the listing's refusal, or the answer on its rows
unfoldable pub judged : Sizes → List ℕ → ListingReading → Result Verdict Refused
judged z table (shown f v rows) =
    cond (of_class z.class z.n z.k f.mixed f.fixed (complemented_in rows) (coefficient_in rows))
    (Ok (compared (first_difference z.n (inverted_value z.n (complemented_in rows) (coefficient_in rows) v) (at table))))
    (Ok NotOfClass)
judged z table (refused why line) = Err (declined why line)

-- a listing beside a table with the sizes z
abbrev pub judged_mixed : Sizes → List ℕ → List ℕ → Result Verdict Refused
judged_mixed z table s = judged z table (listing_reading z s)

-- a listing beside a table of n inputs and m outputs for a part of the family, by the kind of k: "a `K` table beside a `form` listing is 12"
abbrev pub judged_kind : Family → ℕ → ℕ → Kind → List ℕ → List ℕ → Result Verdict Refused
judged_kind family n m (Mixed C k) table s = judged_mixed (record { n = n; m = m; class = C; k = k; family = family }) table s
judged_kind family n m Kronecker table s = Err (declined (beside_kronecker s) 1)

-- a listing beside the table of an accepted text
unfoldable pub judged_design : Design → List ℕ → List ℕ → Result Verdict Refused
judged_design d table s = judged_kind d.family d.n d.m d.kind table s

-- "The table text is judged first."
unfoldable pub checked : tables.Reading → List ℕ → Result Verdict Refused
checked (tables.given d table) s = judged_design d table s
checked (tables.refused why line) s = Err (declined why line)
