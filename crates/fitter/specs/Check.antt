-- The fitter's check: the answer for every pair of byte strings; and when each answer is given, in document 02's words, over the listing's
-- bytes. Document 02, W-201: "Read a listing beside its table text and say: not of the class; differs, with the lowest point that differs; or
-- same." W-202: "In the fitter's check a `kron` listing is 11, line 1, and a `K` table beside a `form` listing is 12." W-203: "The fitter's check takes
-- both families; a listing of the other family than its table is 12, line 1." W-205: "The fitter's check reads the line and inverts." W-207: of an `f`
-- field, "the listing repeats that field, and the fitter judges by it". W-208: "the check resolves a dash like the compiler": both go by what the table text
-- means.
use Rattle.std.specs.Prelude.{List, ◌⊎◌, ◌↔◌, ◌≡◌, ℕ, ◌+◌, ◌^◌, ◌<◌, ◌≤◌, length, Result, Ok, Err}
use Rattle.numbers.specs.declared.refusals.Refusal.{Refusal}
use Rattle.numbers.specs.declared.refusals.Refusal.TheVariants.{BrokenListing, UnlikeListing}
use Rattle.numbers.specs.Refusals.{declined}
use Rattle.numbers.specs.Bytes.{at}
use Rattle.expansions.specs.declared.kinds.Kind.TheVariants.{Kronecker}
use Rattle.expansions.specs.Members.{InClass, Gives}
use Rattle.listings.specs.Listing.{printed_cubes}
use Rattle.listings.specs.Meaning.{listing_value, listing_cubes, stated_mixed, stated_fixed}
use Rattle.table_texts.specs.declared.sizes.Sizes.{Sizes}
use Rattle.table_texts.specs.declared.sizes.Design.{Design}
use Rattle.table_texts.specs.Design.{mixed_design}
use Rattle.table_texts.specs.TableTexts.{Means}
use Rattle.table_texts.specs.Refusals.{TextRefusals}
use Rattle.table_texts.specs.Inner.Reading as tables
use Rattle.listing_texts.specs.Form.{FormListing, KronListing}
use Rattle.listing_texts.specs.Listings.{term_listing, Passes}
use Rattle.listing_texts.specs.Refusals.{ListingRefusal}
use Rattle.fitter.specs.declared.check.Verdict.{Verdict}
use Rattle.numbers.specs.declared.refusals.Refused.{Refused}
use Rattle.fitter.specs.declared.check.Verdict.TheVariants.{Same, Differs, NotOfClass}
use Rattle.fitter.specs.Inner.Answer.{checked}

-- ---- the answer in document 02's words

-- a "member with the listing's M and i" that prints the listing's cubes: polarities w t of the terms t, of the class that the table's field k selects, and
-- any coefficients. In document 01's class those in M are one for each block; in the free class "each term having its own polarities in M"
abbrev pub PrintsCubes : Sizes → List ℕ → (w c : ℕ → ℕ) → Type 0
PrintsCubes z s w c = InClass z.class z.n z.k (stated_mixed s) (stated_fixed s) w × (printed_cubes z.n w c ≡ listing_cubes s)

-- "some member of 01's class with the listing's M and i prints just those lines, outputs and all, and gives every output at every point", and with an
-- `f` field some expansion of the free class: the bytes are those of its listing with the inversion mask v, its coefficients have "bits m to 7 zero" and so
-- has the mask, and it gives the table
pub record PrintsTable (z : Sizes) (table s : List ℕ) (v : ℕ) (w c : ℕ → ℕ) : Type 0 where
  pub in_class : InClass z.class z.n z.k (stated_mixed s) (stated_fixed s) w
  pub outputs : (t : ℕ) → t < 2 ^ z.n → c t < 2 ^ z.m
  pub mask : v < 2 ^ z.m
  pub lines : s ≡ term_listing z v (stated_mixed s) (stated_fixed s) w c
  pub gives : Gives z.n v w c (at table)

-- p is "the lowest point that differs": read from its own lines, inverters and all, the listing gives the table's byte at each point below p, and another
-- at p: "The fitter's check reads the line and inverts."
pub record LowestDifference (n : ℕ) (table s : List ℕ) (p : ℕ) : Type 0 where
  pub point : p < 2 ^ n
  pub differs : listing_value s p ≡ at table p → ⊥
  pub before : (q : ℕ) → q < p → listing_value s q ≡ at table q

-- when each answer is given beside an accepted table text whose k is a number: "The fitter's check takes both families"
pub record Answers (z : Sizes) (table s : List ℕ) (r : Result Verdict Refused) : Type 0 where
  -- "'Not of the class' is said exactly when no member with the listing's M and i prints those cubes.", of the listings that are not refused
  pub not_of_class : (r ≡ Ok NotOfClass) ↔ (Passes z s × ((w c : ℕ → ℕ) → PrintsCubes z s w c → ⊥))
  -- "'Same' is said exactly when some member .. prints just those lines, outputs and all, and gives every output at every point, cheap or not."
  pub same : (r ≡ Ok Same) ↔ ((v : ℕ) × (w : ℕ → ℕ) × (c : ℕ → ℕ) × PrintsTable z table s v w c)
  -- "Class is judged before points.": a member prints the cubes, and p is "the lowest point that differs"
  pub differs : (p : ℕ) → (r ≡ Ok (Differs p)) ↔ (Passes z s × ((w : ℕ → ℕ) × (c : ℕ → ℕ) × PrintsCubes z s w c) × LowestDifference z.n table s p)
  -- a listing is refused exactly when it is not the listing of some terms, with the table's n, m, k, class and family and with its
  -- own counts
  pub refusal : ((e : Refused) → r ≡ Err e → ⊥) ↔ Passes z s

-- the answer beside an accepted `K` table: "a `K` table beside a `form` listing is 12", a `form2` listing too, and any other listing 11, each with line 1
pub record KroneckerAnswers (s : List ℕ) (r : Result Verdict Refused) : Type 0 where
  pub form : (r ≡ Err (declined UnlikeListing 1)) ↔ FormListing s
  pub other : (r ≡ Err (declined BrokenListing 1)) ↔ (FormListing s → ⊥)
  pub either : (r ≡ Err (declined BrokenListing 1)) ⊎ (r ≡ Err (declined UnlikeListing 1))

-- the check, for every pair of byte strings, by what the table text means: "the check resolves a dash like the compiler"
pub record Check (text s : List ℕ) (r : Result Verdict Refused) : Type 0 where
  pub answer : r ≡ checked (tables.reading text) s
  -- "The table text is judged first.": its refusal is the answer, with its number and its line, whatever the listing is
  pub text_first : (why : Refusal) (line : ℕ) → tables.reading text ≡ tables.refused why line → r ≡ Err (declined why line)
  -- and so the answer is refused in the documents' words, by the first bad line of the text
  pub text_words : TextRefusals text (λ why line. r ≡ Err (declined why line))
  pub words : (z : Sizes) (table : List ℕ) → Means text (mixed_design z) table → Answers z table s r
  -- "A broken listing line .. is 11 with its line in the listing": 11 with line 1 is said of the listings whose first line is no `form` or `form2` line, and of
  -- no others
  pub first : (z : Sizes) (table : List ℕ) → Means text (mixed_design z) table → (r ≡ Err (declined BrokenListing 1)) ↔ (FormListing s → ⊥)
  -- W-202: "In the fitter's check a `kron` listing is 11, line 1", beside every table text that is accepted
  pub kron : (d : Design) (table : List ℕ) → Means text d table → KronListing s → r ≡ Err (declined BrokenListing 1)
  -- "is 11 with its line in the listing", "is 12 with line 1": a listing is refused by no other number. "Both follow 10."
  pub numbers : (z : Sizes) (table : List ℕ) → Means text (mixed_design z) table → (e : Refused) → r ≡ Err e
      → ((e.refusal ≡ BrokenListing) × (1 ≤ e.line) × (e.line ≤ 1 + length s)) ⊎ ((e.refusal ≡ UnlikeListing) × (e.line ≡ 1))
  -- a listing is refused exactly where document 02 refuses it, by that number and with that line
  pub refused : (z : Sizes) (table : List ℕ) → Means text (mixed_design z) table → (why : Refusal) (line : ℕ)
      → (r ≡ Err (declined why line)) ↔ ListingRefusal z s why line
  pub kronecker : (d : Design) (table : List ℕ) → Means text d table → d.kind ≡ Kronecker → KroneckerAnswers s r
