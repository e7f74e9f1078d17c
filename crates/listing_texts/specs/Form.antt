-- What the first line of a listing says, by its fields, and which listings begin with such a line. Document 01, "Text in, listing out", and
-- document 02, W-203 and W-207: of an `f` field, "the listing repeats that field".
use Rattle.std.specs.Prelude.{List, ◌++◌, ◌≡◌, ℕ, ◌<◌, Option, Some, None}
use Rattle.expansions.specs.declared.families.Family.TheVariants.{One, Two}
use Rattle.listings.specs.Parts.{parts, bytes, field}
use Rattle.listings.specs.Listing.{line, form_fields, form_word}
use Rattle.fields.specs.declared.heading.Heading.{Heading}
use Rattle.fields.specs.declared.values.Mixed.{Mixed}
use Rattle.fields.specs.Fields.{and_then, number, mixed_said, family_of, heading_said}
use Rattle.table_texts.specs.declared.sizes.Sizes.{Sizes}
use Rattle.listing_texts.specs.declared.form.Form.{Form}

-- n, m and the class with its k, where each field says them, with the family
abbrev pub sizes_of : Option Heading → Option Mixed → Option Sizes
sizes_of heading mixed =
    and_then heading None
    (λ h. and_then mixed None (λ x. Some (record { n = h.n; m = h.m; class = x.class; k = x.k; family = h.family })))

-- these sizes with the other four numbers, where each field says one
abbrev pub form_of : Option Sizes → Option ℕ → Option ℕ → Option ℕ → Option ℕ → Option Form
form_of z M i p l =
    and_then z None
    (λ z. and_then M None
    (λ M. and_then i None (λ i. and_then p None (λ p. and_then l None (λ l. Some (record { sizes = z; mixed = M; fixed = i; products = p; literals = l }))))))

-- "`form`, n, m, k (a digit), M, i, products, literals", with the word of either family, and k a digit or `f` and a digit: "its numbers have one to four
-- digits and no leading zero but `0`"
unfoldable pub first_line : List ℕ → Option Form
first_line l =
    form_of
    (sizes_of (heading_said (family_of 8 (form_word One) (form_word Two) l) (number 4 (field 1 l)) (number 4 (field 2 l))) (mixed_said (field 3 l)))
    (number 4 (field 4 l)) (number 4 (field 5 l)) (number 4 (field 6 l)) (number 4 (field 7 l))

-- ---- `form` and `form2` listings

-- the fields of a first line after its word
abbrev pub stated_fields : Form → List (List ℕ)
stated_fields f = let z = f.sizes in form_fields z.class z.n z.m z.k f.mixed f.fixed f.products f.literals

-- "its numbers have one to four digits", and k is "a digit", after an `f` in the free class
pub record Digits (f : Form) : Type 0 where
  pub n : f.sizes.n < 10000
  pub m : f.sizes.m < 10000
  pub k : f.sizes.k < 10
  pub mixed : f.mixed < 10000
  pub fixed : f.fixed < 10000
  pub products : f.products < 10000
  pub literals : f.literals < 10000

-- a `form` or `form2` listing: its first line is "`form`, n, m, k (a digit), M, i, products, literals", with the word of the family, with the class's field k,
-- which byte 10 ends, whatever follows it
pub record FormListing (s : List ℕ) : Type 0 where
  pub form : Form
  pub digits : Digits form
  pub rest : List ℕ
  pub characters : s ≡ line (form_word form.sizes.family) (stated_fields form) ++ rest

-- a `kron` listing: the first field of its first line is the word `kron`
abbrev pub KronListing : List ℕ → Type 0
KronListing s = field 0 (parts 10 s).first ≡ bytes "kron"
