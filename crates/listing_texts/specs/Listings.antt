-- The listings that pass beside a table. Document 02, W-201, and document 01, "Text in, listing out": "A listing .. is: `form` ..; one line for
-- each product ..; `end`."; W-203: `form2` beside a `table2` table; W-205: "a second line, `inv` and m characters"; W-207: "the
-- listing repeats that field".
use Rattle.std.specs.Prelude.{List, ◌≡◌, ℕ, ◌^◌, ◌<◌}
use Rattle.expansions.specs.Costs.{products, literals}
use Rattle.listings.specs.Listing.{form_fields, listing_with}
use Rattle.table_texts.specs.declared.sizes.Sizes.{Sizes}

-- the listing, of the table's family and class, of terms of any polarities w t and any coefficients c t, with any inversion mask v, any M and any i, and with its
-- own counts
unfoldable pub term_listing : Sizes → (v M i : ℕ) → (w c : ℕ → ℕ) → List ℕ
term_listing z v M i w c =
    listing_with z.family (form_fields z.class z.n z.m z.k M i (products z.n c) (literals z.n c)) v z.n z.m w c

-- a listing that is not refused beside a table with the sizes z: it is the listing of some terms, whose coefficients have "bits m to 7 zero", with a
-- mask of the m outputs, and M and i have "one to four digits" (proofs/Exactness, `passes-exactly`)
pub record Passes (z : Sizes) (s : List ℕ) : Type 0 where
  pub inverted : ℕ
  pub mixed : ℕ
  pub fixed : ℕ
  pub polarity : ℕ → ℕ
  pub coefficient : ℕ → ℕ
  pub mask : inverted < 2 ^ z.m
  pub mixed_digits : mixed < 10000
  pub fixed_digits : fixed < 10000
  pub outputs : (t : ℕ) → t < 2 ^ z.n → coefficient t < 2 ^ z.m
  pub characters : s ≡ term_listing z inverted mixed fixed polarity coefficient
