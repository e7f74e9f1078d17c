-- What the bytes of a listing that was read say: its M and i, its cubes, and its value at each point are those of its first line, its mask and its rows.
use mathlib.Core.List.{List, [], ◌∷◌}
use mathlib.Core.Path.{◌≡◌, ap, ◌∙◌}
use Prim.Native.Nat.{ℕ, ◌/◌, ◌^◌, ◌<◌}
use native.Mathlib.Omega.{arith}
use lib.ListN.{get_or}
use Rattle.numbers.specs.Refusals.{Sized}
use Rattle.numbers.proofs.Shifts.{points-le}
use Rattle.expansions.specs.Classes.{most_mixed}
use Rattle.expansions.specs.Costs.{products, literals}
use Rattle.expansions.proofs.Costs.{products-le, literals-lt}
use Rattle.listings.specs.Listing.{mixed_field, form_fields, printed_cubes}
use Rattle.listings.specs.Meaning.{listing_value, listing_cubes, number_said, first_numbers, stated_mixed, stated_fixed}
use Rattle.listings.proofs.Meaning.{Small}
use Rattle.listings.proofs.Forms.{plain_fields, listing-numbers, listing-value, listing-cubes}
use Rattle.listings.proofs.Joined.{AllPlain}
use Rattle.membership.specs.Class.{Shown}
use Rattle.table_texts.specs.declared.sizes.Sizes.{Sizes}
use Rattle.listing_texts.specs.Listings.{term_listing}
use Rattle.shown_rows.specs.Rows.{coefficient_in, complemented_in}
use Rattle.lines.proofs.Terms.{TermRows}
use Rattle.fitter.specs.Differences.{inverted_value}

-- ---- a listing of terms

module _ (z : Sizes) (s : List ℕ) (v M i : ℕ) (w c : ℕ → ℕ) (sized : Sized z.n z.m (most_mixed z.class) z.k) (hM : M < 10000) (hi : i < 10000)
    (e : s ≡ term_listing z v M i w c) where
  numbers-small : Small (z.n ∷ z.m ∷ M ∷ i ∷ products z.n c ∷ literals z.n c ∷ [])
  numbers-small =
      let inputs = sized.inputs.1 in
      let outputs = sized.outputs.1 in
      let few : products z.n c < 10000 = omega (arith, products-le z.n c, points-le z.n sized.inputs.1) in
      let short : literals z.n c < 10000 = omega (arith, literals-lt z.n c sized.inputs.1) in
      (omega arith, (omega arith, (hM, (hi, (few, (short, tt))))))

  numbers-stated : first_numbers s ≡ z.n ∷ z.m ∷ number_said 0 (mixed_field z.class z.k) ∷ M ∷ i ∷ products z.n c ∷ literals z.n c ∷ []
  unfolding term_listing
  numbers-stated =
      ap first_numbers e
      ∙ listing-numbers z.family z.class z.n z.m z.k M i (products z.n c) (literals z.n c) v w c numbers-small

  pub mixed-stated : stated_mixed s ≡ M
  mixed-stated = ap (λ (xs : List ℕ). get_or xs 3 0) numbers-stated

  pub fixed-stated : stated_fixed s ≡ i
  fixed-stated = ap (λ (xs : List ℕ). get_or xs 4 0) numbers-stated

-- the fields of its first line hold no separator
fields-plain : (z : Sizes) (M i : ℕ) (c : ℕ → ℕ) → AllPlain (form_fields z.class z.n z.m z.k M i (products z.n c) (literals z.n c))
fields-plain z M i c = plain_fields z.class z.n z.m z.k M i (products z.n c) (literals z.n c)

pub cubes-listed : (z : Sizes) (s : List ℕ) (v M i : ℕ) (w c : ℕ → ℕ) → s ≡ term_listing z v M i w c → listing_cubes s ≡ printed_cubes z.n w c
unfolding term_listing
cubes-listed z s v M i w c e = ap listing_cubes e ∙ listing-cubes z.family _ (fields-plain z M i c) v z.n z.m w c

pub value-listed : (z : Sizes) (s : List ℕ) (v M i : ℕ) (w c : ℕ → ℕ) → s ≡ term_listing z v M i w c → v < 2 ^ z.m
    → ((t : ℕ) → t < 2 ^ z.n → c t < 2 ^ z.m) → (p : ℕ) → listing_value s p ≡ inverted_value z.n w c v p
unfolding term_listing
value-listed z s v M i w c e mask small p =
    ap (λ (b : List ℕ). listing_value b p) e ∙ listing-value z.family _ (fields-plain z M i c) v z.n z.m w c mask small p

-- ---- the rows that were read

pub rows-shown : (n m : ℕ) (t : List ℕ) → TermRows n m t → Shown n (complemented_in t) (coefficient_in t)
rows-shown n m t r = record { within = r.within; none = λ u h z. ap (λ (x : ℕ). x / 256) (r.listed u z) }
