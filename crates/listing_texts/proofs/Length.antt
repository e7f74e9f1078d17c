-- A listing that passes has at most 5,936 bytes, and one more where its k has an `f` (`passes-length`), so that its first 8,192 bytes are the whole of it (`passes-first`).
use mathlib.Core.List.{List, [], ◌∷◌}
use mathlib.Core.Path.{◌≡◌}
use Prim.Native.Nat.{ℕ, ◌+◌, ◌*◌, ◌≤◌}
use native.Mathlib.Nat.{mul-le-mul}
use native.Mathlib.Omega.{arith}
use lib.ListN.{length, take}
use lib.Seq.{take_all}
use Rattle.numbers.specs.Refusals.{Sized}
use Rattle.numbers.proofs.Shifts.{points-le}
use Rattle.expansions.specs.declared.kinds.Class.{Class}
use Rattle.expansions.specs.declared.kinds.Class.TheVariants.{Block, Free}
use Rattle.expansions.specs.Classes.{most_mixed}
use Rattle.expansions.specs.Costs.{products, literals}
use Rattle.expansions.proofs.Classes.{most-three}
use Rattle.expansions.proofs.Costs.{products-le}
use Rattle.listings.specs.Listing.{mixed_mark}
use Rattle.listings.specs.Parts.{bytes}
use Rattle.listings.specs.Inner.Lengths.{digits_of}
use Rattle.listings.proofs.Characters.{digit_count-in}
use Rattle.listings.proofs.Lengths.{length-form_word, length-form_fields, length-listing_with}
use Rattle.listings.proofs.Longest.{digit_count-one, digit_count-three}
use Rattle.table_texts.specs.declared.sizes.Sizes.{Sizes}
use Rattle.listing_texts.specs.Listings.{term_listing, Passes}

-- what stands before the digit of k
pub mark-le : (C : Class) → length (mixed_mark C) ≤ 1
unfolding mixed_mark bytes
mark-le Block = omega arith
mark-le Free = omega arith

module _ (z : Sizes) (sized : Sized z.n z.m (most_mixed z.class) z.k) (v M i : ℕ) (w c : ℕ → ℕ) where
  few : products z.n c ≤ 256
  few = omega (arith, products-le z.n c, points-le z.n sized.inputs.1)

  digits_le : digits_of (z.n ∷ z.m ∷ z.k ∷ M ∷ i ∷ products z.n c ∷ literals z.n c ∷ []) ≤ 18
  unfolding digits_of
  digits_le =
      omega (
        arith,
        digit_count-one z.n (omega (arith, sized.inputs.1)),
        digit_count-one z.m (omega (arith, sized.outputs.1)),
        digit_count-one z.k (omega (arith, sized.mixed.0, most-three z.class)),
        digit_count-in M,
        digit_count-in i,
        digit_count-three (products z.n c) (omega (arith, few)),
        digit_count-in (literals z.n c),
      )

  listing-le : length (term_listing z v M i w c) ≤ 5936 + length (mixed_mark z.class)
  unfolding term_listing
  listing-le =
      let width : 5 + z.n + 1 + z.m + 1 ≤ 23 = omega (arith, sized.inputs.1, sized.outputs.1) in
      let terms : products z.n c * (5 + z.n + 1 + z.m + 1) ≤ 256 * 23 = mul-le-mul few width in
      let fields = length-form_fields z.class z.n z.m z.k M i (products z.n c) (literals z.n c) in
      rw (length-listing_with z.family _ v z.n z.m w c) (omega (arith, digits_le, fields, length-form_word z.family, sized.outputs.1))

pub passes-length : (z : Sizes) (s : List ℕ) → Sized z.n z.m (most_mixed z.class) z.k → Passes z s → length s ≤ 5936 + length (mixed_mark z.class)
passes-length z s sized p = rw p.characters (listing-le z sized p.inverted p.mixed p.fixed p.polarity p.coefficient)

-- each file is judged by its first 8,192 bytes
pub passes-first : (z : Sizes) (s : List ℕ) → Sized z.n z.m (most_mixed z.class) z.k → Passes z s → take 8192 s ≡ s
passes-first z s sized p = take_all 8192 s (omega (arith, passes-length z s sized p, mark-le z.class))
