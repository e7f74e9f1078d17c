-- A listing that is written for the record of any member is read as that record, as far as its cubes show it, and each product has its polarity back
-- (`record-read`, `yields-record`); for an answer's record that is the whole record (`answer-read`).
use mathlib.Core.Bool.{Bool, true, false}
use mathlib.Core.List.{List}
use mathlib.Core.Path.{◌≡◌, refl, sym, ap, ◌∙◌}
use Prim.Native.Nat.{ℕ, ◌-◌, ◌%◌, ◌^◌, ◌≤◌, ◌<◌}
use native.Mathlib.Omega.{arith}
use borrow.Author.Tests.{lt-ltb, ltb-true, ltb-false, eq-eqb}
use lib.Bits.{bit_and}
use lib.Dec.{ltb}
use lib.ListN.{length}
use lib.Pow.{pow_mono}
use Rattle.numbers.specs.Bits.{bit}
use Rattle.numbers.specs.Bytes.{at, tabulate}
use Rattle.std.specs.Prelude.{Result, Ok}
use Rattle.numbers.specs.Refusals.{Sized}
use Rattle.numbers.specs.Tests.{only}
use Rattle.numbers.proofs.Bytes.{length-tabulate, at-tabulate, is-table, tabulate-ext}
use Rattle.numbers.proofs.Shifts.{points-le}
use Rattle.numbers.proofs.Tables.{at-whole}
use Rattle.expansions.specs.declared.families.Family.{Family}
use Rattle.expansions.specs.declared.kinds.Class.{Class}
use Rattle.expansions.specs.Classes.{most_mixed, place_polarity}
use Rattle.expansions.specs.Members.{block, place, InClass, Member, polarity, shows, shown_choice}
use Rattle.expansions.proofs.Answers.{answer-coefficient-zero, answer-choice-zero}
use Rattle.expansions.proofs.Blocks.{polarity-inside}
use Rattle.expansions.proofs.Members.{member-class}
use Rattle.expansions.proofs.ShownChoices.{shown-ext, member-shows, shown-member, answer-shown}
use Rattle.membership.proofs.Shown.{shown-past}
use Rattle.search.specs.declared.expansion.Expansion.{Expansion}
use Rattle.search.specs.Inner.Answer.{answer_expansion}
use Rattle.search.proofs.expansion.Answer.{answer_expansion-is, expansion-coefficients, expansion-blocks, expansion-coefficients-lt, expansion-inverted-lt}
use Rattle.listings.specs.Listing.{listing}
use Rattle.table_texts.specs.declared.sizes.Sizes.{Sizes}
use Rattle.listing_texts.specs.declared.read.ListingRead.{ListingRead}
use Rattle.listing_texts.specs.declared.read.RefusedListing.{RefusedListing}
use Rattle.shown_rows.specs.Rows.{coefficient_in, complemented_in, shown_blocks}
use Rattle.listing_texts.specs.Read.{listing_reading, shown}
use Rattle.listing_texts.specs.Listings.{term_listing}
use Rattle.listing_texts.specs.Record.{shown_expansion, shown_read, handed_up}
use Rattle.listing_texts.specs.ReadBack.{MemberRecord, member_listing, term_polarities, OnePolarity, HadBack, YieldsRecord}
use Rattle.listing_texts.proofs.WrittenRows.{written_rows, row-coefficient, row-complemented}
use Rattle.listing_texts.proofs.Exactness.{written_form, listing-written}
use Rattle.listing_texts.proofs.Unshown.{unshown-plain}

-- a record "as far as its cubes show it": each block has the choice that its lines show, which is 0 where they show nothing
unfoldable as_shown : Sizes → Expansion → Expansion
as_shown z e =
    record {
      coefficients = e.coefficients;
      blocks = tabulate 256 (shown_choice z.class z.n z.k e.mixed (shows (term_polarities z e) (at e.coefficients)));
      mixed = e.mixed;
      fixed = e.fixed;
      products = e.products;
      literals = e.literals;
      inverted = e.inverted;
    }

coefficients_long : (C : Class) (F : Family) (n k : ℕ) (f : ℕ → ℕ) → length (answer_expansion C F n k f).coefficients ≡ 256
unfolding answer_expansion
coefficients_long C F n k f = length-tabulate 256 _

blocks_long : (C : Class) (F : Family) (n k : ℕ) (f : ℕ → ℕ) → length (answer_expansion C F n k f).blocks ≡ 256
unfolding answer_expansion
blocks_long C F n k f = length-tabulate 256 _

module _ (z : Sizes) (e : Expansion) (sized : Sized z.n z.m (most_mixed z.class) z.k) (r : MemberRecord z e) where
  abbrev w : ℕ → ℕ
  w = term_polarities z e

  abbrev c : ℕ → ℕ
  c = at e.coefficients

  abbrev rows : List ℕ
  rows = written_rows z.n w c

  bytes_small : (t : ℕ) → t < 2 ^ z.n → c t < 256
  bytes_small t h = omega (arith, r.outputs t, points-le z.m sized.outputs.1)

  -- the listing of the record is the listing of its terms
  pub listing-terms : member_listing z e ≡ term_listing z e.inverted e.mixed e.fixed w c
  unfolding listing term_listing
  listing-terms = rw (r.products_counted, r.literals_counted)

  row-none : (t : ℕ) → t < 256 → ltb t (2 ^ z.n) ≡ false → coefficient_in rows t ≡ 0
  unfolding written_rows only
  row-none t h l = let none : at rows t ≡ 0 = at-tabulate 256 _ t h ∙ rw l in ap (λ (x : ℕ). x % 256) none

  coefficients-back : tabulate 256 (coefficient_in rows) ≡ e.coefficients
  coefficients-back = sym (is-table 256 (coefficient_in rows) e.coefficients r.long (λ t h. go t h (ltb t (2 ^ z.n)) refl)) where
    go : (t : ℕ) → t < 256 → (b : Bool) → ltb t (2 ^ z.n) ≡ b → c t ≡ coefficient_in rows t
    go t h true l = sym (row-coefficient z.n w c sized.inputs.1 bytes_small t (ltb-true t (2 ^ z.n) l))
    go t h false l = r.rest t (ltb-false t (2 ^ z.n) l) ∙ sym (row-none t h l)

  blocks-back : shown_blocks z.class z.n z.k e.mixed (complemented_in rows) ≡ (as_shown z e).blocks
  unfolding shown_blocks as_shown shows
  blocks-back =
      rw (lt-ltb e.mixed (2 ^ z.n) r.member.pair.mask, eq-eqb _ _ r.member.pair.size)
      (tabulate-ext 256 _ _ (λ j h.
      shown-ext z.class z.n z.k e.mixed _ _
      (λ t l. ap (place z.n e.mixed) (row-complemented z.n w c sized.inputs.1 bytes_small t l)) j))

  pub record-shown : listing_reading z (member_listing z e) ≡ shown (written_form z e.mixed e.fixed c) e.inverted rows
  record-shown =
      let few : 2 ^ z.n ≤ 256 = points-le z.n sized.inputs.1 in
      ap (listing_reading z) listing-terms
      ∙ listing-written z e.inverted e.mixed e.fixed w c sized r.mask (omega (arith, r.member.pair.mask)) (omega (arith, r.member.pair.fixed))
      (λ t h. r.outputs t)

  back : shown_expansion z (written_form z e.mixed e.fixed c) e.inverted rows ≡ as_shown z e
  unfolding shown_expansion as_shown
  back = rw (coefficients-back, blocks-back, r.products_counted, r.literals_counted)

  -- the choices that the lines show, at the places of the record
  at-shown : at (as_shown z e).blocks ≡ shown_choice z.class z.n z.k e.mixed (shows w c)
  unfolding as_shown
  at-shown =
      at-whole 256 _ (λ j h.
      shown-past z.class z.n z.k e.mixed _ j r.member.pair.size
      (omega (arith, sized.inputs.1, pow_mono {i = z.n - z.k} {j = 8} (omega (arith, sized.inputs.1)))))

  polarities-back : (t : ℕ) → t < 2 ^ z.n → (c t ≡ 0 → ⊥) → bit_and t (term_polarities z (as_shown z e) t) ≡ bit_and t (w t)
  unfolding as_shown
  polarities-back t h u =
      ap (λ (x : ℕ → ℕ). bit_and t (polarity z.class z.n z.k e.mixed e.fixed x t)) at-shown
      ∙ member-shows z.class z.n z.k e.mixed e.fixed (at e.blocks) c sized.mixed.0 r.member t h u

  in_class : InClass z.class z.n z.k e.mixed e.fixed w
  in_class = member-class z.class z.n z.k e.mixed e.fixed (at e.blocks) r.member

  blocks-member : Member z.class z.n z.k e.mixed e.fixed (at (as_shown z e).blocks)
  blocks-member = rw at-shown (shown-member z.class z.n z.k e.mixed e.fixed w c sized.mixed.0 in_class)

  unshown-back : (t b : ℕ) → t < 2 ^ z.n → bit b (place z.n e.mixed t) ≡ 1
      → ((s : ℕ) → s < 2 ^ z.n → OnePolarity z.class z.n e.mixed s t → bit b (place z.n e.mixed s) ≡ 1 → c s ≡ 0)
      → bit b (place z.n e.mixed (term_polarities z (as_shown z e) t)) ≡ 0
  unfolding as_shown
  unshown-back t b h literal none =
      ap (bit b) (polarity-inside z.class z.n z.k e.mixed e.fixed (at (as_shown z e).blocks) blocks-member t)
      ∙ ap (λ (x : ℕ → ℕ). bit b (place_polarity z.class z.k (x (block z.n e.mixed t)) (place z.n e.mixed t))) at-shown
      ∙ unshown-plain z.class z.n z.k e.mixed e.fixed w c sized.mixed.0 in_class t b h literal none

  complements-back : (t : ℕ) → t < 2 ^ z.n → at (tabulate 256 (complemented_in rows)) t ≡ shows w c t
  unfolding shows
  complements-back t h =
      at-tabulate 256 (complemented_in rows) t (omega (arith, points-le z.n sized.inputs.1))
      ∙ row-complemented z.n w c sized.inputs.1 bytes_small t h

  -- what is handed up for the listing of the record
  abbrev back-read : ListingRead
  back-read = record { expansion = as_shown z e; complements = tabulate 256 (complemented_in rows) }

  had-back : HadBack z e back-read
  unfolding as_shown
  had-back =
      record {
        coefficients = refl;
        mixed = refl;
        fixed = refl;
        products_stated = refl;
        literals_stated = refl;
        inverted = refl;
        member = blocks-member;
        polarities = polarities-back;
        unshown = unshown-back;
        complements = complements-back;
        rest = λ j h. ap (λ (x : ℕ → ℕ). x j) at-shown ∙ shown-past z.class z.n z.k e.mixed _ j r.member.pair.size h;
      }

  handed : handed_up z (listing_reading z (member_listing z e)) ≡ Ok back-read
  unfolding handed_up shown_read
  handed = ap (handed_up z) record-shown ∙ ap (λ (x : Expansion). Ok (record { expansion = x; complements = tabulate 256 (complemented_in rows) })) back

  pub record-read : (read : ListingRead) × (handed_up z (listing_reading z (member_listing z e)) ≡ Ok read) × HadBack z e read
  record-read = (back-read, handed, had-back)

-- what is handed up for the bytes of a listing
pub yields-record : (z : Sizes) (s : List ℕ) (r : Result ListingRead RefusedListing) → r ≡ handed_up z (listing_reading z s) → YieldsRecord z s r
yields-record z s r handed e sized member written =
    let read = record-read z e sized member in
    (read.0, handed ∙ ap (λ (x : List ℕ). handed_up z (listing_reading z x)) written ∙ read.1, read.2)

-- ---- an answer

module _ (z : Sizes) (f : ℕ → ℕ) (sized : Sized z.n z.m (most_mixed z.class) z.k) (small : (p : ℕ) → p < 2 ^ z.n → f p < 2 ^ z.m) where
  abbrev C : Class
  C = z.class

  abbrev F : Family
  F = z.family

  abbrev answer : Expansion
  answer = answer_expansion C F z.n z.k f

  bytes-given : (p : ℕ) → p < 2 ^ z.n → f p < 2 ^ 8
  bytes-given p h = omega (arith, small p h, points-le z.m sized.outputs.1)

  pub answer-record : MemberRecord z (answer_expansion z.class z.family z.n z.k f)
  answer-record =
      let minimal = answer_expansion-is C F z.n z.k f sized.inputs.1 sized.mixed.1 bytes-given in
      record {
        member = minimal.answer.member;
        long = coefficients_long C F z.n z.k f;
        rest = λ t h. expansion-coefficients C F z.n z.k f sized.inputs.1 t ∙ answer-coefficient-zero C F z.n z.k f t h;
        outputs = expansion-coefficients-lt C F z.n z.k f sized.inputs.1 z.m sized.mixed.1 small;
        products_counted = minimal.products_counted;
        literals_counted = minimal.literals_counted;
        mask = expansion-inverted-lt C F z.n z.k f sized.inputs.1 z.m sized.mixed.1 small;
      }

  whole-blocks : (as_shown z answer).blocks ≡ answer.blocks
  unfolding as_shown
  whole-blocks = sym (is-table 256 _ answer.blocks (blocks_long C F z.n z.k f) (λ j h. go j (ltb j (2 ^ (z.n - z.k))) refl)) where
    go : (j : ℕ) (b : Bool) → ltb j (2 ^ (z.n - z.k)) ≡ b
        → at answer.blocks j ≡ shown_choice C z.n z.k answer.mixed (shows (term_polarities z answer) (at answer.coefficients)) j
    go j true l =
        let minimal = answer_expansion-is C F z.n z.k f sized.inputs.1 sized.mixed.1 bytes-given in
        sym (answer-shown C F z.n z.k f _ _ _ _ _ sized.mixed.0 minimal.answer j (ltb-true j (2 ^ (z.n - z.k)) l))
    go j false l =
        let past = ltb-false j (2 ^ (z.n - z.k)) l in
        expansion-blocks C F z.n z.k f sized.inputs.1 j ∙ answer-choice-zero C F z.n z.k f j past
        ∙ sym (shown-past C z.n z.k answer.mixed _ j answer-record.member.pair.size past)

  whole : as_shown z answer ≡ answer
  unfolding as_shown
  whole =
      ap (λ (b : List ℕ).
      record {
        coefficients = answer.coefficients;
        blocks = b;
        mixed = answer.mixed;
        fixed = answer.fixed;
        products = answer.products;
        literals = answer.literals;
        inverted = answer.inverted;
      })
      whole-blocks

  pub answer-read : (read : ListingRead) × (handed_up z (listing_reading z (member_listing z (answer_expansion z.class z.family z.n z.k f))) ≡ Ok read)
      × (read.expansion ≡ answer_expansion z.class z.family z.n z.k f)
  answer-read = (back-read z answer sized answer-record, handed z answer sized answer-record, whole)
