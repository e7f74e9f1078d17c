-- Which listings pass beside a table. A listing that is read is the listing that is written for what was read (`listing-read`), and the listing of
-- any terms is read as these terms (`listing-written`). So just these pass (`passes-exactly`).
use mathlib.Core.Bool.{Bool, true, false, cond}
use mathlib.Core.List.{List, [], ◌∷◌, ◌++◌, append_assoc}
use mathlib.Core.Logic.{◌↔◌}
use mathlib.Core.Path.{◌≡◌, refl, sym, ap, ap₂, ◌∙◌}
use Prim.Native.Nat.{ℕ, suc, ◌^◌, ◌<◌}
use native.Mathlib.Decide.{dec_lt}
use native.Mathlib.Omega.{arith}
use borrow.Author.Tests.{eq-eqb, eqb-true}
use lib.Dec.{eqb}
use lib.ListN.{length, drop}
use Rattle.std.specs.Prelude.{Option, Some, None}
use Rattle.numbers.specs.declared.refusals.Refusal.{Refusal}
use Rattle.numbers.specs.declared.refusals.Refusal.TheVariants.{BrokenListing, UnlikeListing}
use Rattle.numbers.specs.Refusals.{Sized}
use Rattle.numbers.proofs.Shifts.{points-le}
use Rattle.numbers.proofs.Tests.{both_left, both_right}
use Rattle.expansions.specs.declared.families.Family.{Family}
use Rattle.expansions.specs.Classes.{most_mixed}
use Rattle.expansions.specs.Costs.{products, literals}
use Rattle.expansions.proofs.Classes.{most-three}
use Rattle.expansions.proofs.Costs.{products-le, products-ext, literals-ext, literals-lt}
use Rattle.listings.specs.Parts.{parts, bytes}
use Rattle.listings.specs.Listing.{line, output_bytes, form_fields, form_word, form_line, inv_line, term_lines, listing_with}
use Rattle.listings.proofs.Joined.{parts-lines}
use Rattle.listings.proofs.Forms.{plain_fields}
use Rattle.listings.proofs.Meaning.{plain_form, plain-outputs, plain-inv}
use Rattle.fields.specs.Fields.{and_then}
use Rattle.lines.specs.Rows as lines
use Rattle.lines.specs.Rows.{rows_from}
use Rattle.lines.proofs.Terms.{TermRows, term-rows-read, term-rows-written}
use Rattle.table_texts.specs.declared.sizes.Sizes.{Sizes}
use Rattle.listing_texts.specs.declared.form.Form.{Form}
use Rattle.listing_texts.specs.Form.{first_line, stated_fields, Digits}
use Rattle.listing_texts.specs.Inv.{inv_said}
use Rattle.shown_rows.specs.Rows.{coefficient_in, complemented_in}
use Rattle.listing_texts.specs.Read.{shown, refused, alike, counts_right, lines_judged, first_judged, grammar, from_second, all_lines, listing_reading}
use Rattle.listing_texts.specs.Listings.{term_listing, Passes}
use Rattle.listing_texts.specs.Inner.Judging.{second_at}
use Rattle.listing_texts.proofs.Compared.{alike-sizes, alike_self}
use Rattle.listing_texts.proofs.FormRead.{form-said, form-read}
use Rattle.listing_texts.proofs.InvRead.{inv-said, inv-read}
use Rattle.listing_texts.proofs.WrittenRows.{written_rows, row-coefficient}
use Rattle.listing_texts.proofs.Opened.{reading-split, second-split, split-joined, reading-unfinished, second-unfinished}

-- the lines of a listing: its first line, its second, those of its products, and `end`
listing-lines : (z : Sizes) (v M i : ℕ) (w c : ℕ → ℕ)
    → term_listing z v M i w c
    ≡ line (form_word z.family) (form_fields z.class z.n z.m z.k M i (products z.n c) (literals z.n c))
    ++ (line (bytes "inv") (output_bytes z.m v ∷ []) ++ (term_lines z.n z.m w c (2 ^ z.n) ++ line (bytes "end") []))
unfolding term_listing listing_with form_line inv_line
listing-lines z v M i w c =
    let first : List ℕ = line (form_word z.family) (form_fields z.class z.n z.m z.k M i (products z.n c) (literals z.n c)) in
    let second : List ℕ = line (bytes "inv") (output_bytes z.m v ∷ []) in
    let terms : List ℕ = term_lines z.n z.m w c (2 ^ z.n) in
    append_assoc (first ++ second) terms (line (bytes "end") []) ∙ append_assoc first second (terms ++ line (bytes "end") [])

-- ---- a listing that is read

-- what holds of a listing that is read as the first line f, the mask v and the rows t
pub record ListingIs (z : Sizes) (s : List ℕ) (f : Form) (v : ℕ) (t : List ℕ) : Type 0 where
  pub sized : Sized z.n z.m (most_mixed z.class) z.k
  pub sizes : f.sizes ≡ z
  pub digits : Digits f
  pub mask : v < 2 ^ z.m
  pub rows : TermRows z.n z.m t
  pub products_counted : f.products ≡ products z.n (coefficient_in t)
  pub literals_counted : f.literals ≡ literals z.n (coefficient_in t)
  pub characters : s ≡ term_listing z v f.mixed f.fixed (complemented_in t) (coefficient_in t)

pub counts-right : (n : ℕ) (f : Form) (t : List ℕ) → counts_right n f t ≡ true
    → (f.products ≡ products n (coefficient_in t)) × (f.literals ≡ literals n (coefficient_in t))
unfolding counts_right
counts-right n f t e = (eqb-true _ _ (both_left _ (eqb f.literals (literals n (coefficient_in t))) e), eqb-true _ _ (both_right (eqb f.products (products n (coefficient_in t))) _ e))

-- the lines after the second passed, and so did the counts
lines-passed : (n : ℕ) (g : Form) (u : ℕ) (f : Form) (v : ℕ) (r : lines.RowsRead) (t : List ℕ) → lines_judged n g u r ≡ shown f v t
    → (r ≡ lines.rows t) × (g ≡ f) × (u ≡ v) × (counts_right n f t ≡ true)
unfolding lines_judged
lines-passed n g u f v (lines.rows x) t e = go _ _ (counts_right n g x) refl e where
  go : (why : Refusal) (at : ℕ) (b : Bool) → counts_right n g x ≡ b → cond b (shown g u x) (refused why at) ≡ shown f v t
      → (lines.rows x ≡ lines.rows t) × (g ≡ f) × (u ≡ v) × (counts_right n f t ≡ true)
  go why at true h e =
      let same : g ≡ f = cc in
      let rows : x ≡ t = cc in
      (ap lines.rows rows, same, cc, ap₂ (counts_right n) (sym same) (sym rows) ∙ h)
  go why at false h e = cc
lines-passed n g u f v (lines.refused why at) t e = cc

-- what holds of the lines after the first, which are read as the mask v and the rows t
record SecondIs (z : Sizes) (s : List ℕ) (g f : Form) (v : ℕ) (t : List ℕ) : Type 0 where
  form : g ≡ f
  mask : v < 2 ^ z.m
  rows : TermRows z.n z.m t
  counts : counts_right z.n f t ≡ true
  characters : s
      ≡ line (bytes "inv") (output_bytes z.m v ∷ []) ++ (term_lines z.n z.m (complemented_in t) (coefficient_in t) (2 ^ z.n) ++ line (bytes "end") [])

module _ (z : Sizes) (s : List ℕ) (g f : Form) (v : ℕ) (t : List ℕ) (sized : Sized z.n z.m (most_mixed z.class) z.k) where
  abbrev after : List ℕ
  after = drop (suc (length (parts 10 s).first)) s

  by-second : length (parts 10 s).first < length s → (x : Option ℕ) → inv_said z.m (parts 10 s).first ≡ x
      → and_then x (refused BrokenListing 2) (λ u. lines_judged z.n g u (rows_from (grammar z) 3 after)) ≡ shown f v t → SecondIs z s g f v t
  by-second h (Some u) says w =
      let passed = lines-passed z.n g u f v (rows_from (grammar z) 3 after) t w in
      let inv = inv-read z.m (parts 10 s).first v (says ∙ ap Some passed.2) in
      let terms = term-rows-read z.n z.m 3 after t sized.inputs.1 sized.outputs.1 passed.0 in
      record {
        form = passed.1;
        mask = inv.1;
        rows = terms.1;
        counts = passed.3;
        characters =
            split-joined s h (bytes "inv") (output_bytes z.m v ∷ []) inv.0
            ∙ ap (λ (r : List ℕ). line (bytes "inv") (output_bytes z.m v ∷ []) ++ r) terms.0;
      }
  by-second h None says w = cc

  second-read : second_at z g s 0 ≡ shown f v t → SecondIs z s g f v t
  second-read e = go (dec_lt (length (parts 10 s).first) (length s)) where
    go : Dec (length (parts 10 s).first < length s) → SecondIs z s g f v t
    go (yes h) = by-second h (inv_said z.m (parts 10 s).first) refl (sym (second-split s h z g) ∙ e)
    go (no h) = cc (second-unfinished s (omega arith) z g)

module _ (z : Sizes) (s : List ℕ) (f : Form) (v : ℕ) (t : List ℕ) where
  abbrev first : List ℕ
  first = (parts 10 s).first

  abbrev rest : List ℕ
  rest = drop (suc (length (parts 10 s).first)) s

  by-sizes : length first < length s → (g : Form) → first_line first ≡ Some g → (b : Bool) → alike z g.sizes ≡ b
      → cond b (second_at z g rest 0) (refused UnlikeListing 1) ≡ shown f v t → ListingIs z s f v t
  by-sizes h g says true same w =
      let legal = alike-sizes z g.sizes same in
      let second = second-read z rest g f v t legal.0 w in
      let form = form-read first f (says ∙ ap Some second.form) in
      let counts = counts-right z.n f t second.counts in
      let sizes : f.sizes ≡ z = ap (λ (x : Form). x.sizes) (sym second.form) ∙ legal.1 in
      let fields : List (List ℕ) =
      form_fields z.class z.n z.m z.k f.mixed f.fixed (products z.n (coefficient_in t)) (literals z.n (coefficient_in t)) in
      let stated : stated_fields f ≡ fields = rw (sizes, counts.0, counts.1) in
      let family : f.sizes.family ≡ z.family = ap (λ (y : Sizes). y.family) sizes in
      record {
        sized = legal.0;
        sizes = sizes;
        digits = form.1;
        mask = second.mask;
        rows = second.rows;
        products_counted = counts.0;
        literals_counted = counts.1;
        characters =
            split-joined s h (form_word f.sizes.family) (stated_fields f) form.0
            ∙ ap₂ (λ (y : Family) (xs : List (List ℕ)). line (form_word y) xs ++ rest) family stated
            ∙ ap (λ (r : List ℕ). line (form_word z.family) fields ++ r) second.characters
            ∙ sym (listing-lines z v f.mixed f.fixed (complemented_in t) (coefficient_in t));
      }
  by-sizes h g says false same w = cc

  by_first : length first < length s → (x : Option Form) → first_line first ≡ x → first_judged x z (λ g. second_at z g rest 0) ≡ shown f v t
      → ListingIs z s f v t
  by_first h (Some g) says w = by-sizes h g says (alike z g.sizes) refl w
  by_first h None says w = cc

  pub listing-read : listing_reading z s ≡ shown f v t → ListingIs z s f v t
  listing-read e = go (dec_lt (length first) (length s)) where
    go : Dec (length first < length s) → ListingIs z s f v t
    go (yes h) = by_first h (first_line first) refl (sym (reading-split s h z) ∙ e)
    go (no h) = cc (reading-unfinished s (omega arith) z)

-- ---- a listing that is written

-- the first line that is written for terms
abbrev pub written_form : Sizes → (M i : ℕ) → (ℕ → ℕ) → Form
written_form z M i c = record { sizes = z; mixed = M; fixed = i; products = products z.n c; literals = literals z.n c }

module _ (z : Sizes) (v M i : ℕ) (w c : ℕ → ℕ) (sized : Sized z.n z.m (most_mixed z.class) z.k) (hv : v < 2 ^ z.m) (hM : M < 10000) (hi : i < 10000)
    (small : (t : ℕ) → t < 2 ^ z.n → c t < 2 ^ z.m) where
  bytes_small : (t : ℕ) → t < 2 ^ z.n → c t < 256
  bytes_small t h = omega (arith, small t h, points-le z.m sized.outputs.1)

  form-digits : Digits (written_form z M i c)
  form-digits =
      record {
        n = omega (arith, sized.inputs.1);
        m = omega (arith, sized.outputs.1);
        k = omega (arith, sized.mixed.0, most-three z.class);
        mixed = hM;
        fixed = hi;
        products = omega (arith, products-le z.n c, points-le z.n sized.inputs.1);
        literals = omega (arith, literals-lt z.n c sized.inputs.1);
      }

  counts-written : counts_right z.n (written_form z M i c) (written_rows z.n w c) ≡ true
  unfolding counts_right
  counts-written =
      let same = row-coefficient z.n w c sized.inputs.1 bytes_small in
      rw (
        products-ext z.n (coefficient_in (written_rows z.n w c)) c same,
        literals-ext z.n (coefficient_in (written_rows z.n w c)) c same,
        eq-eqb (products z.n c) (products z.n c) refl,
        eq-eqb (literals z.n c) (literals z.n c) refl,
      )

  pub listing-written : listing_reading z (term_listing z v M i w c) ≡ shown (written_form z M i c) v (written_rows z.n w c)
  unfolding listing_reading all_lines from_second lines_judged written_rows
  listing-written =
      let fields : List (List ℕ) = stated_fields (written_form z M i c) in
      let rest : List ℕ = term_lines z.n z.m w c (2 ^ z.n) ++ line (bytes "end") [] in
      let mask : List (List ℕ) = output_bytes z.m v ∷ [] in
      ap (listing_reading z) (listing-lines z v M i w c)
      ∙ rw (
        parts-lines (form_word z.family) fields (line (bytes "inv") mask ++ rest) (plain_form z.family)
            (plain_fields z.class z.n z.m z.k M i (products z.n c) (literals z.n c)),
        form-said (written_form z M i c) form-digits,
        alike_self z sized,
        parts-lines (bytes "inv") mask rest plain-inv (plain-outputs z.m v, tt),
        inv-said z.m v hv,
        term-rows-written z.n z.m w c sized.inputs.1 sized.outputs.1 small 3,
        counts-written,
      )

-- ---- exactly

pub read-passes : (z : Sizes) (s : List ℕ) (f : Form) (v : ℕ) (t : List ℕ) → listing_reading z s ≡ shown f v t → Passes z s
read-passes z s f v t e =
    let r = listing-read z s f v t e in
    record {
      inverted = v;
      mixed = f.mixed;
      fixed = f.fixed;
      polarity = complemented_in t;
      coefficient = coefficient_in t;
      mask = r.mask;
      mixed_digits = r.digits.mixed;
      fixed_digits = r.digits.fixed;
      outputs = r.rows.outputs;
      characters = r.characters;
    }

pub passes-exactly : (z : Sizes) (s : List ℕ) → Sized z.n z.m (most_mixed z.class) z.k
    → Passes z s ↔ ((f : Form) × (v : ℕ) × (t : List ℕ) × (listing_reading z s ≡ shown f v t))
passes-exactly z s sized = (
  (λ p. (
    written_form z p.mixed p.fixed p.coefficient,
    p.inverted,
    written_rows z.n p.polarity p.coefficient,
    ap (listing_reading z) p.characters
        ∙ listing-written z p.inverted p.mixed p.fixed p.polarity p.coefficient sized p.mask p.mixed_digits p.fixed_digits p.outputs,
  )),
  (λ r. read-passes z s r.0 r.1 r.2 r.3),
)
