-- A listing whose first lines pass, by what follows them, in document 02's words: a line that may not stand there is 11 with its line (`next-refused`), a byte
-- after the `end` line is 11 with the line after it (`follow-refused`), and counts that are not those of the lines are 12, line 1 (`counts-refused`). Every
-- refusal is 11 or 12 (`reading-told`), and it is 11 with line 1 where the first line is no `form` or `form2` line, and only there (`first-told`).
use mathlib.Core.Bool.{Bool, true, false, cond}
use mathlib.Core.List.{List, [], ◌∷◌, ◌++◌, append_assoc}
use mathlib.Core.Logic.{◌⊎◌, inl, inr, ◌↔◌}
use mathlib.Core.Path.{◌≡◌, refl, sym, ap, ◌∙◌}
use Prim.Native.Nat.{ℕ, suc, ◌+◌, ◌^◌, ◌≤◌, ◌<◌}
use native.Mathlib.Omega.{arith}
use lib.Dec.{lit≤}
use lib.ListN.{length, replicate}
use Rattle.std.specs.Prelude.{Option, Some, None}
use Rattle.numbers.specs.declared.refusals.Refusal.{Refusal}
use Rattle.numbers.specs.declared.refusals.Refusal.TheVariants.{TextEnd, BrokenListing, UnlikeListing}
use Rattle.numbers.specs.Refusals.{Sized}
use Rattle.numbers.proofs.Shifts.{points-le}
use Rattle.expansions.specs.declared.families.Family.{Family}
use Rattle.expansions.specs.Classes.{most_mixed}
use Rattle.expansions.proofs.Costs.{products-ext, literals-ext}
use Rattle.listings.specs.Parts.{parts, bytes}
use Rattle.listings.specs.Listing.{line, output_bytes, form_word, inv_line, term_lines}
use Rattle.listings.proofs.Joined.{parts-lines}
use Rattle.listings.proofs.Meaning.{plain_form, plain-outputs, plain-inv}
use Rattle.listings.proofs.Parts.{others-le}
use Rattle.fields.specs.Fields.{and_then}
use Rattle.lines.specs.Rows as lines
use Rattle.lines.specs.Rows.{rows_from}
use Rattle.lines.specs.FirstBad.{line_after, end_line}
use Rattle.lines.proofs.FirstBad.{line-next}
use Rattle.lines.proofs.Refusals.{RowsRefusedIn, rows-refused-in}
use Rattle.lines.proofs.Terms.{term-rows-written, terms-bad, terms-followed}
use Rattle.table_texts.specs.declared.sizes.Sizes.{Sizes}
use Rattle.listing_texts.specs.declared.form.Form.{Form}
use Rattle.listing_texts.specs.Form.{first_line, stated_fields}
use Rattle.listing_texts.specs.Inv.{inv_said}
use Rattle.shown_rows.specs.Rows.{coefficient_in}
use Rattle.listing_texts.specs.Read.{ListingReading, shown, refused, alike, counts_right, lines_judged, first_judged, grammar, from_second, all_lines, listing_reading}
use Rattle.listing_texts.specs.Read.{beside_line, beside_lines, beside_kronecker}
use Rattle.listing_texts.specs.FirstLines.{FirstLines, BadNext, CountsUnlike}
use Rattle.listing_texts.proofs.Compared.{alike_self}
use Rattle.listing_texts.proofs.FormRead.{plain-stated, form-said}
use Rattle.listing_texts.proofs.InvRead.{inv-said}
use Rattle.listing_texts.proofs.WrittenRows.{written_rows, row-coefficient}
use Rattle.listing_texts.proofs.Exactness.{counts-right}

-- ---- what follows lines that pass

module _ (z : Sizes) (s : List ℕ) (sized : Sized z.n z.m (most_mixed z.class) z.k) (g : FirstLines z s) where
  abbrev first : List ℕ
  first = line (form_word g.form.sizes.family) (stated_fields g.form)

  abbrev two : List ℕ
  two = first ++ line (bytes "inv") (output_bytes z.m g.inverted ∷ [])

  abbrev terms : List ℕ
  terms = term_lines z.n z.m g.polarity g.coefficient (2 ^ z.n)

  -- the third line follows the first two
  third : line_after two ≡ 3
  unfolding line_after parts
  third =
      let one = line-next [] (form_word g.form.sizes.family) (stated_fields g.form) (plain_form g.form.sizes.family) (plain-stated g.form) in
      line-next first (bytes "inv") (output_bytes z.m g.inverted ∷ []) plain-inv (plain-outputs z.m g.inverted, tt) ∙ ap (λ (x : ℕ). x + 1) one

  before-is : g.before ≡ two ++ terms
  unfolding inv_line
  before-is = g.lines

  -- the first two lines pass, and the others decide
  from-third : listing_reading z s ≡ lines_judged z.n g.form g.inverted (rows_from (grammar z) 3 (terms ++ g.rest))
  unfolding listing_reading all_lines from_second
  from-third =
      let family : Family = g.form.sizes.family in
      let mask : List (List ℕ) = output_bytes z.m g.inverted ∷ [] in
      let whole : s ≡ first ++ (line (bytes "inv") mask ++ (terms ++ g.rest)) =
      g.characters ∙ ap (λ (l : List ℕ). l ++ g.rest) before-is
      ∙ append_assoc two terms g.rest ∙ append_assoc first (line (bytes "inv") mask) (terms ++ g.rest) in
      ap (listing_reading z) whole
      ∙ rw (
        parts-lines (form_word family) (stated_fields g.form) (line (bytes "inv") mask ++ (terms ++ g.rest)) (plain_form family) (plain-stated g.form),
        form-said g.form g.digits,
        ap (alike z) g.sizes ∙ alike_self z sized,
        parts-lines (bytes "inv") mask (terms ++ g.rest) plain-inv (plain-outputs z.m g.inverted, tt),
        inv-said z.m g.inverted g.mask,
      )

  refused-at : (r : List ℕ) (x : Refusal) (l : ℕ) → g.rest ≡ r → rows_from (grammar z) (line_after two) (terms ++ r) ≡ lines.refused x l
      → listing_reading z s ≡ refused BrokenListing l
  unfolding lines_judged
  refused-at r x l er e =
      from-third
      ∙ ap (λ (y : lines.RowsRead). lines_judged z.n g.form g.inverted y)
      (ap (λ (r : List ℕ). rows_from (grammar z) 3 (terms ++ r)) er ∙ ap (λ (i : ℕ). rows_from (grammar z) i (terms ++ r)) (sym third) ∙ e)

  pub next-refused : BadNext z s g → listing_reading z s ≡ refused BrokenListing (line_after g.before)
  next-refused bad =
      let e = terms-bad z.n z.m g.polarity g.coefficient sized.inputs.1 sized.outputs.1 g.outputs two g.rest bad.0 bad.1 in
      refused-at g.rest e.0 (line_after (two ++ terms)) refl e.1 ∙ ap (λ (b : List ℕ). refused BrokenListing (line_after b)) (sym before-is)

  pub follow-refused : (b : ℕ) (more : List ℕ) → g.rest ≡ end_line ++ b ∷ more
      → listing_reading z s ≡ refused BrokenListing (line_after (g.before ++ end_line))
  follow-refused b more er =
      let e = terms-followed z.n z.m g.polarity g.coefficient sized.inputs.1 sized.outputs.1 g.outputs two b more in
      refused-at (end_line ++ b ∷ more) TextEnd (line_after (two ++ terms ++ end_line)) er e
      ∙ ap (λ (b : List ℕ). refused BrokenListing (line_after (b ++ end_line))) (sym before-is)

  -- the rows of the lines, and the coefficients that they show
  abbrev rows : List ℕ
  rows = written_rows z.n g.polarity g.coefficient

  same : (t : ℕ) → t < 2 ^ z.n → coefficient_in rows t ≡ g.coefficient t
  same = row-coefficient z.n g.polarity g.coefficient sized.inputs.1 (λ t h. omega (arith, g.outputs t h, points-le z.m sized.outputs.1))

  counts-judged : CountsUnlike z s g → lines_judged z.n g.form g.inverted (lines.rows rows) ≡ refused UnlikeListing 1
  unfolding lines_judged
  counts-judged unlike = go (counts_right z.n g.form rows) refl where
    go : (b : Bool) → counts_right z.n g.form rows ≡ b → cond b (shown g.form g.inverted rows) (refused UnlikeListing 1) ≡ refused UnlikeListing 1
    go true h =
        let c = counts-right z.n g.form rows h in
        absurd (unlike.1 (c.0 ∙ products-ext z.n (coefficient_in rows) g.coefficient same, c.1 ∙ literals-ext z.n (coefficient_in rows) g.coefficient same))
    go false h = refl

  pub counts-refused : CountsUnlike z s g → listing_reading z s ≡ refused UnlikeListing 1
  unfolding written_rows
  counts-refused unlike =
      from-third
      ∙ ap (λ (y : lines.RowsRead). lines_judged z.n g.form g.inverted y)
      (ap (λ (r : List ℕ). rows_from (grammar z) 3 (terms ++ r)) unlike.0
      ∙ term-rows-written z.n z.m g.polarity g.coefficient sized.inputs.1 sized.outputs.1 g.outputs 3)
      ∙ counts-judged unlike

-- ---- every refusal

-- "11 with its line in the listing", from the line `least` to the line `most`, or "12 with line 1"
abbrev pub Told : (least most : ℕ) → ListingReading → Type 0
Told least most (shown f v t) = Unit
Told least most (refused why line) = ((why ≡ BrokenListing) × (least ≤ line) × (line ≤ most)) ⊎ ((why ≡ UnlikeListing) × (line ≡ 1))

lines-told : (n : ℕ) (f : Form) (v most : ℕ) (x : lines.RowsRead) → RowsRefusedIn 3 most x → Told 2 most (lines_judged n f v x)
unfolding lines_judged
lines-told n f v most (lines.rows t) h = go (counts_right n f t) where
  go : (b : Bool) → Told 2 most (cond b (shown f v t) (refused UnlikeListing 1))
  go true = tt
  go false = inr (refl, refl)
lines-told n f v most (lines.refused why line) h = inl (refl, omega (arith, h.1.0), h.1.1)

second-told : (z : Sizes) (f : Form) (l : List ℕ) (ls : List (List ℕ)) → Told 2 (2 + length ls) (from_second z f l ls)
unfolding from_second
second-told z f l [] = inl (refl, lit≤ tt, omega arith)
second-told z f l (l' ∷ ls) = go (inv_said z.m l) where
  more : 3 + length ls ≡ 2 + suc (length ls)
  more = omega arith

  go : (x : Option ℕ)
      → Told 2 (2 + suc (length ls))
      (and_then x (refused BrokenListing 2) (λ v. lines_judged z.n f v (lines.later_lines (lines.row_line (grammar z)) z.n 3 0 (replicate 256 0) l' ls)))
  go (Some v) =
      rw (← more) (lines-told z.n f v (3 + length ls) _ (rows-refused-in (lines.row_line (grammar z)) z.n ls 3 0 (replicate 256 0) l'))
  go None = inl (refl, lit≤ tt, omega arith)

-- a first line that states something: the refusal is not 11 with line 1
stated-told : (z : Sizes) (f : Form) (l : List ℕ) (ls : List (List ℕ)) → Told 2 (2 + length ls) (first_judged (Some f) z (λ f. from_second z f l ls))
stated-told z f l ls = go (alike z f.sizes) where
  go : (b : Bool) → Told 2 (2 + length ls) (cond b (from_second z f l ls) (refused UnlikeListing 1))
  go true = second-told z f l ls
  go false = inr (refl, refl)

widen : (a b c d : ℕ) (x : ListingReading) → c ≤ a → b ≤ d → Told a b x → Told c d x
widen a b c d (shown f v t) low high h = tt
widen a b c d (refused why line) low high (inl h) = inl (h.0, omega (arith, h.1), omega (arith, h.2))
widen a b c d (refused why line) low high (inr h) = inr h

not_first : (most : ℕ) (x : ListingReading) → Told 2 most x → x ≡ refused BrokenListing 1 → ⊥
not_first most (shown f v t) h e = cc
not_first most (refused why line) (inl h) e = let one : line ≡ 1 = cc in omega (arith, h.1)
not_first most (refused why line) (inr h) e = cc

all_told : (z : Sizes) (l : List ℕ) (ls : List (List ℕ)) → Told 1 (1 + length ls) (all_lines z l ls)
unfolding all_lines
all_told z l [] = inl (refl, lit≤ tt, omega arith)
all_told z l (l' ∷ ls) = go (first_line l) where
  go : (x : Option Form) → Told 1 (1 + suc (length ls)) (first_judged x z (λ f. from_second z f l' ls))
  go (Some f) =
      widen 2 (2 + length ls) 1 (1 + suc (length ls)) (first_judged (Some f) z (λ f. from_second z f l' ls)) (lit≤ tt) (omega arith) (stated-told z f l' ls)
  go None = inl (refl, lit≤ tt, omega arith)

pub reading-told : (z : Sizes) (s : List ℕ) → Told 1 (1 + length s) (listing_reading z s)
unfolding listing_reading
reading-told z s =
    widen 1 (1 + length (parts 10 s).others) 1 (1 + length s) (all_lines z (parts 10 s).first (parts 10 s).others) (lit≤ tt) (omega (arith, others-le 10 s))
    (all_told z (parts 10 s).first (parts 10 s).others)

all_first : (z : Sizes) (l : List ℕ) (ls : List (List ℕ)) → (all_lines z l ls ≡ refused BrokenListing 1) ↔ (beside_lines l ls ≡ BrokenListing)
unfolding all_lines beside_lines
all_first z l [] = ((λ e. refl), (λ e. refl))
all_first z l (l' ∷ ls) = go (first_line l) where
  go : (x : Option Form) → (first_judged x z (λ f. from_second z f l' ls) ≡ refused BrokenListing 1) ↔ (beside_line x ≡ BrokenListing)
  go (Some f) = (
    (λ e. absurd (not_first (2 + length ls) (first_judged (Some f) z (λ f. from_second z f l' ls)) (stated-told z f l' ls) e)),
    (λ e. cc),
  )
  go None = ((λ e. refl), (λ e. refl))

-- 11 with line 1, as beside a `K` table
pub first-told : (z : Sizes) (s : List ℕ) → (listing_reading z s ≡ refused BrokenListing 1) ↔ (beside_kronecker s ≡ BrokenListing)
unfolding listing_reading beside_kronecker
first-told z s = all_first z (parts 10 s).first (parts 10 s).others
