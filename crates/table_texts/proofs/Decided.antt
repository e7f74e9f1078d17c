-- Every text is decided in the documents' words: it is the text of a design and a table within the limits, or it meets one of the refusals that
-- specs/Refusals states (`text-decided`). So those words leave no text out.
use mathlib.Core.List.{List, [], ◌∷◌, ◌++◌, append_assoc}
use mathlib.Core.Logic.{◌⊎◌, inl, inr}
use mathlib.Core.Path.{◌≡◌, refl, sym, ap, ap₂, ◌∙◌}
use Prim.Native.Nat.{ℕ, ◌^◌, ◌≤◌, ◌<◌}
use native.Mathlib.Decide.{dec_le, dec_lt}
use native.Mathlib.Omega.{arith}
use lib.ListN.{length}
use Rattle.std.specs.Prelude.{Option, Some, None}
use Rattle.std.proofs.lemmas.Option.{none-some}
use Rattle.numbers.specs.declared.refusals.Refusal.{Refusal}
use Rattle.numbers.specs.declared.refusals.Refusal.TheVariants.{BrokenLine, InputCount, OutputCount, MixedCount, PointOrder, TextEnd}
use Rattle.numbers.specs.Bytes.{at}
use Rattle.numbers.proofs.Shifts.{points-le}
use Rattle.expansions.specs.declared.families.Family.{Family}
use Rattle.expansions.specs.declared.families.Family.TheVariants.{One, Two}
use Rattle.expansions.specs.declared.kinds.Kind.{Kind}
use Rattle.expansions.specs.declared.kinds.Kind.TheVariants.{Mixed, Kronecker}
use Rattle.expansions.specs.Classes.{most_mixed}
use Rattle.listings.specs.Parts.{Parts, all, parts, bytes}
use Rattle.listings.specs.Listing.{tabbed, decimal, output_bytes}
use Rattle.listings.proofs.Joined.{AllPlain, parts-lines}
use Rattle.listings.proofs.Meaning.{plain-decimal}
use Rattle.lines.specs.Rows.{table_grammar, row_line}
use Rattle.lines.specs.FirstBad.{line_after, end_line, NoEnd, OnLine}
use Rattle.lines.proofs.RowLines.{table-kind}
use Rattle.lines.proofs.FirstBad.{first-whole}
use Rattle.lines.proofs.Decided.{Follows, Decided, decided}
use Rattle.table_texts.specs.declared.sizes.Design.{Design}
use Rattle.table_texts.specs.Design.{KindSized, KindFor, DesignSized}
use Rattle.table_texts.specs.First.{table_word, first_line}
use Rattle.table_texts.specs.Accepted.{Table, Accepted}
use Rattle.table_texts.specs.TableTexts.{point_line, point_lines, kind_field, KindCharacters, design_line, text_with, table_text, dash_text, IsText}
use Rattle.table_texts.specs.Refusals.{TableLine, PointsPass, NoOn, TextRefusals}
use Rattle.table_texts.proofs.DesignLine.{plain-table, plain-said, design-said}
use Rattle.table_texts.proofs.Points.{table-held}
use Rattle.table_texts.proofs.Refusals.{kind-says, line-said}

-- ---- the first line

-- a text that begins with a first line says its design, and has byte 10 after it
line-says : (s : List ℕ) (g : TableLine s) → (first_line (parts 10 s).first ≡ Some g.design) × ((parts 10 s).others ≡ [] → ⊥)
unfolding design_line
line-says s g =
    let d = g.design in
    let fs : List (List ℕ) = decimal d.n ∷ decimal d.m ∷ g.has_kind_field ∷ [] in
    let says = kind-says d.n d.kind g.has_kind_field g.says in
    let plain : AllPlain fs = (plain-decimal d.n, (plain-decimal d.m, (plain-said d.n g.has_kind_field d.kind says, tt))) in
    let split : parts 10 s ≡ record { first = table_word d.family ++ tabbed fs; others = all (parts 10 g.rest) } =
    ap (parts 10) g.characters ∙ parts-lines (table_word d.family) fs g.rest (plain-table d.family) plain in
    (rw split (design-said d g.has_kind_field g.n g.m says), λ none. omega (arith, ap length (sym none ∙ ap (λ (x : Parts). x.others) split)))

has-line : (s : List ℕ) → Dec (TableLine s)
has-line s = go (dec_lt (length (parts 10 s).first) (length s)) where
  by-line : length (parts 10 s).first < length s → (x : Option Design) → first_line (parts 10 s).first ≡ x → Dec (TableLine s)
  by-line h (Some d) says = yes (line-said s h d says)
  by-line h None says = no (λ g. none-some _ (sym says ∙ (line-says s g).0))

  go : Dec (length (parts 10 s).first < length s) → Dec (TableLine s)
  go (yes h) = by-line h (first_line (parts 10 s).first) refl
  go (no h) = no (λ g. (line-says s g).1 (first-whole s (omega arith)).0)

-- ---- the limits

both : (a b c d : ℕ) → Dec ((a ≤ b) × (c ≤ d))
both a b c d = go (dec_le a b) (dec_le c d) where
  go : Dec (a ≤ b) → Dec (c ≤ d) → Dec ((a ≤ b) × (c ≤ d))
  go (yes h) (yes k) = yes (h, k)
  go (no h) k = no (λ x. h x.0)
  go (yes h) (no k) = no (λ x. k x.1)

kind-for : (family : Family) (x : Kind) → Dec (KindFor family x)
kind-for family (Mixed C k) = yes tt
kind-for One Kronecker = yes tt
kind-for Two Kronecker = no (λ h. h)

kind-sized : (n : ℕ) (x : Kind) → Dec (KindSized n x)
kind-sized n (Mixed C k) = both k (most_mixed C) k n
kind-sized n Kronecker = yes tt

-- ---- the text

-- accepted, or refused
abbrev Outcome : List ℕ → (Refusal → ℕ → Type 0) → Type 0
Outcome s P = ((d : Design) × (t : List ℕ) × Accepted d t × IsText s d t) ⊎ ((why : Refusal) × (l : ℕ) × P why l)

module _ (s : List ℕ) (P : Refusal → ℕ → Type 0) (words : TextRefusals s P) where
  module _ (g : TableLine s) (sized : DesignSized g.design) where
    abbrev d : Design
    d = g.design

    abbrev fields : ℕ → ℕ → List (List ℕ)
    fields p o = decimal p ∷ output_bytes g.design.m o ∷ []

    low : 2 ^ g.design.n ≤ 256
    low = points-le g.design.n sized.inputs.1

    abbrev Points : Type 0
    Points = Decided g.design.n (row_line (table_grammar g.design.n g.design.m)) (bytes "on") fields (OnLine g.design.m) (table-kind g.design.n g.design.m) low g.rest

    later : Points → Outcome s P
    unfolding point_line text_with table_text dash_text
    later c = go c.follows where
      table : Table d.n d.m c.values
      table = table-held d.n d.m sized.inputs.1 c.values c.held

      joined : s ≡ design_line d g.has_kind_field ++ point_lines d.m (at c.values) (2 ^ d.n) ++ c.rest
      joined =
          g.characters ∙ ap (λ (r : List ℕ). design_line d g.has_kind_field ++ r) c.characters
          ∙ sym (append_assoc (design_line d g.has_kind_field) (point_lines d.m (at c.values) (2 ^ d.n)) c.rest)

      pass : PointsPass s
      pass =
          record {
            design = d;
            has_kind_field = g.has_kind_field;
            sized = sized;
            says = g.says;
            f = at c.values;
            outputs = λ p h. table.small p;
            before = design_line d g.has_kind_field ++ point_lines d.m (at c.values) (2 ^ d.n);
            rest = c.rest;
            lines = refl;
            characters = joined;
          }

      written : c.rest ≡ end_line → (k : List ℕ) → g.has_kind_field ≡ k → s ≡ design_line d k ++ point_lines d.m (at c.values) (2 ^ d.n) ++ end_line
      written e k h = joined ∙ ap₂ (λ (k r : List ℕ). design_line d k ++ point_lines d.m (at c.values) (2 ^ d.n) ++ r) h e

      text-is : c.rest ≡ end_line → KindCharacters d.n d.kind g.has_kind_field → IsText s d c.values
      text-is e (inl h) = inl (written e (kind_field d.kind) h)
      text-is e (inr h) = inr (h.0, written e (bytes "-") h.1)

      begun : (r : List ℕ) → c.rest ≡ r → NoOn d.m c.rest → NoEnd c.rest → Outcome s P
      begun [] e none unended = inr (TextEnd, line_after pass.before, words.stops pass e)
      begun (b ∷ r) e none unended =
          inr (BrokenLine, line_after pass.before, words.line pass (λ z. omega (arith, ap length (sym e ∙ z))) none unended)

      go : Follows d.n (row_line (table_grammar d.n d.m)) (bytes "on") fields (OnLine d.m) (table-kind d.n d.m) low c.values c.rest → Outcome s P
      go (Follows.ends e) = inl (d, c.values, record { sized = sized; table = table }, text-is e g.says.1)
      go (Follows.begins none unended) = begun c.rest refl none unended
      go (Follows.misplaced p o more value none e) = inr (PointOrder, line_after pass.before, words.point pass p o more value e none)
      go (Follows.continues b more e) = inr (TextEnd, line_after (pass.before ++ end_line), words.follows pass b more e)

  -- line 1, in the order 1, 2, 3, 4
  by-line : TableLine s → Outcome s P
  by-line g = go (kind-for g.design.family g.design.kind) (both 1 g.design.n g.design.n 8) (both 1 g.design.m g.design.m 8)
      (kind-sized g.design.n g.design.kind)
    where
      go : Dec (KindFor g.design.family g.design.kind) → Dec ((1 ≤ g.design.n) × (g.design.n ≤ 8)) → Dec ((1 ≤ g.design.m) × (g.design.m ≤ 8))
          → Dec (KindSized g.design.n g.design.kind) → Outcome s P
      go (no h) i o k = inr (BrokenLine, 1, words.kind g h)
      go (yes h) (no i) o k = inr (InputCount, 1, words.inputs g h i)
      go (yes h) (yes i) (no o) k = inr (OutputCount, 1, words.outputs g h i o)
      go (yes h) (yes i) (yes o) (no k) = inr (MixedCount, 1, words.mixed g i o k)
      go (yes h) (yes i) (yes o) (yes k) =
          let sized : DesignSized g.design = record { inputs = i; outputs = o; mixed = k; family = h } in
          later g sized
          (decided g.design.n (row_line (table_grammar g.design.n g.design.m)) (bytes "on") (λ p o. decimal p ∷ output_bytes g.design.m o ∷ [])
          (OnLine g.design.m) (table-kind g.design.n g.design.m) (low g sized) g.rest)

  pub text-decided : ((d : Design) × (t : List ℕ) × Accepted d t × IsText s d t) ⊎ ((why : Refusal) × (l : ℕ) × P why l)
  text-decided = go s refl (has-line s) where
    go : (r : List ℕ) → s ≡ r → Dec (TableLine s) → Outcome s P
    go r e (yes g) = by-line g
    go [] e (no none) = inr (TextEnd, 1, words.none e)
    go (b ∷ r) e (no none) = inr (BrokenLine, 1, words.first (λ z. omega (arith, ap length (sym e ∙ z))) none)
