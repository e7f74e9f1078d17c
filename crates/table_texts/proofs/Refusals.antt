-- The refusals of table texts in the documents' words (`text-refusals`).
use mathlib.Core.List.{List, [], ◌∷◌, ◌++◌, append_assoc}
use mathlib.Core.Logic.{inl, inr}
use mathlib.Core.Path.{◌≡◌, refl, sym, ap, ◌∙◌}
use Prim.Native.Nat.{ℕ, suc, ◌^◌, ◌≤◌, ◌<◌}
use native.Mathlib.Decide.{dec_lt}
use native.Mathlib.Omega.{arith}
use lib.ListN.{length, drop, length-append}
use Rattle.std.specs.Prelude.{Option, Some, None, Err}
use Rattle.numbers.specs.declared.refusals.Refusal.{Refusal}
use Rattle.numbers.specs.declared.refusals.Refusal.TheVariants.{BrokenLine, InputCount, OutputCount, MixedCount, PointOrder, TextEnd}
use Rattle.numbers.specs.Refusals.{table_refusal, sizes_refusal}
use Rattle.numbers.proofs.Shifts.{points-le}
use Rattle.numbers.proofs.refusals.Judging.{table-accepted, both-fail, table-two, table-three}
use Rattle.expansions.specs.declared.families.Family.{Family}
use Rattle.expansions.specs.declared.families.Family.TheVariants.{One, Two}
use Rattle.expansions.specs.declared.kinds.Kind.{Kind}
use Rattle.expansions.specs.declared.kinds.Kind.TheVariants.{Mixed, Kronecker}
use Rattle.expansions.specs.Classes.{most_mixed}
use Rattle.listings.specs.Parts.{parts, bytes}
use Rattle.listings.specs.Listing.{tabbed, line, decimal, output_bytes}
use Rattle.listings.proofs.Joined.{AllPlain}
use Rattle.listings.proofs.Meaning.{plain-decimal}
use Rattle.listings.proofs.Parts.{others-more}
use Rattle.lines.specs.Rows as later
use Rattle.lines.specs.Rows.{table_grammar, row_line, unfinished, rows_from}
use Rattle.lines.specs.FirstBad.{line_after, Above, end_line, NoEnd, OnLine}
use Rattle.lines.proofs.LineKinds.{line-ended}
use Rattle.lines.proofs.RowLines.{table-kind}
use Rattle.lines.proofs.FirstBad.{line-next, first-split, first-whole, unfinished-some, begun-refused, place-refused, followed-refused}
use Rattle.table_texts.specs.declared.sizes.Design.{Design}
use Rattle.table_texts.specs.Design.{kind_refusal, design_refusal, KindSized, KindFor}
use Rattle.table_texts.specs.First.{kind_of, table_word, first_line}
use Rattle.table_texts.specs.Inner.Reading.{refused, with_design, judged_first, all_lines, reading}
use Rattle.table_texts.specs.TableTexts.{point_line, point_lines, design_line}
use Rattle.table_texts.specs.Refusals.{KindSays, TableLine, PointsPass, NoOn, TextRefusals}
use Rattle.table_texts.proofs.Acceptance.{design-judged, first_read}
use Rattle.table_texts.proofs.DesignLine.{kind-dash, kind-written, dash-only, kind-read, kind-digit, plain-table, plain-said, design-read}

-- ---- the field k

pub kind-says : (n : ℕ) (x : Kind) (f : List ℕ) → KindSays n x f → kind_of n f ≡ Some x
kind-says n x f (l, inl h) = ap (kind_of n) h ∙ kind-written n x l
kind-says n x f (l, inr h) = ap (kind_of n) h.1 ∙ kind-dash n ∙ ap Some (sym (dash-only n x l h.0))

said-kind : (n : ℕ) (x : Kind) (f : List ℕ) → kind_of n f ≡ Some x → KindSays n x f
said-kind n x f e = (kind-digit n f x e, kind-read n f x e)

-- ---- the first line

-- a text whose first part says a design, and has byte 10 after it
pub line-said : (s : List ℕ) → length (parts 10 s).first < length s → (d : Design) → first_line (parts 10 s).first ≡ Some d → TableLine s
unfolding design_line
line-said s h d says =
    let line1 = design-read (parts 10 s).first d says in
    record {
      design = d;
      has_kind_field = line1.has_kind_field;
      n = line1.n_digit;
      m = line1.m_digit;
      says = said-kind d.n d.kind line1.has_kind_field line1.said;
      rest = drop (suc (length (parts 10 s).first)) s;
      characters = first-split s h ∙ line-ended (table_word d.family) (parts 10 s).first _ _ line1.characters;
    }

-- a text with no first line: it is empty, or its first line is wrong or has no byte 10
no-first : (s : List ℕ) → (TableLine s → ⊥) → reading s ≡ refused (unfinished s) 1
unfolding reading all_lines judged_first
no-first s none = go (dec_lt (length (parts 10 s).first) (length s)) where
  l : List ℕ
  l = (parts 10 s).first

  by-line : length l < length s → (x : Option Design) → first_line l ≡ x → reading s ≡ refused (unfinished s) 1
  by-line h None says = ap (all_lines l) (others-more 10 s h) ∙ rw (says, unfinished-some s l h)
  by-line h (Some d) says = absurd (none (line-said s h d says))

  go : Dec (length l < length s) → reading s ≡ refused (unfinished s) 1
  go (yes h) = by-line h (first_line l) refl
  go (no h) =
      let whole = first-whole s (omega arith) in
      ap (all_lines l) whole.0 ∙ ap (λ (x : List ℕ). refused (unfinished x) 1) whole.1

-- the refusal of the design that a first line says
line_refused : (s : List ℕ) (g : TableLine s) (why : Refusal) → design_refusal g.design ≡ Err why → reading s ≡ refused why 1
unfolding judged_first
line_refused s g why e =
    ap reading g.characters
    ∙ first_read g.has_kind_field g.design g.rest g.n g.m (kind-says g.design.n g.design.kind g.has_kind_field g.says)
    ∙ rw e

-- ---- the order in line 1

kind-one : (family : Family) (n m : ℕ) (x : Kind) → (KindFor family x → ⊥) → kind_refusal family n m x ≡ Err BrokenLine
kind-one family n m (Mixed C k) none = absurd (none tt)
kind-one One n m Kronecker none = absurd (none tt)
kind-one Two n m Kronecker none = refl

-- the refusal of n and m counts before that of k
kind-table : (family : Family) (n m : ℕ) (x : Kind) (why : Refusal) → KindFor family x → table_refusal n m ≡ Err why → kind_refusal family n m x ≡ Err why
unfolding sizes_refusal
kind-table family n m (Mixed C k) why h e = rw e
kind-table One n m Kronecker why h e = e
kind-table Two n m Kronecker why h e = absurd h

kind-four : (family : Family) (n m : ℕ) (x : Kind) → (1 ≤ n) × (n ≤ 8) → (1 ≤ m) × (m ≤ 8) → (KindSized n x → ⊥) → kind_refusal family n m x ≡ Err MixedCount
unfolding sizes_refusal
kind-four family n m (Mixed C k) hn hm none = rw (table-accepted n m (record { inputs = hn; outputs = hm }), both-fail k (most_mixed C) k n none)
kind-four family n m Kronecker hn hm none = absurd (none tt)

-- ---- the lines after the first

module _ (s : List ℕ) (g : PointsPass s) where
  abbrev d : Design
  d = g.design

  abbrev points : List ℕ
  points = point_lines g.design.m g.f (2 ^ g.design.n)

  abbrev first-line : List ℕ
  first-line = design_line g.design g.has_kind_field

  low : 2 ^ g.design.n ≤ 256
  low = points-le g.design.n g.sized.inputs.1

  says-kind : kind_of g.design.n g.has_kind_field ≡ Some g.design.kind
  says-kind = kind-says g.design.n g.design.kind g.has_kind_field g.says

  second : line_after (design_line g.design g.has_kind_field) ≡ 2
  unfolding design_line line_after parts
  second =
      let fs : List (List ℕ) = decimal d.n ∷ decimal d.m ∷ g.has_kind_field ∷ [] in
      let plain : AllPlain fs = (plain-decimal d.n, (plain-decimal d.m, (plain-said d.n g.has_kind_field d.kind says-kind, tt))) in
      line-next [] (table_word d.family) fs (plain-table d.family) plain

  from_second_lem : (r : List ℕ) → g.rest ≡ r → reading s ≡ with_design d (rows_from (table_grammar d.n d.m) (line_after first-line) (points ++ r))
  from_second_lem r er =
      ap reading
      (g.characters ∙ ap (λ (l : List ℕ). l ++ g.rest) g.lines ∙ append_assoc first-line points g.rest ∙ ap (λ (r : List ℕ). first-line ++ (points ++ r)) er)
      ∙ first_read g.has_kind_field d (points ++ r) (omega (arith, g.sized.inputs.1)) (omega (arith, g.sized.outputs.1)) says-kind
      ∙ rw (design-judged d g.sized)
      (ap (λ (i : ℕ). with_design d (rows_from (table_grammar d.n d.m) i (points ++ r))) (sym second))

  refused-at : (r : List ℕ) (x : Refusal) (l : ℕ) → g.rest ≡ r → rows_from (table_grammar d.n d.m) (line_after first-line) (points ++ r) ≡ later.refused x l → reading s ≡ refused x l
  unfolding with_design
  refused-at r x l er e = from_second_lem r er ∙ ap (with_design d) e

  good : (p : ℕ) → p < 2 ^ g.design.n → (g.f p ≡ 0 → ⊥) → OnLine g.design.m p (g.f p)
  good p h some = record { digits = omega (arith, low); below = g.outputs p h; some = some }

  at-line : (x : Refusal) → refused x (line_after (first-line ++ points)) ≡ refused x (line_after g.before)
  at-line x = ap (λ (b : List ℕ). refused x (line_after b)) (sym g.lines)

  abbrev fields : ℕ → ℕ → List (List ℕ)
  fields p o = decimal p ∷ output_bytes g.design.m o ∷ []

  begun : NoOn d.m g.rest → NoEnd g.rest → reading s ≡ refused (unfinished g.rest) (line_after g.before)
  unfolding point_line
  begun none unended =
      refused-at g.rest (unfinished g.rest) (line_after (first-line ++ points)) refl
      (begun-refused d.n (row_line (table_grammar d.n d.m)) (bytes "on") fields (OnLine d.m) (table-kind d.n d.m) low first-line g.f good g.rest
      none unended)
      ∙ at-line (unfinished g.rest)

  misplaced : (p o : ℕ) (more : List ℕ) → OnLine d.m p o → g.rest ≡ point_line d.m p o ++ more → (p < 2 ^ d.n → Above (2 ^ d.n) g.f p → ⊥)
      → reading s ≡ refused PointOrder (line_after g.before)
  unfolding point_line
  misplaced p o more value er none =
      refused-at (point_line d.m p o ++ more) PointOrder (line_after (first-line ++ points)) er
      (place-refused d.n (row_line (table_grammar d.n d.m)) (bytes "on") fields (OnLine d.m) (table-kind d.n d.m) low first-line g.f good p o more
      value none)
      ∙ at-line PointOrder

  followed : (b : ℕ) (more : List ℕ) → g.rest ≡ end_line ++ b ∷ more → reading s ≡ refused TextEnd (line_after (g.before ++ end_line))
  unfolding point_line
  followed b more er =
      refused-at (end_line ++ b ∷ more) TextEnd (line_after (first-line ++ points ++ end_line)) er
      (followed-refused d.n (row_line (table_grammar d.n d.m)) (bytes "on") fields (OnLine d.m) (table-kind d.n d.m) low first-line g.f good b more)
      ∙ ap (λ (b : List ℕ). refused TextEnd (line_after (b ++ end_line))) (sym g.lines)

-- ---- all of them

-- what is refused where there is a byte, and where there is none
some_one : (s : List ℕ) → (s ≡ [] → ⊥) → unfinished s ≡ BrokenLine
unfolding unfinished
some_one [] h = absurd (h refl)
some_one (b ∷ s) h = refl

none-six : (s : List ℕ) → s ≡ [] → unfinished s ≡ TextEnd
unfolding unfinished
none-six s e = rw e

-- nothing begins with a line
no_line : (word s more : List ℕ) (fs : List (List ℕ)) → s ≡ [] → s ≡ line word fs ++ more → ⊥
unfolding line
no_line word s more fs e h = let z = ap length (sym e ∙ h) in omega (arith, z, length-append (word ++ tabbed fs ++ 10 ∷ []) more, length-append (word ++ tabbed fs) (10 ∷ []))

no_table : (s : List ℕ) → s ≡ [] → TableLine s → ⊥
unfolding design_line
no_table s e g = no_line (table_word g.design.family) s g.rest (decimal g.design.n ∷ decimal g.design.m ∷ g.has_kind_field ∷ []) e g.characters

no-on : (m : ℕ) (s : List ℕ) → s ≡ [] → NoOn m s
unfolding point_line
no-on m s e p o more value h = no_line (bytes "on") s more (decimal p ∷ output_bytes m o ∷ []) e h

pub text-refusals : (s : List ℕ) (P : Refusal → ℕ → Type 0) → ((why : Refusal) (l : ℕ) → reading s ≡ refused why l → P why l) → TextRefusals s P
unfolding design_refusal
text-refusals s P told =
    record {
      none = λ e. told TextEnd 1 (no-first s (no_table s e) ∙ ap (λ (x : Refusal). refused x 1) (none-six s e));
      first = λ some none. told BrokenLine 1 (no-first s none ∙ ap (λ (x : Refusal). refused x 1) (some_one s some));
      kind = λ g none. told BrokenLine 1 (line_refused s g BrokenLine (kind-one g.design.family g.design.n g.design.m g.design.kind none));
      inputs = λ g h none.
          told InputCount 1
          (line_refused s g InputCount (kind-table g.design.family g.design.n g.design.m g.design.kind InputCount h (table-two g.design.n g.design.m none)));
      outputs = λ g h hn none.
          told OutputCount 1
          (line_refused s g OutputCount (kind-table g.design.family g.design.n g.design.m g.design.kind OutputCount h (table-three g.design.n g.design.m hn none)));
      mixed = λ g hn hm none. told MixedCount 1 (line_refused s g MixedCount (kind-four g.design.family g.design.n g.design.m g.design.kind hn hm none));
      line = λ g some none unended. told BrokenLine _ (begun s g none unended ∙ ap (λ (x : Refusal). refused x (line_after g.before)) (some_one g.rest some));
      point = λ g p o more value e none. told PointOrder _ (misplaced s g p o more value e none);
      stops = λ g e.
          told TextEnd _ (begun s g (no-on g.design.m g.rest e) (λ more h. no_line (bytes "end") g.rest more [] e h) ∙ ap (λ (x : Refusal). refused x (line_after g.before)) (none-six g.rest e));
      follows = λ g b more e. told TextEnd _ (followed s g b more e);
    }
