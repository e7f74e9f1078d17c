-- The text that is written for a design and a table within the limits is accepted, and means this design and this table: nothing within the
-- limits is refused (`table-text-accepted`; with `-` for k, `dash-text-accepted`). With `-` for k any text, also one that is refused, is read as with the
-- field that `-` means (`dash-written-out`).
use mathlib.Core.List.{List, [], ◌∷◌, ◌++◌, append_assoc}
use mathlib.Core.Path.{◌≡◌, sym, ap, ◌∙◌}
use Prim.Native.Nat.{ℕ, ◌^◌, ◌≤◌, ◌<◌}
use native.Mathlib.Omega.{arith}
use Rattle.std.specs.Prelude.{Some, Ok}
use Rattle.numbers.specs.Bytes.{at}
use Rattle.listings.specs.Parts.{parts, bytes}
use Rattle.listings.specs.Listing.{line, decimal}
use Rattle.listings.proofs.Joined.{AllPlain, parts-lines}
use Rattle.listings.proofs.Meaning.{plain-decimal}
use Rattle.table_texts.specs.declared.sizes.Design.{Design}
use Rattle.table_texts.specs.First.{dash_kind, kind_of, table_word}
use Rattle.table_texts.specs.Design.{DesignSized}
use Rattle.table_texts.specs.Accepted.{Accepted}
use Rattle.table_texts.specs.Inner.Reading.{given, with_design, judged_first, opened, from_second, all_lines, reading}
use Rattle.table_texts.specs.TableTexts.{kind_field, point_lines, design_line, text_with, table_text, dash_text, dash_characters}
use Rattle.table_texts.proofs.Design.{design-accepted}
use Rattle.table_texts.proofs.DesignLine.{sized-digit, kind-dash, kind-said, dash-said, dash-only, plain-table, plain-said, design-said}
use Rattle.table_texts.proofs.Points.{points-written}

-- the design that a first line with `-` says, with the n, the m and the family of d
abbrev pub dash_design : Design → Design
dash_design d = record { n = d.n; m = d.m; kind = dash_kind d.n; family = d.family }

pub design-judged : (d : Design) → DesignSized d → judged_first (Some d) ≡ Ok d
unfolding judged_first
design-judged d g = rw (design-accepted d g)

-- a text whose first line is that of the design d, with any characters that say its kind of k: the design is judged, and then the lines after it
pub first_read : (k : List ℕ) (d : Design) (rest : List ℕ) → d.n < 10 → d.m < 10 → kind_of d.n k ≡ Some d.kind
    → reading (design_line d k ++ rest)
    ≡ opened (judged_first (Some d)) (from_second (parts 10 rest).first (parts 10 rest).others)
unfolding reading all_lines design_line
first_read k d rest hn hm e =
    let fs : List (List ℕ) = decimal d.n ∷ decimal d.m ∷ k ∷ [] in
    let plain : AllPlain fs = (plain-decimal d.n, (plain-decimal d.m, (plain-said d.n k d.kind e, tt))) in
    rw (parts-lines (table_word d.family) fs rest (plain-table d.family) plain, design-said d k hn hm e)

-- document 02, W-208: with `-` for k a text means what it means with `f2`, or `f1` where n = 1, and is refused alike, whatever lines follow
pub dash-written-out : (d : Design) (rest : List ℕ) → d.n < 10 → d.m < 10
    → reading (design_line d (bytes "-") ++ rest) ≡ reading (design_line d (dash_characters d.n) ++ rest)
unfolding design_line
dash-written-out d rest hn hm =
    first_read (bytes "-") (dash_design d) rest hn hm (kind-dash d.n)
    ∙ sym (first_read (dash_characters d.n) (dash_design d) rest hn hm (dash-said d.n))

pub text-accepted : (k : List ℕ) (d : Design) (t : List ℕ) → kind_of d.n k ≡ Some d.kind → Accepted d t → reading (text_with k d t) ≡ given d t
unfolding with_design text_with
text-accepted k d t e g =
    let few : d.n ≤ 8 = g.sized.inputs.1 in
    ap reading (append_assoc (design_line d k) (point_lines d.m (at t) (2 ^ d.n)) (line (bytes "end") []))
    ∙ first_read k d (point_lines d.m (at t) (2 ^ d.n) ++ line (bytes "end") []) (omega (arith, few)) (omega (arith, g.sized.outputs)) e
    ∙ rw (design-judged d g.sized, points-written d.n d.m few 2 t g.table)

pub table-text-accepted : (d : Design) (t : List ℕ) → Accepted d t → reading (table_text d t) ≡ given d t
unfolding table_text
table-text-accepted d t g =
    text-accepted (kind_field d.kind) d t (kind-said d.n d.kind g.sized.mixed) g

pub dash-text-accepted : (d : Design) (t : List ℕ) → Accepted d t → kind_field d.kind ≡ dash_characters d.n → reading (dash_text d t) ≡ given d t
unfolding dash_text
dash-text-accepted d t g e =
    let means : d.kind ≡ dash_kind d.n = dash-only d.n d.kind (sized-digit d.n d.kind g.sized.mixed) e in
    text-accepted (bytes "-") d t (kind-dash d.n ∙ ap Some (sym means)) g
