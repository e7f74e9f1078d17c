-- What an accepted text gives: a design within the limits, and a table of 256 bytes, each below 2 ^ m, zero from 2 ^ n on.
-- The main property is `reading-accepted`.
use mathlib.Core.Bool.{false≢true}
use mathlib.Core.List.{List, [], ◌∷◌}
use mathlib.Core.Path.{◌≡◌, refl, sym, ap, subst, ◌∙◌}
use Prim.Native.Nat.{ℕ}
use native.Mathlib.Omega.{arith}
use lib.ListN.{length}
use Rattle.std.specs.Prelude.{Option, Some, None, Result, Ok, Err, is_ok}
use Rattle.numbers.specs.declared.refusals.Refusal.{Refusal}
use Rattle.numbers.specs.declared.refusals.Refused.{Refused}
use Rattle.numbers.specs.Refusals.{Judgement}
use Rattle.numbers.proofs.refusals.Judging.{Passed}
use Rattle.listings.specs.Parts.{parts}
use Rattle.lines.specs.Rows as later
use Rattle.lines.specs.Rows.{RowsRead, rows}
use Rattle.table_texts.specs.declared.sizes.Design.{Design}
use Rattle.table_texts.specs.Design.{design_refusal, DesignSized}
use Rattle.table_texts.specs.First.{first_line}
use Rattle.table_texts.specs.Accepted.{Accepted}
use Rattle.table_texts.specs.Read.{ReadTable}
use Rattle.table_texts.specs.Inner.Reading.{Reading, given, refused, with_design, design_judged, judged_first, opened, from_second, all_lines, reading, lent, stands_for}
use Rattle.table_texts.proofs.Design.{design-none}
use Rattle.table_texts.proofs.Points.{points-read}

-- ---- the lines after the first

pub no-refusal : {why : Refusal} {line : ℕ} {d : Design} {t : List ℕ} → refused why line ≡ given d t → ⊥
no-refusal e = let z : ◌≡◌ {A = ℕ} 0 1 = cc in omega arith

pub with-given : (d y : Design) (r : RowsRead) (t : List ℕ) → with_design d r ≡ given y t → (d ≡ y) × (r ≡ rows t)
unfolding with_design
with-given d y (rows u) t e = let same : u ≡ t = cc in (cc, ap rows same)
with-given d y (later.refused why line) t e = absurd (no-refusal e)

-- ---- the first line, and the text

pub refused-given : {e : Refused} {d : Design} → Err e ≡ Ok d → ⊥
refused-given h = false≢true (ap is_ok h)

-- what line 1 says where its design is not refused
pub design-given : (x : Judgement) (y d : Design) → design_judged x y ≡ Ok d → Passed x × (y ≡ d)
design-given (Ok passed) y d e = (refl, cc)
design-given (Err why) y d e = absurd (refused-given e)

pub first-sized : (x : Option Design) (d : Design) → judged_first x ≡ Ok d → DesignSized d
unfolding judged_first
first-sized None d e = absurd (refused-given e)
first-sized (Some y) d e =
    let found = design-given (design_refusal y) y d e in
    subst DesignSized found.1 (design-none y found.0)

all-accepted : (l : List ℕ) (ls : List (List ℕ)) (d : Design) (t : List ℕ) → all_lines l ls ≡ given d t → Accepted d t
unfolding all_lines
all-accepted l [] d t e = absurd (no-refusal e)
all-accepted l (l' ∷ ls) d t e = judged (judged_first (first_line l)) refl e where
  judged : (x : Result Design Refused) → judged_first (first_line l) ≡ x
      → opened x (from_second l' ls) ≡ given d t → Accepted d t
  judged (Ok y) says f =
      let sized = first-sized (first_line l) y says in
      let found = with-given y d _ t f in
      subst (λ (x : Design). Accepted x t) found.0
      (record { sized = sized; table = (points-read y.n y.m sized.inputs.1 2 l' ls t found.1).1 })
  judged (Err e) says f = absurd (no-refusal f)

pub reading-accepted : (s : List ℕ) (d : Design) (t : List ℕ) → reading s ≡ given d t → Accepted d t
unfolding reading
reading-accepted s d t e = all-accepted (parts 10 s).first (parts 10 s).others d t e

-- ---- the reading call with a table of 256 bytes

pub lent-whole : (x : Reading) → lent x 256 ≡ x
unfolding lent
lent-whole (given d t) = refl
lent-whole (refused why line) = refl

pub read_whole : (text before after : List ℕ) (r : Result Design Refused) → ReadTable text before r after → length before ≡ 256
    → stands_for r after ≡ reading text
read_whole text before after r done long = done.result ∙ rw long (lent-whole (reading text))

-- ---- by the answer

pub reads-given : (r : Result Design Refused) (t : List ℕ) (d : Design) (x : Reading) → r ≡ Ok d → stands_for r t ≡ x → x ≡ given d t
unfolding stands_for
reads-given r t d x e s = sym s ∙ ap (λ (y : Result Design Refused). stands_for y t) e

pub reads-refused : (r : Result Design Refused) (t : List ℕ) (e : Refused) (x : Reading) → r ≡ Err e → stands_for r t ≡ x → x ≡ refused e.refusal e.line
unfolding stands_for
reads-refused r t e x h s = sym s ∙ ap (λ (y : Result Design Refused). stands_for y t) h
