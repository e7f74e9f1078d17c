-- An accepted text is the text that is written for its own design and its own table, with the characters of its kind of k, or where this is what `-`
-- means with `-` (`accepted-text`). So just these texts are accepted (`accepted-exactly`).
use mathlib.Core.List.{List, [], ◌∷◌, ◌++◌, append_assoc}
use mathlib.Core.Logic.{inl, inr, ◌↔◌}
use mathlib.Core.Path.{◌≡◌, sym, ap, ap₂, refl, subst, ◌∙◌}
use Prim.Native.Nat.{ℕ, ◌^◌, ◌≤◌, ◌<◌}
use Rattle.std.specs.Prelude.{Option, Some, None, Result, Ok, Err}
use Rattle.numbers.specs.declared.refusals.Refused.{Refused}
use Rattle.numbers.specs.Bytes.{at}
use Rattle.listings.specs.Parts.{parts, bytes}
use Rattle.listings.specs.Listing.{tabbed, line, decimal}
use Rattle.listings.proofs.Parts.{separated, parts-joined}
use Rattle.table_texts.specs.declared.sizes.Design.{Design}
use Rattle.table_texts.specs.First.{kind_of, table_word, first_line}
use Rattle.table_texts.specs.Design.{design_refusal}
use Rattle.table_texts.specs.Accepted.{Accepted}
use Rattle.table_texts.specs.Inner.Reading.{given, judged_first, opened, from_second, all_lines, reading}
use Rattle.table_texts.specs.TableTexts.{kind_field, KindCharacters, point_lines, design_line, text_with, table_text, dash_text, IsText}
use Rattle.table_texts.proofs.read.Accepted.{no-refusal, with-given, refused-given, first-sized, reading-accepted, design-given}
use Rattle.table_texts.proofs.Acceptance.{first_read, table-text-accepted, dash-text-accepted}
use Rattle.table_texts.proofs.DesignLine.{kind-read, design-read}
use Rattle.table_texts.proofs.Points.{points-read}

-- ---- the first line, and the text

first-judged : (x : Option Design) (d : Design) → judged_first x ≡ Ok d → x ≡ Some d
unfolding judged_first
first-judged None d e = absurd (refused-given e)
first-judged (Some y) d e = ap Some (design-given (design_refusal y) y d e).1

-- a text that begins with the first line of the design d gives this design, where it is accepted
pub first-given : (k : List ℕ) (d : Design) (rest : List ℕ) (y : Design) (t : List ℕ) → d.n < 10 → d.m < 10 → kind_of d.n k ≡ Some d.kind
    → reading (design_line d k ++ rest) ≡ given y t → d ≡ y
first-given k d rest y t hn hm e given-y = go (judged_first (Some d)) refl (sym (first_read k d rest hn hm e) ∙ given-y) where
  go : (x : Result Design Refused) → judged_first (Some d) ≡ x
      → opened x (from_second (parts 10 rest).first (parts 10 rest).others) ≡ given y t
      → d ≡ y
  go (Ok z) says f =
      let same : Some d ≡ Some z = first-judged (Some d) z says in
      let judged : d ≡ z = cc in
      judged ∙ (with-given z y _ t f).0
  go (Err e) says f = absurd (no-refusal f)

-- the characters that stand for k, and the text that is written with them
pub record TextRead (s : List ℕ) (d : Design) (t : List ℕ) : Type 0 where
  pub has_kind_field : List ℕ
  pub said : kind_of d.n has_kind_field ≡ Some d.kind
  pub characters : s ≡ text_with has_kind_field d t

text-joined : (k : List ℕ) (d : Design) (t l s : List ℕ) → l ≡ table_word d.family ++ tabbed (decimal d.n ∷ decimal d.m ∷ k ∷ [])
    → s ≡ point_lines d.m (at t) (2 ^ d.n) ++ line (bytes "end") [] → l ++ 10 ∷ s ≡ text_with k d t
unfolding text_with design_line line
text-joined k d t l s e h =
    let word : List ℕ = table_word d.family ++ tabbed (decimal d.n ∷ decimal d.m ∷ k ∷ []) in
    let points : List ℕ = point_lines d.m (at t) (2 ^ d.n) in
    let last : List ℕ = line (bytes "end") [] in
    ap₂ (λ (a b : List ℕ). a ++ 10 ∷ b) e h
    ∙ sym (append_assoc (word ++ 10 ∷ []) points last ∙ append_assoc word (10 ∷ []) (points ++ last))

all_read : (l : List ℕ) (ls : List (List ℕ)) (d : Design) (t : List ℕ) → all_lines l ls ≡ given d t → TextRead (l ++ separated 10 ls) d t
unfolding all_lines separated
all_read l [] d t e = absurd (no-refusal e)
all_read l (l' ∷ ls) d t e = judged (judged_first (first_line l)) refl e where
  judged : (x : Result Design Refused) → judged_first (first_line l) ≡ x
      → opened x (from_second l' ls) ≡ given d t
      → TextRead (l ++ separated 10 (l' ∷ ls)) d t
  judged (Ok y) says f =
      let few : y.n ≤ 8 = (first-sized (first_line l) y says).inputs.1 in
      let line1 = design-read l y (first-judged (first_line l) y says) in
      let found = with-given y d _ t f in
      let points = (points-read y.n y.m few 2 l' ls t found.1).0 in
      subst (λ (x : Design). TextRead (l ++ separated 10 (l' ∷ ls)) x t) found.0
      (record {
        has_kind_field = line1.has_kind_field;
        said = line1.said;
        characters = text-joined line1.has_kind_field y t l (l' ++ separated 10 ls) line1.characters points;
      })
  judged (Err e) says f = absurd (no-refusal f)

pub text-read : (s : List ℕ) (d : Design) (t : List ℕ) → reading s ≡ given d t → TextRead s d t
unfolding reading
text-read s d t e = subst (λ (r : List ℕ). TextRead r d t) (parts-joined 10 s) (all_read (parts 10 s).first (parts 10 s).others d t e)

pub accepted-text : (s : List ℕ) (d : Design) (t : List ℕ) → reading s ≡ given d t
    → IsText s d t
unfolding table_text dash_text
accepted-text s d t e = go (text-read s d t e) where
  go : TextRead s d t → IsText s d t
  go r = either (kind-read d.n r.has_kind_field d.kind r.said) where
    written : (k : List ℕ) → r.has_kind_field ≡ k → s ≡ text_with k d t
    written k h = r.characters ∙ ap (λ (k : List ℕ). text_with k d t) h

    either : KindCharacters d.n d.kind r.has_kind_field → IsText s d t
    either (inl h) = inl (written (kind_field d.kind) h)
    either (inr h) = inr (h.0, written (bytes "-") h.1)

pub accepted-exactly : (s : List ℕ) (d : Design) (t : List ℕ)
    → (reading s ≡ given d t) ↔ (Accepted d t × IsText s d t)
accepted-exactly s d t = (λ e. (reading-accepted s d t e, accepted-text s d t e), λ h. back h.0 h.1) where
  back : Accepted d t → IsText s d t → reading s ≡ given d t
  back g (inl e) = ap reading e ∙ table-text-accepted d t g
  back g (inr e) = ap reading e.1 ∙ dash-text-accepted d t g e.0
