-- W-208 of texts and their listings (`dash-field`). A text is compiled by what it means, and that is the same with `-` and with the field that `-` means;
-- the listing of a class has the characters of its field k on its first line. A table costs no more with what `-` means now than with `1`, which it meant
-- before (`dash-no-dearer`).
use mathlib.Core.Bool.{Bool, true, false, cond, false≢true}
use mathlib.Core.List.{List}
use mathlib.Core.Path.{◌≡◌, refl, sym, ap, ◌∙◌}
use Prim.Native.Nat.{ℕ, ◌≤◌, ◌<◌}
use native.Mathlib.Omega.{arith}
use borrow.Author.Tests.{eqb-false}
use lib.Dec.{eqb}
use lib.ListN.{length, take}
use Rattle.std.specs.Prelude.{Ok, is_ok}
use Rattle.expansions.specs.declared.families.Family.{Family}
use Rattle.expansions.specs.declared.kinds.Class.TheVariants.{Block, Free}
use Rattle.expansions.specs.declared.kinds.Kind.TheVariants.{Mixed}
use Rattle.expansions.specs.Rules.{NoDearer}
use Rattle.expansions.specs.Rivals.{Rival, LeastCost}
use Rattle.expansions.proofs.Alike.{rival-free}
use Rattle.expansions.proofs.Wider.{rival-wider}
use Rattle.listings.specs.Parts.{bytes}
use Rattle.listings.specs.Meaning.{shown_field}
use Rattle.listings.proofs.Forms.{listing-field}
use Rattle.table_texts.specs.declared.sizes.Design.{Design}
use Rattle.table_texts.specs.First.{dash_kind}
use Rattle.table_texts.specs.Inner.Reading.{Reading, given, refused, reading}
use Rattle.table_texts.specs.TableTexts.{kind_field, dash_characters, design_line}
use Rattle.table_texts.proofs.Acceptance.{dash_design, dash-written-out}
use Rattle.table_texts.proofs.DesignLine.{kind-dash, dash-characters}
use Rattle.table_texts.proofs.Exactness.{first-given}
use Rattle.text.specs.Compile.{Compile}
use Rattle.text.specs.Inner.Compiled.{answer_listing, compiled, buffer_after}
use Rattle.text.proofs.compile.Listings.{written-listing}
use Rattle.text.proofs.print.Shown.{print-whole}
use Rattle.comparisons.specs.DashField.{dashed, DashField}

module _ (d : Design) (rest : List ℕ) (hn : d.n < 10) (hm : d.m < 10) where
  answer-field : (t : List ℕ) → shown_field (answer_listing (dash_design d) t) ≡ dash_characters d.n
  unfolding answer_listing dash_kind kind_field
  answer-field t = listing-field _ d.family d.n d.m _ _ ∙ dash-characters d.n

  dash-shown : (before after : List ℕ) (count : ℕ) → Compile (dashed d rest) before after (Ok count)
      → shown_field (take count after) ≡ dash_characters d.n
  unfolding compiled design_line
  dash-shown before after count h = go (reading (dashed d rest)) refl where
    go : (x : Reading) → reading (dashed d rest) ≡ x → shown_field (take count after) ≡ dash_characters d.n
    go (given y t) e =
        let same : dash_design d ≡ y = first-given (bytes "-") (dash_design d) rest y t hn hm (kind-dash d.n) e in
        let listed : take count after ≡ answer_listing y t =
        written-listing y t before after count (h.answer ∙ ap (λ (x : Reading). compiled x (length before)) e)
        (h.bytes ∙ ap (λ (x : Reading). buffer_after x before) e) in
        ap shown_field (listed ∙ ap (λ (z : Design). answer_listing z t) (sym same)) ∙ answer-field t
    go (refused why line) e = absurd (false≢true (ap is_ok (sym (h.answer ∙ ap (λ (x : Reading). compiled x (length before)) e))))

  pub dash-field : DashField d rest
  dash-field =
      let read = dash-written-out d rest hn hm in
      record {
        read = read;
        written = λ before after after' r r' a b. (
          a.answer ∙ ap (λ (x : Reading). compiled x (length before)) read ∙ sym b.answer,
          a.bytes ∙ ap (λ (x : Reading). buffer_after x before) read ∙ sym b.bytes,
        );
        printed = λ y t e held held' count count' a b. print-whole _ _ _ y t a e ∙ sym (print-whole _ _ _ y t b (sym read ∙ e));
        shown = dash-shown;
      }

-- ---- beside `1`

-- what costs so much at `1` costs so much at what `-` means
dash-rival : (n : ℕ) (f : ℕ → ℕ) (p l : ℕ) → 1 ≤ n → Rival n f (Mixed Block 1) p l → Rival n f (dash_kind n) p l
unfolding dash_kind
dash-rival n f p l some r = go (eqb n 1) refl where
  free : Rival n f (Mixed Free 1) p l
  free = rival-free n 1 f p l r

  go : (t : Bool) → eqb n 1 ≡ t → Rival n f (Mixed Free (cond t 1 2)) p l
  go true e = free
  go false e = let more : n ≡ 1 → ⊥ = eqb-false n 1 e in rival-wider n 1 f p l (omega (arith, more)) free

pub dash-no-dearer : (n : ℕ) (family : Family) (f : ℕ → ℕ) (p l p' l' : ℕ) → 1 ≤ n → LeastCost n family (dash_kind n) f p l
    → LeastCost n family (Mixed Block 1) f p' l' → NoDearer family p l p' l'
dash-no-dearer n family f p l p' l' some dash one = dash.cheapest p' l' (dash-rival n f p' l' some one.reached)
