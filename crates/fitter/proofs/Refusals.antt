-- The refusal of a listing beside an accepted table text whose k is a number: it is the refusal of the reading (`reading-refused`), 11 or 12
-- (`refused-numbers`), and 11 with line 1 just where the listing is no `form` or `form2` listing (`first-exactly`). No other answer is a refusal (`not-refused`).
use mathlib.Core.Bool.{Bool, true, false, cond}
use mathlib.Core.List.{List}
use mathlib.Core.Logic.{◌⊎◌, ◌↔◌}
use mathlib.Core.Path.{◌≡◌, refl, sym, ap, ◌∙◌, subst}
use Prim.Native.Nat.{ℕ, ◌+◌, ◌≤◌}
use lib.ListN.{length}
use Rattle.std.specs.Prelude.{Result, Ok, Err}
use Rattle.numbers.specs.declared.refusals.Refusal.{Refusal}
use Rattle.numbers.specs.declared.refusals.Refusal.TheVariants.{BrokenListing, UnlikeListing}
use Rattle.numbers.specs.declared.refusals.Refused.{Refused}
use Rattle.numbers.specs.Bytes.{at}
use Rattle.numbers.specs.Refusals.{declined, Sized}
use Rattle.expansions.specs.Classes.{most_mixed}
use Rattle.expansions.specs.Least.{Best}
use Rattle.membership.specs.Class.{of_class}
use Rattle.table_texts.specs.declared.sizes.Sizes.{Sizes}
use Rattle.table_texts.specs.Design.{mixed_design}
use Rattle.table_texts.specs.Inner.Reading as tables
use Rattle.table_texts.proofs.Design.{mixed-sized}
use Rattle.table_texts.proofs.read.Accepted.{reading-accepted}
use Rattle.listing_texts.specs.declared.form.Form.{Form}
use Rattle.listing_texts.specs.Form.{FormListing}
use Rattle.shown_rows.specs.Rows.{coefficient_in, complemented_in}
use Rattle.listing_texts.specs.Read.{ListingReading, shown, refused, listing_reading}
use Rattle.listing_texts.proofs.BesideKronecker.{other-exactly}
use Rattle.listing_texts.proofs.FirstLines.{Told, reading-told, first-told}
use Rattle.fitter.specs.declared.check.Verdict.{Verdict}
use Rattle.fitter.specs.declared.check.Verdict.TheVariants.{NotOfClass}
use Rattle.fitter.specs.Differences.{inverted_value, first_difference}
use Rattle.fitter.specs.Inner.Answer.{compared, judged, judged_design, checked}

-- ---- where the answer is a refusal

pub not-refused : (z : Sizes) (table : List ℕ) (f : Form) (v : ℕ) (t : List ℕ) (e : Refused) → judged z table (shown f v t) ≡ Err e → ⊥
unfolding judged
not-refused z table f v t e h = go (of_class z.class z.n z.k f.mixed f.fixed (complemented_in t) (coefficient_in t))
    (first_difference z.n (inverted_value z.n (complemented_in t) (coefficient_in t) v) (at table)) h
  where
    go : (b : Bool) (x : Best) → cond b (Ok (compared x)) (Ok NotOfClass) ≡ Err e → ⊥
    go true x g = cc
    go false x g = cc

-- an answer that is a refusal comes from the refusal of the reading
judged-refused : (z : Sizes) (table : List ℕ) (x : ListingReading) (e : Refused) → judged z table x ≡ Err e → x ≡ refused e.refusal e.line
unfolding judged
judged-refused z table (shown f v t) e h = absurd (not-refused z table f v t e h)
judged-refused z table (refused why l) e h = let same : declined why l ≡ e = cc in ap (λ (x : Refused). refused x.refusal x.line) same

-- ---- beside an accepted table text

module _ (text : List ℕ) (z : Sizes) (table : List ℕ) (accepted : tables.reading text ≡ tables.given (mixed_design z) table) where
  pub accepted-sized : Sized z.n z.m (most_mixed z.class) z.k
  accepted-sized = mixed-sized (mixed_design z) z.class z.k refl (reading-accepted text (mixed_design z) table accepted).sized

module _ (text s : List ℕ) (z : Sizes) (table : List ℕ) (accepted : tables.reading text ≡ tables.given (mixed_design z) table) where
  pub answer-is : checked (tables.reading text) s ≡ judged z table (listing_reading z s)
  unfolding checked judged_design
  answer-is = ap (λ (x : tables.Reading). checked x s) accepted

  pub reading-refused : (why : Refusal) (l : ℕ) → listing_reading z s ≡ refused why l → checked (tables.reading text) s ≡ Err (declined why l)
  unfolding judged
  reading-refused why l e = answer-is ∙ ap (judged z table) e

  was-refused : (e : Refused) → checked (tables.reading text) s ≡ Err e → listing_reading z s ≡ refused e.refusal e.line
  was-refused e h = judged-refused z table (listing_reading z s) e (sym answer-is ∙ h)

module _ (text s : List ℕ) (r : Result Verdict Refused) (e : r ≡ checked (tables.reading text) s) (z : Sizes) (table : List ℕ)
    (accepted : tables.reading text ≡ tables.given (mixed_design z) table) where
  pub first-exactly : (r ≡ Err (declined BrokenListing 1)) ↔ (FormListing s → ⊥)
  first-exactly = (
    (λ h. (other-exactly s).0 ((first-told z s).0 (was-refused text s z table accepted (declined BrokenListing 1) (sym e ∙ h)))),
    (λ none. e ∙ reading-refused text s z table accepted BrokenListing 1 ((first-told z s).1 ((other-exactly s).1 none))),
  )

  pub refused-numbers : (x : Refused) → r ≡ Err x
      → ((x.refusal ≡ BrokenListing) × (1 ≤ x.line) × (x.line ≤ 1 + length s)) ⊎ ((x.refusal ≡ UnlikeListing) × (x.line ≡ 1))
  refused-numbers x h = subst (Told 1 (1 + length s)) (was-refused text s z table accepted x (sym e ∙ h)) (reading-told z s)
