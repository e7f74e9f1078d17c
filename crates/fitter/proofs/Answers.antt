-- When each answer is given, in document 02's words: beside a table whose k is a number (`answers-words`), and beside a `K` table (`kronecker-words`). For
-- every pair of byte strings: `check-words`. A listing whose first line is wrong is refused by 11, line 1 (`kron-listing-refused`, `dash-listing-refused`), and a
-- table text with `-` for k is judged as with what `-` means (`dash-checked`).
use mathlib.Core.List.{List, ◌++◌}
use mathlib.Core.Logic.{◌⊎◌, inl, inr}
use mathlib.Core.Path.{◌≡◌, refl, sym, ap, subst, ◌∙◌}
use Prim.Native.Nat.{ℕ, ◌^◌, ◌≤◌, ◌<◌}
use native.Mathlib.Omega.{arith}
use Rattle.std.specs.Prelude.{Result, Ok, Err, None}
use Rattle.numbers.specs.declared.refusals.Refusal.{Refusal}
use Rattle.numbers.specs.declared.refusals.Refusal.TheVariants.{BrokenListing, UnlikeListing}
use Rattle.numbers.specs.declared.refusals.Refused.{Refused}
use Rattle.numbers.specs.Refusals.{declined, Sized}
use Rattle.numbers.proofs.Shifts.{points-le}
use Rattle.expansions.specs.declared.kinds.Kind.{Kind}
use Rattle.expansions.specs.declared.kinds.Kind.TheVariants.{Mixed, Kronecker}
use Rattle.expansions.specs.Classes.{most_mixed}
use Rattle.listings.specs.Parts.{parts, bytes}
use Rattle.listings.specs.Meaning.{shown_field, stated_mixed, stated_fixed}
use Rattle.table_texts.specs.declared.sizes.Sizes.{Sizes}
use Rattle.table_texts.specs.declared.sizes.Design.{Design}
use Rattle.table_texts.specs.Design.{mixed_design}
use Rattle.table_texts.specs.TableTexts.{dash_characters, design_line, Means}
use Rattle.table_texts.specs.Inner.Reading as tables
use Rattle.table_texts.proofs.Acceptance.{dash-written-out}
use Rattle.table_texts.proofs.Exactness.{accepted-exactly}
use Rattle.table_texts.proofs.Refusals.{text-refusals}
use Rattle.listing_texts.specs.declared.form.Form.{Form}
use Rattle.listing_texts.specs.Form.{first_line, KronListing}
use Rattle.listing_texts.specs.Listings.{Passes}
use Rattle.listing_texts.specs.Read.{ListingReading, shown, refused, listing_reading, beside_kronecker}
use Rattle.listing_texts.specs.Refusals.{ListingRefusal, first, unlike, second, later, followed, counts}
use Rattle.listing_texts.proofs.Exactness.{read-passes, passes-exactly}
use Rattle.listing_texts.proofs.Decided.{listing-decided}
use Rattle.listing_texts.proofs.FirstLines.{next-refused, follow-refused, counts-refused}
use Rattle.listing_texts.proofs.BesideKronecker.{form-exactly, other-exactly, beside-either, wrong-beside, wrong-read, kron-wrong, dash-wrong}
use Rattle.fitter.specs.declared.check.Verdict.{Verdict}
use Rattle.fitter.specs.declared.check.Verdict.TheVariants.{Same, Differs, NotOfClass}
use Rattle.fitter.specs.Check.{PrintsTable, Answers, KroneckerAnswers, Check}
use Rattle.fitter.specs.Inner.Answer.{judged, judged_kind, judged_design, checked}
use Rattle.fitter.proofs.Refusals.{not-refused, accepted-sized, answer-is, reading-refused, first-exactly, refused-numbers}
use Rattle.fitter.proofs.Unlike.{unlike-refused, second-line-refused}
use Rattle.fitter.proofs.Outcomes.{not-to, not-from, same-to, same_from, differs-to, differs-from}

-- ---- beside an accepted table text

-- a listing is read as some first line, mask and rows
abbrev Read : Sizes → List ℕ → Type 0
Read z s = (f : Form) × (v : ℕ) × (t : List ℕ) × (listing_reading z s ≡ shown f v t)

module _ (z : Sizes) (table s : List ℕ) (sized : Sized z.n z.m (most_mixed z.class) z.k) where
  -- a listing that passes was read
  passed : Passes z s → Read z s
  passed = (passes-exactly z s sized).0

  -- the listing of an expansion of the class passes
  printed-passes : (v : ℕ) (w c : ℕ → ℕ) → PrintsTable z table s v w c → Passes z s
  printed-passes v w c p =
      let size : 2 ^ z.n ≤ 256 = points-le z.n sized.inputs.1 in
      record {
        inverted = v;
        mixed = stated_mixed s;
        fixed = stated_fixed s;
        polarity = w;
        coefficient = c;
        mask = p.mask;
        mixed_digits = omega (arith, p.in_class.pair.mask);
        fixed_digits = omega (arith, p.in_class.pair.fixed);
        outputs = p.outputs;
        characters = p.lines;
      }

  read_as : (a : Result Verdict Refused) (x : ListingReading) → judged z table x ≡ a → ((e : Refused) → a ≡ Err e → ⊥) → listing_reading z s ≡ x
      → Read z s
  unfolding judged
  read_as a (shown f v t) e other read = (f, v, t, read)
  read_as a (refused why l) e other read = absurd (other (declined why l) (sym e))

  -- an answer that is no refusal comes from a listing that was read
  was_read : (a : Result Verdict Refused) → judged z table (listing_reading z s) ≡ a → ((e : Refused) → a ≡ Err e → ⊥) → Read z s
  was_read a e other = read_as a (listing_reading z s) e other refl

  pub answers-words : (r : Result Verdict Refused) → r ≡ judged z table (listing_reading z s) → Answers z table s r
  answers-words r e =
      record {
        not_of_class = (
          (λ h.
              let x = was_read (Ok NotOfClass) (sym e ∙ h) (λ x g. cc) in (
                read-passes z s x.0 x.1 x.2 x.3,
                not-to z table s x.0 x.1 x.2 x.3 (sym (ap (judged z table) x.3) ∙ sym e ∙ h),
              )),
          (λ p. let x = passed p.0 in e ∙ ap (judged z table) x.3 ∙ not-from z table s x.0 x.1 x.2 x.3 p.1),
        );
        same = (
          (λ h.
              let x = was_read (Ok Same) (sym e ∙ h) (λ x g. cc) in
              same-to z table s x.0 x.1 x.2 x.3 (sym (ap (judged z table) x.3) ∙ sym e ∙ h)),
          (λ p.
              let x = passed (printed-passes p.0 p.1 p.2 p.3) in
              e ∙ ap (judged z table) x.3 ∙ same_from z table s x.0 x.1 x.2 x.3 p.0 p.1 p.2 p.3),
        );
        differs = λ q. (
          (λ h.
              let x = was_read (Ok (Differs q)) (sym e ∙ h) (λ x g. cc) in
              let d = differs-to z table s x.0 x.1 x.2 x.3 q (sym (ap (judged z table) x.3) ∙ sym e ∙ h) in
              (read-passes z s x.0 x.1 x.2 x.3, d.0, d.1)),
          (λ p.
              let x = passed p.0 in
              e ∙ ap (judged z table) x.3 ∙ differs-from z table s x.0 x.1 x.2 x.3 q p.1.0 p.1.1 p.1.2 p.2),
        );
        refusal = (
          (λ other. let x = was_read r (sym e) other in read-passes z s x.0 x.1 x.2 x.3),
          (λ p why g. let x = passed p in not-refused z table x.0 x.1 x.2 why (sym (ap (judged z table) x.3) ∙ sym e ∙ g)),
        );
      }

-- ---- beside a `K` table

refusal_of : {a b : Refusal} → ◌≡◌ {A = Result Verdict Refused} (Err (declined a 1)) (Err (declined b 1)) → a ≡ b
refusal_of {a} {b} e = let same : declined a 1 ≡ declined b 1 = cc in ap (λ (x : Refused). x.refusal) same

pub kronecker-words : (s : List ℕ) (r : Result Verdict Refused) → r ≡ Err (declined (beside_kronecker s) 1) → KroneckerAnswers s r
kronecker-words s r e =
    record {
      form = ((λ h. (form-exactly s).0 (refusal_of (sym e ∙ h))), (λ g. told UnlikeListing ((form-exactly s).1 g)));
      other = ((λ h. (other-exactly s).0 (refusal_of (sym e ∙ h))), (λ none. told BrokenListing ((other-exactly s).1 none)));
      either = either (beside-either s);
    }
  where
    told : (why : Refusal) → beside_kronecker s ≡ why → r ≡ Err (declined why 1)
    told why h = e ∙ ap (λ (x : Refusal). Err (declined x 1)) h

    either : (beside_kronecker s ≡ BrokenListing) ⊎ (beside_kronecker s ≡ UnlikeListing)
        → (r ≡ Err (declined BrokenListing 1)) ⊎ (r ≡ Err (declined UnlikeListing 1))
    either (inl h) = inl (told BrokenListing h)
    either (inr h) = inr (told UnlikeListing h)

-- ---- a first line that is wrong

-- a listing whose first line is wrong is 11, line 1, beside every accepted table text
module _ (text s : List ℕ) (d : Design) (table : List ℕ) (accepted : tables.reading text ≡ tables.given d table) where
  wrong-refused : first_line (parts 10 s).first ≡ None → checked (tables.reading text) s ≡ Err (declined BrokenListing 1)
  unfolding checked judged_design judged
  wrong-refused wrong = ap (λ (x : tables.Reading). checked x s) accepted ∙ go d.kind where
    go : (x : Kind) → judged_kind d.family d.n d.m x table s ≡ Err (declined BrokenListing 1)
    go (Mixed C j) = let z : Sizes = record { n = d.n; m = d.m; class = C; k = j; family = d.family } in ap (judged z table) (wrong-read z s wrong)
    go Kronecker = ap (λ (x : Refusal). Err (declined x 1)) (wrong-beside s wrong)

  -- "a `kron` listing is 11, line 1"
  pub kron-listing-refused : KronListing s → checked (tables.reading text) s ≡ Err (declined BrokenListing 1)
  kron-listing-refused k = wrong-refused (kron-wrong s k)

  -- a listing "shows the k that was used": one with `-` for it is broken
  pub dash-listing-refused : shown_field s ≡ bytes "-" → checked (tables.reading text) s ≡ Err (declined BrokenListing 1)
  dash-listing-refused k = wrong-refused (dash-wrong s k)

-- ---- a listing is refused exactly as document 02 says

module _ (text s : List ℕ) (z : Sizes) (table : List ℕ) (accepted : tables.reading text ≡ tables.given (mixed_design z) table) where
  refusal-told : (why : Refusal) (l : ℕ) → ListingRefusal z s why l → checked (tables.reading text) s ≡ Err (declined why l)
  refusal-told why l (first none) = (first-exactly text s _ refl z table accepted).1 none
  refusal-told why l (unlike g none) = unlike-refused text s z table accepted g none
  refusal-told why l (second g same none) = second-line-refused text s z table accepted g same none
  refusal-told why l (later g bad) = reading-refused text s z table accepted _ _ (next-refused z s (accepted-sized text z table accepted) g bad)
  refusal-told why l (followed g b more h) =
      reading-refused text s z table accepted _ _ (follow-refused z s (accepted-sized text z table accepted) g b more h)
  refusal-told why l (counts g other) =
      reading-refused text s z table accepted _ _ (counts-refused z s (accepted-sized text z table accepted) g other)

  told-refusal : (why : Refusal) (l : ℕ) → checked (tables.reading text) s ≡ Err (declined why l) → ListingRefusal z s why l
  told-refusal why l e = go (listing-decided z s (accepted-sized text z table accepted)) where
    go : Passes z s ⊎ ((x : Refusal) × (y : ℕ) × ListingRefusal z s x y) → ListingRefusal z s why l
    go (inl passes) =
        let words = answers-words z table s (accepted-sized text z table accepted) _ (answer-is text s z table accepted) in
        absurd (words.refusal.1 passes (declined why l) e)
    go (inr x) =
        let told : ◌≡◌ {A = Result Verdict Refused} (Err (declined x.0 x.1)) (Err (declined why l)) = sym (refusal-told x.0 x.1 x.2) ∙ e in
        let same : declined x.0 x.1 ≡ declined why l = cc in
        subst (λ (e : Refused). ListingRefusal z s e.refusal e.line) same x.2

-- ---- every pair of byte strings

-- what an accepted text means
reads : (text : List ℕ) (d : Design) (table : List ℕ) → Means text d table → tables.reading text ≡ tables.given d table
reads text d table means = (accepted-exactly text d table).1 means

pub check-words : (text s : List ℕ) (r : Result Verdict Refused) → r ≡ checked (tables.reading text) s → Check text s r
unfolding checked judged_design
check-words text s r e =
    record {
      answer = e;
      words = λ z table means.
          let g = reads text (mixed_design z) table means in
          answers-words z table s (accepted-sized text z table g) r (e ∙ ap (λ (x : tables.Reading). checked x s) g);
      text_first = λ why line g. e ∙ ap (λ (x : tables.Reading). checked x s) g;
      text_words = text-refusals text (λ why line. r ≡ Err (declined why line)) (λ why line g. e ∙ ap (λ (x : tables.Reading). checked x s) g);
      first = λ z table means. first-exactly text s r e z table (reads text (mixed_design z) table means);
      kron = λ d table means k. e ∙ kron-listing-refused text s d table (reads text d table means) k;
      numbers = λ z table means. refused-numbers text s r e z table (reads text (mixed_design z) table means);
      refused = λ z table means why l.
          let g = reads text (mixed_design z) table means in
          ((λ h. told-refusal text s z table g why l (sym e ∙ h)), (λ h. e ∙ refusal-told text s z table g why l h));
      kronecker = λ d table means k.
          kronecker-words s r
          (e ∙ ap (λ (x : tables.Reading). checked x s) (reads text d table means) ∙ ap (λ (x : Kind). judged_kind d.family d.n d.m x table s) k);
    }

-- "the check resolves a dash like the compiler": beside any listing, a text with `-` for k has the answer of the text with what `-` means written out
pub dash-checked : (d : Design) (rest s : List ℕ) (r r' : Result Verdict Refused) → d.n < 10 → d.m < 10
    → Check (design_line d (bytes "-") ++ rest) s r
    → Check (design_line d (dash_characters d.n) ++ rest) s r' → r ≡ r'
dash-checked d rest s r r' hn hm a b = a.answer ∙ ap (λ (x : tables.Reading). checked x s) (dash-written-out d rest hn hm) ∙ sym b.answer
