-- Demand 3 of the bytes that the text call writes: the listing of the answer is what `IsListing` says (`answer-listing`), and the text call
-- leaves it at the front of the buffer (`compile-meaning`).
use mathlib.Core.Path.{◌≡◌, refl, sym, ap, ap₂, subst, ◌∙◌}
use mathlib.Core.Bool.{Bool, true, false, cond, false≢true}
use mathlib.Core.List.{List, ◌++◌}
use Prim.Native.Nat.{ℕ, ◌≤◌}
use native.Mathlib.Omega.{arith}
use borrow.Author.Tests.{le-leb, lt-leb}
use lib.Dec.{leb}
use lib.ListN.{length, take, drop}
use lib.Seq.{take-append_seam}
use Rattle.std.specs.Prelude.{Result, Ok, Err, is_ok}
use Rattle.numbers.specs.Bytes.{at}
use Rattle.numbers.specs.declared.refusals.Refusal.TheVariants.{OutputRoom}
use Rattle.numbers.specs.declared.refusals.Refused.{Refused}
use Rattle.numbers.specs.Refusals.{number_of, declined}
use Rattle.search.specs.Inner.Answer.{answer_expansion}
use Rattle.kronecker.specs.Inner.Answer.{answer_kronecker}
use Rattle.search.proofs.expansion.Answer.{answer_expansion-is, expansion-coefficients-lt, expansion-inverted-lt}
use Rattle.expansions.specs.declared.families.Family.{Family}
use Rattle.expansions.specs.declared.families.Family.TheVariants.{One, Two}
use Rattle.expansions.specs.declared.kinds.Kind.{Kind}
use Rattle.expansions.specs.declared.kinds.Kind.TheVariants.{Mixed, Kronecker}
use Rattle.kronecker.proofs.expansion.Answer.{answer_kronecker-is, answer_kronecker-literals-le, kronecker-coefficients-lt}
use Rattle.table_texts.specs.declared.sizes.Design.{Design}
use Rattle.table_texts.specs.Design.{KindSized, KindFor}
use Rattle.table_texts.specs.Accepted.{Accepted}
use Rattle.table_texts.specs.Inner.Reading.{Reading, given, refused, reading, stands_for}
use Rattle.text.specs.Compile.{Chosen, Compile}
use Rattle.text.specs.Inner.Compiled.{kind_listing, answer_listing, compiled, buffer_after}
use Rattle.listings.specs.Meaning.{IsListing}
use Rattle.listings.specs.Listing.{form_fields, listing_with, listing}
use Rattle.listings.specs.Kronecker.{kronecker_listing}
use Rattle.listings.specs.AnswerListing.{IsAnswerListing, mixed, kronecker}
use Rattle.expansions.specs.Members.{polarity}
use Rattle.expansions.proofs.Classes.{most-three}
use Rattle.expansions.proofs.ClassAnswers.{class-answer-from}
use Rattle.table_texts.proofs.Design.{table-sized}
use Rattle.table_answers.proofs.Searched.{table-bytes}
use Rattle.table_texts.proofs.read.Accepted.{reading-accepted, reads-refused}
use Rattle.table_texts.proofs.Refusals.{text-refusals}
use Rattle.table_texts.proofs.RefusalBounds.{reading-refused}
use Rattle.listings.proofs.ListedAnswers.{answer-listed}
use Rattle.listings.proofs.Kronecker.{kronecker-listed, kronecker-longest}
use Rattle.listings.proofs.AnswerListings.{answer-listings-same}
use Rattle.listings.proofs.Lengths.{length-form_word, length-mixed_mark}
use Rattle.listings.proofs.Longest.{answer-longest}
use Rattle.table_texts.proofs.Exactness.{accepted-exactly}

-- ---- the listing of the answer

pub answer-listing : (d : Design) (table : List ℕ) → Accepted d table → IsListing d.n d.family d.kind (at table) (answer_listing d table)
unfolding answer_listing
answer-listing d table a = go d.family d.kind a.sized.mixed a.sized.family where
  go : (F : Family) (x : Kind) → KindSized d.n x → KindFor F x → IsListing d.n F x (at table) (kind_listing F d.n d.m x table)
  go F (Mixed C k) s _ =
      let minimal = answer_expansion-is C F d.n k (at table) a.sized.inputs.1 s.1 (table-bytes d.n d.m table (table-sized d a.sized) a.table) in
      let mask = expansion-inverted-lt C F d.n k (at table) a.sized.inputs.1 d.m s.1 (λ p h. a.table.small p) in
      let small = expansion-coefficients-lt C F d.n k (at table) a.sized.inputs.1 d.m s.1 (λ p h. a.table.small p) in
      answer-listed C F d.n d.m k (answer_expansion C F d.n k (at table)) (at table) a.sized.inputs.1 a.sized.outputs.1 s.0 minimal mask
      (λ t l. small t)
  go One Kronecker s _ =
      let minimal = answer_kronecker-is d.n (at table) a.sized.inputs.1 in
      let small = kronecker-coefficients-lt d.n (at table) a.sized.inputs.1 d.m (λ p h. a.table.small p) in
      kronecker-listed d.n d.m (at table) _ _ _ _ a.sized.inputs.1 minimal
      (omega (arith, answer_kronecker-literals-le d.n (at table) a.sized.inputs.1)) (λ t h. small t)
  go Two Kronecker s none = absurd none

-- and it is that of the answer in the documents' words
pub answer-chosen : (d : Design) (table : List ℕ) → Accepted d table → IsAnswerListing d.n d.m d.family (at table) (answer_listing d table) d.kind
unfolding answer_listing listing
answer-chosen d table a = go d.family d.kind a.sized.mixed a.sized.family where
  go : (F : Family) (x : Kind) → KindSized d.n x → KindFor F x → IsAnswerListing d.n d.m F (at table) (kind_listing F d.n d.m x table) x
  go F (Mixed C k) s _ =
      let minimal = answer_expansion-is C F d.n k (at table) a.sized.inputs.1 s.1 (table-bytes d.n d.m table (table-sized d a.sized) a.table) in
      let e = answer_expansion C F d.n k (at table) in
      let w = polarity C d.n k e.mixed e.fixed (at e.blocks) in
      let c = at e.coefficients in
      mixed C k e.inverted e.mixed e.fixed w c (class-answer-from C F d.n k (at table) _ _ _ _ c s.0 minimal.answer)
      (ap₂ (λ (p l : ℕ). listing_with F (form_fields C d.n d.m k e.mixed e.fixed p l) e.inverted d.n d.m w c)
      minimal.products_counted minimal.literals_counted)
  go One Kronecker s _ =
      let minimal = answer_kronecker-is d.n (at table) a.sized.inputs.1 in
      let e = answer_kronecker d.n (at table) in
      kronecker (at e.letters) (at e.coefficients) minimal.answer
      (ap₂ (λ (p l : ℕ). kronecker_listing d.n d.m (at e.letters) (at e.coefficients) p l) minimal.products_counted minimal.literals_counted)
  go Two Kronecker s none = absurd none

-- the only one: so the function that finds the answer adds nothing to the documents' words
pub chosen-only : (d : Design) (table l : List ℕ) → Accepted d table → IsAnswerListing d.n d.m d.family (at table) l d.kind → l ≡ answer_listing d table
chosen-only d table l a first = answer-listings-same d.n d.m d.family (at table) d.kind l (answer_listing d table) first (answer-chosen d table a)

-- ---- how long it is

pub listing-within : (d : Design) (table : List ℕ) → Accepted d table → length (answer_listing d table) ≤ 5919
unfolding answer_listing
listing-within d table a = go d.kind a.sized.mixed where
  go : (x : Kind) → KindSized d.n x → length (kind_listing d.family d.n d.m x table) ≤ 5919
  go (Mixed C k) s =
      let e = answer_expansion C d.family d.n k (at table) in
      let bytes = table-bytes d.n d.m table (table-sized d a.sized) a.table in
      let minimal = answer_expansion-is C d.family d.n k (at table) a.sized.inputs.1 s.1 bytes in
      let few : k ≤ 3 = omega (arith, s.0, most-three C) in
      let most = answer-longest C d.family d.n d.m k e (at table) a.sized.inputs.1 a.sized.outputs.1 few s.1 bytes minimal in
      omega (arith, most, length-form_word d.family, length-mixed_mark C)
  go Kronecker s =
      kronecker-longest d.n d.m _ _ _ _ a.sized.inputs.1 a.sized.outputs.1
      (answer_kronecker-is d.n (at table) a.sized.inputs.1).products_counted

-- ---- the text call

pub written-refused : {A : Type 0} {w : A} {e : Refused} → Ok w ≡ Err e → ⊥
written-refused e = false≢true (ap is_ok (sym e))

-- where the text is accepted: what it wrote is the listing, and it stands at the front of the buffer
pub written-listing : (z : Design) (table before after : List ℕ) (written : ℕ) → Ok written ≡ compiled (given z table) (length before)
    → after ≡ buffer_after (given z table) before → take written after ≡ answer_listing z table
unfolding compiled buffer_after
written-listing z table before after written ew ea = go (leb (length (answer_listing z table)) (length before)) ew ea
  where
    l : List ℕ
    l = answer_listing z table

    go : (b : Bool) → Ok written ≡ cond b (Ok (length l)) (Err (declined OutputRoom 0)) → after ≡ cond b (l ++ drop (length l) before) before → take written after ≡ l
    go true ew ea = let same : written ≡ length l = cc in rw (same, ea) (take-append_seam l (drop (length l) before))
    go false ew ea = absurd (written-refused ew)

-- an accepted text: what is answered and left, by the length of the listing
given-chosen : (d : Design) (table before after : List ℕ) (r : Result ℕ Refused) → Accepted d table → r ≡ compiled (given d table) (length before)
    → after ≡ buffer_after (given d table) before → Chosen d table before after r
unfolding compiled buffer_after
given-chosen d table before after r a er ea =
    let l = answer_listing d table in
    record {
      listing = l;
      first = answer-chosen d table a;
      enough = λ h. (er ∙ rw (le-leb (length l) (length before) h), ea ∙ rw (le-leb (length l) (length before) h));
      short = λ h. er ∙ rw (lt-leb (length l) (length before) h);
    }

-- a buffer that holds every listing is not short, and no text is refused by 10
given-room : (text : List ℕ) (room line : ℕ) → 5919 ≤ room → compiled (reading text) room ≡ Err (declined OutputRoom line) → ⊥
unfolding compiled
given-room text room line long e = go (reading text) refl e where
  go : (x : Reading) → reading text ≡ x → compiled x room ≡ Err (declined OutputRoom line) → ⊥
  go (given d table) g e =
      let fits = le-leb (length (answer_listing d table)) room (omega (arith, listing-within d table (reading-accepted text d table g))) in
      written-refused (rw fits at e)
  go (refused why l) g e =
      let same : declined why l ≡ declined OutputRoom line = cc in
      absurd (omega (arith, ap (λ (x : Refused). number_of x.refusal) same, (reading-refused text why l g).0.1))

-- a refusal leaves the buffer as it was
refused-kept : (x : Reading) (before : List ℕ) (e : Refused) → compiled x (length before) ≡ Err e → buffer_after x before ≡ before
unfolding compiled buffer_after
refused-kept (given d table) before e h = go (leb (length (answer_listing d table)) (length before)) h where
  l : List ℕ
  l = answer_listing d table

  go : (b : Bool) → cond b (Ok (length l)) (Err (declined OutputRoom 0)) ≡ Err e → cond b (l ++ drop (length l) before) before ≡ before
  go true h = absurd (written-refused h)
  go false h = refl
refused-kept (refused why line) before e h = refl

pub compile-meaning : (text before after : List ℕ) (r : Result ℕ Refused) → r ≡ compiled (reading text) (length before) → after ≡ buffer_after (reading text) before
    → Compile text before after r
unfolding compiled
compile-meaning text before after r er ea =
    record {
      answer = er;
      bytes = ea;
      refusals = text-refusals text (λ why line. r ≡ Err (declined why line))
          (λ why line e. er ∙ ap (λ (x : Reading). compiled x (length before)) e);
      chosen = λ d table means.
          let e = (accepted-exactly text d table).1 means in
          given-chosen d table before after r means.0 (er ∙ ap (λ (x : Reading). compiled x (length before)) e) (ea ∙ ap (λ (x : Reading). buffer_after x before) e);
      meaning = λ d table means written w.
          let e = (accepted-exactly text d table).1 means in
          let listed = written-listing d table before after written (sym w ∙ er ∙ ap (λ (x : Reading). compiled x (length before)) e) (ea ∙ ap (λ (x : Reading). buffer_after x before) e) in
          subst (IsListing d.n d.family d.kind (at table)) (sym listed) (answer-listing d table means.0);
      room = λ h line e. given-room text (length before) line h (sym er ∙ e);
      kept = λ e h. ea ∙ refused-kept (reading text) before e (sym er ∙ h);
    }

-- what a text means, and demand 3 of what is written for it
pub compile-listed : (text before after : List ℕ) (written : ℕ) (d : Design) (table : List ℕ) → Compile text before after (Ok written)
    → reading text ≡ given d table → IsListing d.n d.family d.kind (at table) (take written after)
compile-listed text before after written d table c e = c.meaning d table ((accepted-exactly text d table).0 e) written refl

-- by the reading call's answer

pub compile-given : (text table before after : List ℕ) (z : Design) (r : Result ℕ Refused) → reading text ≡ given z table
    → r ≡ compiled (given z table) (length before) → after ≡ buffer_after (given z table) before → Compile text before after r
compile-given text table before after z r e er ea =
    compile-meaning text before after r (er ∙ ap (λ (x : Reading). compiled x (length before)) (sym e)) (ea ∙ ap (λ (x : Reading). buffer_after x before) (sym e))

pub compile-refused : (text table before : List ℕ) (r : Result Design Refused) (e : Refused) → r ≡ Err e → stands_for r table ≡ reading text
    → Compile text before before (Err e)
unfolding compiled buffer_after
compile-refused text table before r e h s =
    let read = reads-refused r table e (reading text) h s in
    compile-meaning text before before (Err e) (ap (λ (x : Reading). compiled x (length before)) (sym read)) (ap (λ (x : Reading). buffer_after x before) (sym read))
