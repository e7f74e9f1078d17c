-- What is printed has at most 18 bytes (`answer-within`), and stands at the front of 18 bytes that were zero (`print-holds`). The numbers on its line are those of
-- the answer (`refusal-printed`, `point-printed`).
use mathlib.Core.List.{List, [], ◌∷◌}
use mathlib.Core.Logic.{◌⊎◌, inl, inr}
use mathlib.Core.Path.{◌≡◌, refl, sym, ap, ◌∙◌}
use Prim.Native.Nat.{ℕ, ◌+◌, ◌≤◌, ◌<◌}
use native.Mathlib.Omega.{arith}
use lib.Dec.{lit≤, lit<}
use lib.ListN.{length, replicate, length-take}
use Rattle.std.specs.Prelude.{Result, Ok, Err}
use Rattle.numbers.specs.declared.refusals.Refusal.{Refusal}
use Rattle.numbers.specs.declared.refusals.Refusal.TheVariants.{BrokenLine, InputCount, OutputCount, MixedCount, PointOrder, TextEnd, PolarityRange, BufferLength, HighBit, OutputRoom, BrokenListing, UnlikeListing}
use Rattle.numbers.specs.declared.refusals.Refused.{Refused}
use Rattle.numbers.specs.Refusals.{number_of, declined}
use Rattle.numbers.proofs.Shifts.{points-le}
use Rattle.listings.specs.Parts.{bytes}
use Rattle.listings.specs.Listing.{line, tabbed, decimal}
use Rattle.listings.specs.Meaning.{first_numbers}
use Rattle.listings.proofs.Joined.{Plain}
use Rattle.expansions.specs.declared.kinds.Kind.{Kind}
use Rattle.expansions.specs.declared.kinds.Kind.TheVariants.{Mixed, Kronecker}
use Rattle.table_texts.specs.declared.sizes.Sizes.{Sizes}
use Rattle.table_texts.specs.declared.sizes.Design.{Design}
use Rattle.table_texts.specs.Design.{mixed_design}
use Rattle.table_texts.specs.Inner.Reading.{Reading, given, refused, reading}
use Rattle.table_texts.proofs.Design.{mixed-design}
use Rattle.table_texts.proofs.Length.{accepted-text-first}
use Rattle.listing_texts.specs.Read.{beside_kronecker}
use Rattle.listing_texts.proofs.BesideKronecker.{beside_first}
use Rattle.listing_texts.proofs.Length.{passes-first}
use Rattle.text.specs.Judged.{judged, refused_line}
use Rattle.table_texts.proofs.RefusalBounds.{reading-refused}
use Rattle.table_texts.proofs.Exactness.{accepted-exactly}
use Rattle.text.proofs.print.Refusals.{line-says, line-le, refused-line-says, refused-line-le}
use Rattle.writing.specs.Put.{Put}
use Rattle.writing.proofs.Fronts.{put-fronted}
use Rattle.fitter.specs.declared.check.Verdict.{Verdict}
use Rattle.fitter.specs.declared.check.Verdict.TheVariants.{Same, Differs, NotOfClass}
use Rattle.fitter.specs.Check.{Check}
use Rattle.fitter.specs.Inner.Answer.{judged_kind, judged_design, checked}
use Rattle.fitter.specs.Print.{Print}
use Rattle.fitter.specs.AnswerLine.{answer_line}
use Rattle.fitter.specs.Inner.Printed.{printed}
use Rattle.fitter.proofs.Refusals.{accepted-sized, refused-numbers}
use Rattle.fitter.proofs.Answers.{answers-words, check-words}

pub answer-within : (a : Result Verdict Refused) → length (answer_line a) ≤ 18
unfolding answer_line line tabbed bytes
answer-within (Ok Same) = lit≤ tt
answer-within (Ok (Differs p)) = omega (arith, line-le (bytes "differs") (p ∷ []))
answer-within (Ok NotOfClass) = lit≤ tt
answer-within (Err e) = refused-line-le e.refusal e.line

-- ---- the numbers on the line

-- a refusal's number is at most 12
number-le : (why : Refusal) → number_of why ≤ 12
number-le BrokenLine = lit≤ tt
number-le InputCount = lit≤ tt
number-le OutputCount = lit≤ tt
number-le MixedCount = lit≤ tt
number-le PointOrder = lit≤ tt
number-le TextEnd = lit≤ tt
number-le PolarityRange = lit≤ tt
number-le BufferLength = lit≤ tt
number-le HighBit = lit≤ tt
number-le OutputRoom = lit≤ tt
number-le BrokenListing = lit≤ tt
number-le UnlikeListing = lit≤ tt

-- its line is at most one after the last of the text or of the listing
line-small : (text s : List ℕ) (e : Refused) → checked (reading text) s ≡ Err e → (e.line ≤ length text + 1) ⊎ (e.line ≤ length s + 1)
unfolding checked judged_design
line-small text s e h = go (reading text) refl h where
  by_kind : (d : Design) (table : List ℕ) → reading text ≡ given d table → (x : Kind) → d.kind ≡ x → judged_kind d.family d.n d.m x table s ≡ Err e
      → (e.line ≤ length text + 1) ⊎ (e.line ≤ length s + 1)
  by_kind d table g (Mixed C k) is f =
      let z : Sizes = record { n = d.n; m = d.m; class = C; k = k; family = d.family } in
      told (refused-numbers text s (Err e) (sym h) z table (g ∙ ap (λ (y : Design). given y table) (mixed-design d C k is)) e refl) where
        told : ((e.refusal ≡ BrokenListing) × (1 ≤ e.line) × (e.line ≤ 1 + length s)) ⊎ ((e.refusal ≡ UnlikeListing) × (e.line ≡ 1))
            → (e.line ≤ length text + 1) ⊎ (e.line ≤ length s + 1)
        told (inl x) = inr (omega (arith, x.2))
        told (inr x) = inr (omega (arith, x.1))
  by_kind d table g Kronecker is f =
      let same : declined (beside_kronecker s) 1 ≡ e = cc in
      inr (omega (arith, ap (λ (x : Refused). x.line) same))

  go : (x : Reading) → reading text ≡ x → checked x s ≡ Err e → (e.line ≤ length text + 1) ⊎ (e.line ≤ length s + 1)
  go (given d table) g f = by_kind d table g d.kind refl f
  go (refused why l) g f =
      let same : declined why l ≡ e = cc in
      inl (omega (arith, (reading-refused text why l g).1.1, ap (λ (x : Refused). x.line) same))

-- the point that is told is a point of at most 8 inputs
differs-small : (text s : List ℕ) (p : ℕ) → checked (reading text) s ≡ Ok (Differs p) → p < 256
unfolding checked judged_design
differs-small text s p e = go (reading text) refl e where
  go : (x : Reading) → reading text ≡ x → checked x s ≡ Ok (Differs p) → p < 256
  go (given d table) g f = by_kind d.kind refl f where
    by_kind : (x : Kind) → d.kind ≡ x → judged_kind d.family d.n d.m x table s ≡ Ok (Differs p) → p < 256
    by_kind (Mixed C k) h f =
        let z : Sizes = record { n = d.n; m = d.m; class = C; k = k; family = d.family } in
        let accepted = g ∙ ap (λ (y : Design). given y table) (mixed-design d C k h) in
        let sized = accepted-sized text z table accepted in
        let told = ((answers-words z table s sized (Ok (Differs p)) (sym f)).differs p).0 refl in
        omega (arith, told.2.point, points-le z.n sized.inputs.1)
    by_kind Kronecker h f = cc
  go (refused a b) g f = cc

plain-differs : Plain (bytes "differs")
unfolding bytes
plain-differs = (lit< tt, (lit< tt, (lit< tt, (lit< tt, (lit< tt, (lit< tt, (lit< tt, tt)))))))

judged-le : (input : List ℕ) → length (judged input) ≤ 8192
judged-le input = omega (arith, length-take 8192 input)

refusal-printed : (text listing : List ℕ) (e : Refused) → checked (reading (judged text)) (judged listing) ≡ Err e
    → first_numbers (answer_line (Err e)) ≡ number_of e.refusal ∷ e.line ∷ []
unfolding answer_line
refusal-printed text listing e h = go (line-small (judged text) (judged listing) e h) where
  go : (e.line ≤ length (judged text) + 1) ⊎ (e.line ≤ length (judged listing) + 1)
      → first_numbers (refused_line e.refusal e.line) ≡ number_of e.refusal ∷ e.line ∷ []
  go (inl g) = refused-line-says e.refusal e.line (omega (arith, number-le e.refusal)) (omega (arith, judged-le text))
  go (inr g) = refused-line-says e.refusal e.line (omega (arith, number-le e.refusal)) (omega (arith, judged-le listing))

point-printed : (text listing : List ℕ) (p : ℕ) → checked (reading (judged text)) (judged listing) ≡ Ok (Differs p)
    → first_numbers (answer_line (Ok (Differs p))) ≡ p ∷ []
unfolding answer_line
point-printed text listing p e = line-says (bytes "differs") (p ∷ []) plain-differs (omega (arith, differs-small (judged text) (judged listing) p e), tt)

same-printed : answer_line (Ok Same) ≡ line (bytes "same") []
unfolding answer_line
same-printed = refl

class-printed : answer_line (Ok NotOfClass) ≡ line (bytes "not of the class") []
unfolding answer_line
class-printed = refl

point-line : (p : ℕ) → answer_line (Ok (Differs p)) ≡ line (bytes "differs") (decimal p ∷ [])
unfolding answer_line
point-line p = refl

refusal-line : (e : Refused) → answer_line (Err e) ≡ line (bytes "refused") (decimal (number_of e.refusal) ∷ decimal e.line ∷ [])
unfolding answer_line refused_line
refusal-line e = refl

-- ---- what is printed

-- beside a `K` table the refusal of the first 8,192 bytes is the refusal of the listing
first-refused : (text listing : List ℕ) (d : Design) (table : List ℕ) → reading text ≡ given d table → d.kind ≡ Kronecker
    → checked (reading (judged text)) (judged listing) ≡ checked (reading text) listing
unfolding checked judged_design
first-refused text listing d table e k = rw (accepted-text-first text d table e, e, k, beside_first listing)

pub print-holds : (text listing texts listings held : List ℕ) (r : Result Verdict Refused) (count : ℕ) → texts ≡ judged text
    → listings ≡ judged listing
    → Check texts listings r → Put (replicate 18 0) 0 (answer_line r) held count → Print text listing held count
unfolding printed
print-holds text listing texts listings held r count et el c put =
    let said : r ≡ checked (reading (judged text)) (judged listing) = c.answer ∙ rw (et, el) in
    let line : answer_line r ≡ printed text listing = ap answer_line said in
    let within : length (printed text listing) ≤ 18 = answer-within (checked (reading (judged text)) (judged listing)) in
    let front = put-fronted 18 (printed text listing) held count within (rw line at put) in
    let shown = front.shown in
    record {
      counted = front.counted;
      filled = front.filled;
      within = front.within;
      shown = shown;
      whole = λ z table means passes.
          let e = (accepted-exactly text (mixed_design z) table).1 means in
          (accepted-text-first text (mixed_design z) table e, passes-first z listing (accepted-sized text z table e) passes);
      whole_kronecker = λ d table means k r told.
          shown ∙ ap answer_line (first-refused text listing d table ((accepted-exactly text d table).1 means) k ∙ sym told.answer);
      meaning = (r, shown ∙ sym line, check-words (judged text) (judged listing) r said);
      same = λ d. shown ∙ ap answer_line (sym d.answer) ∙ same-printed;
      not_of_class = λ d. shown ∙ ap answer_line (sym d.answer) ∙ class-printed;
      point = λ p d.
          let told = shown ∙ ap answer_line (sym d.answer) in
          (told ∙ point-line p, ap first_numbers told ∙ point-printed text listing p (sym d.answer));
      refusal = λ e d.
          let told = shown ∙ ap answer_line (sym d.answer) in
          (told ∙ refusal-line e, ap first_numbers told ∙ refusal-printed text listing e (sym d.answer));
    }
