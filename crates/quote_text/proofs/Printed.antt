-- What is printed has at most 21 bytes (`quotation-within`), and stands at the front of 21 bytes that were zero (`print-holds`). The numbers on its line are
-- those of the answer (`numbers-printed`), and of what `rmform` prints (`rmform-numbers`).
use mathlib.Core.List.{List, [], ◌∷◌}
use mathlib.Core.Path.{◌≡◌, refl, sym, ap, ◌∙◌}
use Prim.Native.Nat.{ℕ, ◌≤◌}
use native.Mathlib.Omega.{arith}
use lib.Dec.{lit<}
use lib.ListN.{length, take, replicate}
use Rattle.std.specs.Prelude.{Result, Ok, Err}
use Rattle.numbers.specs.declared.refusals.Refusal.{Refusal}
use Rattle.numbers.specs.declared.refusals.Refused.{Refused}
use Rattle.numbers.specs.Refusals.{number_of}
use Rattle.expansions.proofs.Rivals.{rival-counts}
use Rattle.table_texts.specs.declared.sizes.Design.{Design}
use Rattle.table_texts.specs.Inner.Reading.{Reading, given, refused, reading}
use Rattle.table_texts.specs.TableTexts.{Means}
use Rattle.table_texts.proofs.Exactness.{accepted-exactly}
use Rattle.table_texts.proofs.Length.{accepted-text-first}
use Rattle.table_texts.proofs.Refusals.{text-refusals}
use Rattle.table_texts.proofs.read.Accepted.{reading-accepted}
use Rattle.listings.specs.Parts.{bytes}
use Rattle.listings.specs.Listing.{line, decimal}
use Rattle.listings.specs.Meaning.{first_numbers, stated_products, stated_literals}
use Rattle.listings.proofs.Joined.{Plain}
use Rattle.text.specs.Judged.{judged, refused_line}
use Rattle.text.specs.Print as rmform
use Rattle.text.specs.Inner.Compiled.{answer_listing}
use Rattle.text.proofs.compile.Listings.{chosen-only, listing-within, written-refused}
use Rattle.text.proofs.print.Refusals.{line-says, line-le, refusal-said, refused-line-le}
use Rattle.writing.specs.Put.{Put}
use Rattle.writing.proofs.Fronts.{put-fronted}
use Rattle.quote_text.specs.declared.quote.Quotation.{Quotation}
use Rattle.quote_text.specs.Numbers.{listing_numbers}
use Rattle.quote_text.specs.Quote.{Quote}
use Rattle.quote_text.specs.Print.{Print}
use Rattle.quote_text.specs.QuotationLine.{quotation_line}
use Rattle.quote_text.specs.Inner.Quoted.{quoted}
use Rattle.quote_text.specs.Inner.Printed.{printed}
use Rattle.quote_text.proofs.quote.Meaning.{quote-meaning}
use Rattle.quote_text.proofs.quote.Numbers.{listing-least}

-- ---- the line

pub quotation-within : (r : Result Quotation Refused) → length (quotation_line r) ≤ 21
unfolding quotation_line bytes
quotation-within (Ok q) = line-le (bytes "quote") (q.products ∷ q.literals ∷ q.length ∷ [])
quotation-within (Err e) = omega (arith, refused-line-le e.refusal e.line)

plain-quote : Plain (bytes "quote")
unfolding bytes
plain-quote = (lit< tt, (lit< tt, (lit< tt, (lit< tt, (lit< tt, tt)))))

-- the numbers of a listing of the answer have at most four digits, and the line says them back
listing-printed : (d : Design) (table : List ℕ) (text : List ℕ) → reading text ≡ given d table → (l : List ℕ) → l ≡ answer_listing d table
    → first_numbers (quotation_line (Ok (listing_numbers l))) ≡ stated_products l ∷ stated_literals l ∷ length l ∷ []
unfolding quotation_line listing_numbers
listing-printed d table text e l same =
    let a = reading-accepted text d table e in
    let counts = rival-counts d.n _ d.kind _ _ a.sized.inputs.1 (listing-least d table a).reached in
    let long = listing-within d table a in
    line-says (bytes "quote") (stated_products l ∷ stated_literals l ∷ length l ∷ []) plain-quote
    (rw same (omega (arith, counts.0), (omega (arith, counts.1), (omega (arith, long), tt))))

-- ---- what is printed

module _ (input held : List ℕ) (count : ℕ) (shown : take count held ≡ printed input) where
  -- of an accepted text: the line of its listing's numbers
  listing-shown : (d : Design) (table : List ℕ) → reading (judged input) ≡ given d table → take count held ≡ quotation_line (Ok (listing_numbers (answer_listing d table)))
  unfolding printed quoted
  listing-shown d table e = shown ∙ ap (λ (x : Reading). quotation_line (quoted x)) e

  refused-shown : (why : Refusal) (l : ℕ) → reading (judged input) ≡ refused why l → take count held ≡ refused_line why l
  unfolding printed quoted quotation_line
  refused-shown why l e = shown ∙ ap (λ (x : Reading). quotation_line (quoted x)) e

  numbers-printed : (q : Quotation) → Quote (judged input) (Ok q)
      → (take count held ≡ line (bytes "quote") (decimal q.products ∷ decimal q.literals ∷ decimal q.length ∷ []))
      × (first_numbers (take count held) ≡ q.products ∷ q.literals ∷ q.length ∷ [])
  unfolding quoted quotation_line listing_numbers
  numbers-printed q quote = go (reading (judged input)) refl where
    go : (x : Reading) → reading (judged input) ≡ x
        → (take count held ≡ line (bytes "quote") (decimal q.products ∷ decimal q.literals ∷ decimal q.length ∷ []))
        × (first_numbers (take count held) ≡ q.products ∷ q.literals ∷ q.length ∷ [])
    go (given d table) e =
        let l = answer_listing d table in
        let same : Ok (listing_numbers l) ≡ Ok q = sym (quote.answer ∙ ap quoted e) in
        let q-is : listing_numbers l ≡ q = cc in
        let told = listing-shown d table e in
        (told ∙ ap quotation_line same, ap first_numbers told ∙ listing-printed d table (judged input) e l refl ∙ ap (λ (x : Quotation). x.products ∷ x.literals ∷ x.length ∷ []) q-is)
    go (refused why l) e = absurd (written-refused (quote.answer ∙ ap quoted e))

  rmform-numbers : (d : Design) (table : List ℕ) → Means (judged input) d table → (other : List ℕ) (long : ℕ) → rmform.Print input other long
      → first_numbers (take count held) ≡ stated_products (take long other) ∷ stated_literals (take long other) ∷ long ∷ []
  rmform-numbers d table means other long print =
      let e = (accepted-exactly (judged input) d table).1 means in
      let same : take long other ≡ answer_listing d table = chosen-only d table (take long other) means.0 (print.chosen d table means) in
      let told = ap first_numbers (listing-shown d table e) ∙ listing-printed d table (judged input) e (answer_listing d table) refl in
      let size : long ≡ length (answer_listing d table) = print.counted ∙ ap length (sym print.shown ∙ same) in
      told ∙ rw (same, size)

pub print-holds : (input text held : List ℕ) (r : Result Quotation Refused) (count : ℕ) → text ≡ judged input → Quote text r
    → Put (replicate 21 0) 0 (quotation_line r) held count → Print input held count
unfolding printed
print-holds input text held r count et q put =
    let said : r ≡ quoted (reading (judged input)) = q.answer ∙ ap (λ (x : List ℕ). quoted (reading x)) et in
    let line : quotation_line r ≡ printed input = ap quotation_line said in
    let front = put-fronted 21 (printed input) held count (quotation-within (quoted (reading (judged input)))) (rw line at put) in
    record {
      counted = front.counted;
      filled = front.filled;
      within = front.within;
      shown = front.shown;
      meaning = (r, front.shown ∙ sym line, quote-meaning (judged input) r (reading (judged input)) refl said);
      quotation = numbers-printed input held count front.shown;
      compiling = rmform-numbers input held count front.shown;
      refusals = text-refusals (judged input) (λ why l. (take count held ≡ refused_line why l) × (first_numbers (take count held) ≡ number_of why ∷ l ∷ []))
          (λ why l e. let told = refused-shown input held count front.shown why l e in (told, ap first_numbers told ∙ refusal-said input why l e));
      whole = λ d table means. accepted-text-first input d table ((accepted-exactly input d table).1 means);
    }
