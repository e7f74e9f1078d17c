-- A quotation beside the text call: an accepted text has the numbers of what is written for it (`given-compiling`), a refused one the same refusal
-- (`quote-refused`); all of it is `quote-meaning`.
use mathlib.Core.Path.{◌≡◌, sym, ap, subst, ◌∙◌}
use mathlib.Core.List.{List}
use Prim.Native.Nat.{ℕ, ◌≤◌, ◌<◌}
use native.Mathlib.Decide.{dec_le}
use native.Mathlib.Omega.{arith}
use lib.ListN.{length, take, drop}
use lib.Seq.{take-append_seam}
use Rattle.std.specs.Prelude.{Result, Ok, Err}
use Rattle.numbers.specs.declared.refusals.Refusal.{Refusal}
use Rattle.numbers.specs.declared.refusals.Refusal.TheVariants.{BufferLength, OutputRoom}
use Rattle.numbers.specs.declared.refusals.Refused.{Refused}
use Rattle.numbers.specs.Bytes.{at}
use Rattle.numbers.specs.Refusals.{number_of, declined}
use Rattle.expansions.specs.Rivals.{LeastCost}
use Rattle.table_texts.specs.declared.sizes.Design.{Design}
use Rattle.table_texts.specs.Inner.Reading.{Reading, given, refused, reading}
use Rattle.table_texts.specs.TableTexts.{Means}
use Rattle.table_texts.proofs.Exactness.{accepted-exactly}
use Rattle.table_texts.proofs.read.Accepted.{no-refusal}
use Rattle.table_texts.proofs.Refusals.{text-refusals}
use Rattle.table_texts.proofs.RefusalBounds.{reading-refused}
use Rattle.listings.specs.Meaning.{stated_products, stated_literals}
use Rattle.text.specs.Compile.{Compile}
use Rattle.text.specs.Inner.Compiled.{answer_listing, compiled}
use Rattle.text.proofs.compile.Listings.{answer-chosen, chosen-only, written-refused}
use Rattle.quote_text.specs.declared.quote.Quotation.{Quotation}
use Rattle.quote_text.specs.Numbers.{listing_numbers}
use Rattle.quote_text.specs.Quote.{Compiling, Quote}
use Rattle.quote_text.specs.Inner.Quoted.{quoted}
use Rattle.quote_text.proofs.quote.Numbers.{listing-least}

given-is : {p q : Quotation} → ◌≡◌ {A = Result Quotation Refused} (Ok p) (Ok q) → p ≡ q
given-is e = cc

-- ---- an accepted text

module _ (text : List ℕ) (d : Design) (table : List ℕ) (means : Means text d table) where
  listed : List ℕ
  listed = answer_listing d table

  -- what the text call answers and leaves, by the length of the listing
  given-enough : (before after : List ℕ) (c : Result ℕ Refused) → Compile text before after c → length listed ≤ length before
      → (c ≡ Ok (length listed)) × (take (length listed) after ≡ listed)
  unfolding listed
  given-enough before after c done h =
      let chosen = done.chosen d table means in
      let same : chosen.listing ≡ answer_listing d table = chosen-only d table chosen.listing means.0 chosen.first in
      let enough = chosen.enough (rw same h) in
      (enough.0 ∙ ap (λ (x : List ℕ). Ok (length x)) same, rw (enough.1, same) (take-append_seam (answer_listing d table) (drop (length (answer_listing d table)) before)))

  given-short : (before after : List ℕ) (c : Result ℕ Refused) → Compile text before after c → length before < length listed
      → c ≡ Err (declined OutputRoom 0)
  unfolding listed
  given-short before after c done h =
      let chosen = done.chosen d table means in
      let same : chosen.listing ≡ answer_listing d table = chosen-only d table chosen.listing means.0 chosen.first in
      chosen.short (rw same h)

  given-compiling : (q : Quotation) → listing_numbers listed ≡ q → (before after : List ℕ) (c : Result ℕ Refused)
      → Compile text before after c → Compiling q before after c
  unfolding listing_numbers
  given-compiling q same before after c done =
      let long-is : length listed ≡ q.length = ap (λ (x : Quotation). x.length) same in
      let products-is : stated_products listed ≡ q.products = ap (λ (x : Quotation). x.products) same in
      let literals-is : stated_literals listed ≡ q.literals = ap (λ (x : Quotation). x.literals) same in
      record {
        enough = λ h.
            let found = given-enough before after c done (rw long-is h) in
            let whole : take q.length after ≡ listed = rw long-is at found.1 in
            (found.0 ∙ ap Ok long-is, ap stated_products whole ∙ products-is, ap stated_literals whole ∙ literals-is);
        short = λ h. given-short before after c done (rw long-is h);
      }

  -- the text call refuses it for its room alone
  given-room : (before after : List ℕ) (c : Result ℕ Refused) (e : Refused) → Compile text before after c → c ≡ Err e → e.refusal ≡ OutputRoom
  given-room before after c e done h = go (dec_le (length listed) (length before)) where
    go : Dec (length listed ≤ length before) → e.refusal ≡ OutputRoom
    go (yes enough) = absurd (written-refused (sym (given-enough before after c done enough).0 ∙ h))
    go (no less) =
        let same : Err e ≡ Err (declined OutputRoom 0) = sym h ∙ given-short before after c done (omega (arith, less)) in
        let is : e ≡ declined OutputRoom 0 = cc in
        ap (λ (x : Refused). x.refusal) is

-- ---- the quotation

quote-given : (text : List ℕ) (d : Design) (table : List ℕ) → reading text ≡ given d table → Quote text (Ok (listing_numbers (answer_listing d table)))
unfolding quoted listing_numbers listed
quote-given text d table read =
    let means = (accepted-exactly text d table).0 read in
    let same : (d' : Design) (table' : List ℕ) → Means text d' table' → given d table ≡ given d' table' =
    λ d' table' m. sym read ∙ (accepted-exactly text d' table').1 m in
    record {
      answer = ap quoted (sym read);
      chosen = λ d' table' m.
          record { listing = answer_listing d' table'; first = answer-chosen d' table' m.0; numbers = ap quoted (same d' table' m) };
      least = λ d' table' m q e.
          let e' : ◌≡◌ {A = Result Quotation Refused} (Ok (listing_numbers (answer_listing d' table'))) (Ok q) = ap quoted (sym (same d' table' m)) ∙ e in
          subst (λ (x : Quotation). LeastCost d'.n d'.family d'.kind (at table') x.products x.literals) (given-is e') (listing-least d' table' m.0);
      compiling = λ q e before after c done. given-compiling text d table means q (given-is e) before after c done;
      refusals = text-refusals text (λ why line. Ok (listing_numbers (answer_listing d table)) ≡ Err (declined why line)) (λ why line e. ap quoted (sym read ∙ e));
      alike = λ before after c done e.
          (λ h. absurd (written-refused h), λ h. absurd (h.1 (given-room text d table means before after c e done h.0)));
      room = λ line. (λ e. written-refused e, λ e. written-refused e);
    }

quote-refused : (text : List ℕ) (why : Refusal) (line : ℕ) → reading text ≡ refused why line → Quote text (Err (declined why line))
unfolding quoted compiled
quote-refused text why line read =
    let bounds = reading-refused text why line read in
    let given-not : (d : Design) (table : List ℕ) → Means text d table → ⊥ =
    λ d table m. no-refusal (sym read ∙ (accepted-exactly text d table).1 m) in
    let there : (before after : List ℕ) (c : Result ℕ Refused) → Compile text before after c → c ≡ Err (declined why line) =
    λ before after c done. done.answer ∙ ap (λ (x : Reading). compiled x (length before)) read in
    -- the numbers of two refusals that are one
    let number : (e : Refused) → ◌≡◌ {A = Result Quotation Refused} (Err (declined why line)) (Err e) → number_of why ≡ number_of e.refusal =
    λ e h. let same : declined why line ≡ e = cc in ap (λ (x : Refused). number_of x.refusal) same in
    record {
      answer = ap quoted (sym read);
      chosen = λ d table m. absurd (given-not d table m);
      least = λ d table m q e. absurd (given-not d table m);
      compiling = λ q e. absurd (written-refused (sym e));
      refusals = text-refusals text (λ w l. Err (declined why line) ≡ Err (declined w l)) (λ w l e. ap quoted (sym read ∙ e));
      alike = λ before after c done e. (
        λ h.
            let same : declined why line ≡ e = cc in
            (there before after c done ∙ ap Err same, λ room. omega (arith, number e h, ap number_of room, bounds.0.1)),
        λ h.
            let same : declined why line ≡ e = cc (there before after c done, h.0) in
            ap Err same,
      );
      room = λ l. (
        λ e. omega (arith, number (declined BufferLength l) e, bounds.0.1),
        λ e. omega (arith, number (declined OutputRoom l) e, bounds.0.1),
      );
    }

pub quote-meaning : (text : List ℕ) (r : Result Quotation Refused) (x : Reading) → reading text ≡ x → r ≡ quoted x → Quote text r
unfolding quoted
quote-meaning text r (given d table) read e = subst (Quote text) (sym e) (quote-given text d table read)
quote-meaning text r (refused why line) read e = subst (Quote text) (sym e) (quote-refused text why line read)
