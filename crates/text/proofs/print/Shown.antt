-- What is printed fits 5,919 bytes (`printed-within`), and stands at their front: after the text call, where it wrote a listing
-- (`print-written`), and after the line `refused` was written, where it refused the text (`print-refused`).
use mathlib.Core.Bool.{Bool, true, false, cond}
use mathlib.Core.List.{List, [], ◌∷◌, ◌++◌}
use mathlib.Core.Path.{◌≡◌, refl, sym, ap, subst, ◌∙◌}
use Prim.Native.Nat.{ℕ, ◌≤◌}
use native.Mathlib.Omega.{arith}
use borrow.Author.Tests.{le-leb}
use lib.Dec.{leb}
use lib.ListN.{length, take, drop, replicate, length-replicate}
use Rattle.std.specs.Prelude.{Result, Ok, Err}
use Rattle.numbers.specs.Bytes.{at}
use Rattle.numbers.specs.declared.refusals.Refusal.TheVariants.{OutputRoom}
use Rattle.numbers.specs.declared.refusals.Refused.{Refused}
use Rattle.numbers.specs.Refusals.{number_of, declined}
use Rattle.table_texts.specs.declared.sizes.Design.{Design}
use Rattle.table_texts.specs.TableTexts.{Means}
use Rattle.table_texts.specs.Inner.Reading.{Reading, given, refused, reading}
use Rattle.writing.specs.Put.{Put}
use Rattle.listings.specs.Meaning.{first_numbers, IsListing}
use Rattle.listings.specs.AnswerListing.{IsAnswerListing}
use Rattle.text.specs.Compile.{Compile}
use Rattle.text.specs.Inner.Compiled.{answer_listing, compiled, buffer_after}
use Rattle.text.specs.Print.{Print}
use Rattle.text.specs.Judged.{judged, refused_line}
use Rattle.text.specs.Inner.Printed.{printed_for, printed}
use Rattle.table_texts.proofs.read.Accepted.{reading-accepted}
use Rattle.table_texts.proofs.Refusals.{text-refusals}
use Rattle.table_texts.proofs.Exactness.{accepted-exactly}
use Rattle.table_texts.proofs.Length.{accepted-text-first}
use Rattle.writing.proofs.Puts.{put_front}
use Rattle.writing.proofs.Fronts.{fronted}
use Rattle.text.proofs.compile.Listings.{answer-listing, answer-chosen, listing-within, written-refused}
use Rattle.text.proofs.print.Refusals.{refusal-said, refused-line-le}

-- ---- what is printed fits

pub printed-within : (input : List ℕ) → length (printed input) ≤ 5919
unfolding printed printed_for
printed-within input = go (reading (judged input)) refl where
  go : (x : Reading) → reading (judged input) ≡ x → length (printed_for x) ≤ 5919
  go (given z table) e = listing-within z table (reading-accepted (judged input) z table e)
  go (refused why l) e = omega (arith, refused-line-le why l)

-- ---- what is printed at the front of a buffer of zeros

zeros : List ℕ
zeros = replicate 5919 0

zeros-long : length zeros ≡ 5919
unfolding zeros
zeros-long = length-replicate {A = ℕ} 5919 0

print-holds : (input held : List ℕ) (count : ℕ) → count ≡ length (printed input)
    → held ≡ printed input ++ drop (length (printed input)) zeros → Print input held count
unfolding printed printed_for zeros
print-holds input held count ec eh =
    let front = fronted 5919 (printed input) held count (printed-within input) ec eh in
    let listed : (d : Design) (table : List ℕ) → Means (judged input) d table → take count held ≡ answer_listing d table =
    λ d table means. front.shown ∙ ap printed_for ((accepted-exactly (judged input) d table).1 means) in
    record {
      counted = front.counted;
      filled = front.filled;
      within = front.within;
      shown = front.shown;
      chosen = λ d table means.
          subst (λ (l : List ℕ). IsAnswerListing d.n d.m d.family (at table) l d.kind) (sym (listed d table means)) (answer-chosen d table means.0);
      meaning = λ d table means. subst (IsListing d.n d.family d.kind (at table)) (sym (listed d table means)) (answer-listing d table means.0);
      refusals = text-refusals (judged input) (λ why l. (take count held ≡ refused_line why l) × (first_numbers (take count held) ≡ number_of why ∷ l ∷ []))
          (λ why l e. (front.shown ∙ ap printed_for e, ap first_numbers (front.shown ∙ ap printed_for e) ∙ refusal-said input why l e));
      whole = λ d table means. accepted-text-first input d table ((accepted-exactly input d table).1 means);
    }

-- where the whole input is accepted, its listing is printed
pub print-whole : (input held : List ℕ) (count : ℕ) (d : Design) (table : List ℕ) → Print input held count → reading input ≡ given d table
    → take count held ≡ answer_listing d table
unfolding printed printed_for
print-whole input held count d table print e =
    print.shown ∙ ap (λ (x : List ℕ). printed_for (reading x)) (print.whole d table ((accepted-exactly input d table).0 e)) ∙ ap printed_for e

-- ---- by the text call's answer

-- what the text call wrote is what is printed
written-printed : (x : Reading) (o held : List ℕ) (count : ℕ) → Ok count ≡ compiled x (length o) → held ≡ buffer_after x o
    → (count ≡ length (printed_for x)) × (held ≡ printed_for x ++ drop (length (printed_for x)) o)
unfolding compiled buffer_after printed_for
written-printed (given z table) o held count ea eb = go (leb (length (answer_listing z table)) (length o)) ea eb where
  v : List ℕ
  v = answer_listing z table

  go : (b : Bool) → Ok count ≡ cond b (Ok (length v)) (Err (declined OutputRoom 0)) → held ≡ cond b (v ++ drop (length v) o) o
      → (count ≡ length v) × (held ≡ v ++ drop (length v) o)
  go true ea eb = (cc, eb)
  go false ea eb = absurd (written-refused ea)
written-printed (refused why l) o held count ea eb = absurd (written-refused ea)

-- a buffer that holds every listing: only a refused text is refused
refused-read : (input o before : List ℕ) (e : Refused) → length o ≡ 5919 → Compile (judged input) o before (Err e)
    → (reading (judged input) ≡ refused e.refusal e.line) × (before ≡ o)
unfolding compiled buffer_after
refused-read input o before e room c = go (reading (judged input)) refl c.answer c.bytes where
  go : (x : Reading) → reading (judged input) ≡ x → Err e ≡ compiled x (length o) → before ≡ buffer_after x o
      → (x ≡ refused e.refusal e.line) × (before ≡ o)
  go (given z table) h ea eb =
      let fits : length (answer_listing z table) ≤ length o = omega (arith, listing-within z table (reading-accepted (judged input) z table h)) in
      absurd (written-refused {w = length (answer_listing z table)} {e = e} (sym (ea ∙ rw (le-leb (length (answer_listing z table)) (length o) fits))))
  go (refused why l) h ea eb = let same : e ≡ declined why l = cc in (rw same, eb)

pub print-written : (input text held : List ℕ) (r : Result ℕ Refused) (count : ℕ) → text ≡ judged input → r ≡ Ok count
    → Compile text (replicate 5919 0) held r → Print input held count
unfolding printed zeros
print-written input text held r count et er c =
    let found = written-printed (reading (judged input)) (replicate 5919 0) held count (sym er ∙ rw et at c.answer) (rw et at c.bytes) in
    print-holds input held count found.0 found.1

pub print-refused : (input text before held : List ℕ) (r : Result ℕ Refused) (e : Refused) (count : ℕ) → text ≡ judged input → r ≡ Err e
    → Compile text (replicate 5919 0) before r → Put before 0 (refused_line e.refusal e.line) held count → Print input held count
unfolding printed printed_for zeros
print-refused input text before held r e count et er c put =
    let call : Compile (judged input) (replicate 5919 0) before (Err e) = rw (← et, ← er) c in
    let found = refused-read input (replicate 5919 0) before e zeros-long call in
    let line : printed input ≡ refused_line e.refusal e.line = ap printed_for found.0 in
    let room : length (refused_line e.refusal e.line) ≤ length before = omega (arith, refused-line-le e.refusal e.line, ap length found.1, zeros-long) in
    print-holds input held count (rw line (omega (arith, put.to)))
    (rw line (put_front room put ∙ rw found.1))
