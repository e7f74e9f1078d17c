-- The refusal that is read off a printed line is the one that the line tells: of "the line `refused`, number, line" its number and its line (`told-numbers`,
-- `told-refused`), and of a text that begins with another word none (`told-other`).
use borrow.Author.Tests.{ne_eqb}
use mathlib.Core.Bool.{false, and-false}
use mathlib.Core.List.{List, [], ◌∷◌, ◌++◌, append-nil}
use mathlib.Core.Path.{◌≡◌, sym, ap, ◌∙◌}
use Prim.Native.Nat.{ℕ, suc, ◌<◌, ◌≤◌}
use native.Mathlib.Omega.{arith}
use lib.Dec.{eqb}
use lib.ListN.{length}
use Rattle.std.specs.Prelude.{Some, None}
use Rattle.numbers.specs.declared.refusals.Refusal.{Refusal}
use Rattle.numbers.specs.declared.refusals.Refusal.TheVariants.{BrokenLine, InputCount, OutputCount, MixedCount, PointOrder, TextEnd, PolarityRange, BufferLength, HighBit, OutputRoom, BrokenListing, UnlikeListing}
use Rattle.numbers.specs.Refusals.{number_of}
use Rattle.listings.specs.Parts.{bytes, fields, same}
use Rattle.listings.specs.Listing.{tabbed, line, decimal}
use Rattle.listings.proofs.Joined.{Plain, AllPlain, parts-fields, parts-lines}
use Rattle.listings.proofs.Meaning.{plain-decimal}
use Rattle.listings.proofs.Words.{same_self}
use Rattle.fields.specs.Fields.{headed}
use Rattle.fields.proofs.Written.{number-decimal}
use Rattle.text.specs.Judged.{refused_line}
use Rattle.text.proofs.print.Refusals.{plain-refused}
use Rattle.refusal_words.specs.Causes.{line_at}
use Rattle.refusal_words.specs.PrintedRefusal.{told, of_listing, told_refusal}

-- the first line of a text is the word and the fields that it was made of
first-line : (word : List ℕ) (fs : List (List ℕ)) (s : List ℕ) → Plain word → AllPlain fs → line_at 1 (line word fs ++ s) ≡ word ++ tabbed fs
unfolding line_at
first-line word fs s p ps = rw (parts-lines word fs s p ps)

pub told-numbers : (number l : ℕ) → number < 10000 → l < 10000
    → (told 1 (line (bytes "refused") (decimal number ∷ decimal l ∷ [])) ≡ number) × (told 2 (line (bytes "refused") (decimal number ∷ decimal l ∷ [])) ≡ l)
unfolding told headed fields
told-numbers number l hn hl =
    let word = bytes "refused" in
    let fs : List (List ℕ) = decimal number ∷ decimal l ∷ [] in
    let plain : AllPlain fs = (plain-decimal number, (plain-decimal l, tt)) in
    let shown : line_at 1 (line word fs) ≡ word ++ tabbed fs = ap (line_at 1) (sym (append-nil (line word fs))) ∙ first-line word fs [] plain-refused plain in
    rw (shown, parts-fields word fs plain-refused plain, same_self word)
    (rw (number-decimal 4 number (omega arith) (omega arith) hn), rw (number-decimal 4 l (omega arith) (omega arith) hl))

number-bounds : (why : Refusal) → (1 ≤ number_of why) × (number_of why ≤ 12)
number-bounds BrokenLine = (omega arith, omega arith)
number-bounds InputCount = (omega arith, omega arith)
number-bounds OutputCount = (omega arith, omega arith)
number-bounds MixedCount = (omega arith, omega arith)
number-bounds PointOrder = (omega arith, omega arith)
number-bounds TextEnd = (omega arith, omega arith)
number-bounds PolarityRange = (omega arith, omega arith)
number-bounds BufferLength = (omega arith, omega arith)
number-bounds HighBit = (omega arith, omega arith)
number-bounds OutputRoom = (omega arith, omega arith)
number-bounds BrokenListing = (omega arith, omega arith)
number-bounds UnlikeListing = (omega arith, omega arith)

-- the refusal that a line `refused` tells, of the table text or of the listing
pub told-refused : (why : Refusal) (l : ℕ) → l < 10000
    → told_refusal (refused_line why l) ≡ Some (record { number = number_of why; line = l; listing = of_listing (number_of why) })
unfolding told_refusal refused_line
told-refused why l hl =
    let bounds = number-bounds why in
    let numbers = told-numbers (number_of why) l (omega (arith, bounds.1)) hl in
    rw (numbers.0, numbers.1, ne_eqb (number_of why) 0 (omega (arith, bounds.0)))

pub told-nothing : (j : ℕ) (word : List ℕ) (fs : List (List ℕ)) (s : List ℕ) → Plain word → AllPlain fs → same word (bytes "refused") ≡ false
    → told j (line word fs ++ s) ≡ 0
unfolding told headed fields
told-nothing j word fs s p ps other = rw (first-line word fs s p ps, parts-fields word fs p ps, other, and-false (eqb (suc (length fs)) 3))

pub told-other : (word : List ℕ) (fs : List (List ℕ)) (s : List ℕ) → Plain word → AllPlain fs → same word (bytes "refused") ≡ false
    → told_refusal (line word fs ++ s) ≡ None
unfolding told_refusal
told-other word fs s p ps other = rw (told-nothing 1 word fs s p ps other, told-nothing 2 word fs s p ps other)
