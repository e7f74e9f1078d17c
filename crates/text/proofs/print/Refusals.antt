-- The two numbers of the line `refused` that is printed have at most four digits, and the line says them back (`refusal-said`).
use mathlib.Core.List.{List, [], ◌∷◌, ◌++◌, map, append-nil}
use mathlib.Core.Path.{◌≡◌, sym, ap, ◌∙◌}
use Prim.Native.Nat.{ℕ, ◌+◌, ◌*◌, ◌<◌, ◌≤◌}
use native.Mathlib.Omega.{arith}
use lib.Dec.{lit<}
use lib.ListN.{length, length-append, length-take}
use Rattle.numbers.specs.declared.refusals.Refusal.{Refusal}
use Rattle.numbers.specs.Refusals.{number_of}
use Rattle.listings.specs.Parts.{bytes}
use Rattle.listings.specs.Listing.{tabbed, line, decimal}
use Rattle.listings.specs.Meaning.{first_numbers}
use Rattle.table_texts.specs.Inner.Reading.{refused, reading}
use Rattle.table_texts.proofs.RefusalBounds.{reading-refused}
use Rattle.text.specs.Judged.{judged, refused_line}
use Rattle.listings.proofs.Joined.{Plain}
use Rattle.listings.proofs.Lengths.{digits_of-le, length-numbers}
use Rattle.listings.proofs.Meaning.{Small, plain-numbers, numbers-said, heading-numbers}

-- ---- the line `refused`

pub plain-refused : Plain (bytes "refused")
unfolding bytes
plain-refused = (lit< tt, (lit< tt, (lit< tt, (lit< tt, (lit< tt, (lit< tt, (lit< tt, tt)))))))

-- the numbers on a line of a word and numbers
pub line-says : (word : List ℕ) (xs : List ℕ) → Plain word → Small xs → first_numbers (line word (map decimal xs)) ≡ xs
line-says word xs plain small =
    ap first_numbers (sym (append-nil (line word (map decimal xs)))) ∙ heading-numbers word (map decimal xs) [] plain (plain-numbers xs) ∙ numbers-said xs small

pub refused-line-says : (why : Refusal) (l : ℕ) → number_of why < 10000 → l < 10000 → first_numbers (refused_line why l) ≡ number_of why ∷ l ∷ []
unfolding refused_line
refused-line-says why l hn hl = line-says (bytes "refused") (number_of why ∷ l ∷ []) plain-refused (hn, (hl, tt))

-- what is judged has at most 8,192 bytes, so the line that is printed for its refusal says the number and the line
pub refusal-said : (input : List ℕ) (why : Refusal) (l : ℕ) → reading (judged input) ≡ refused why l
    → first_numbers (refused_line why l) ≡ number_of why ∷ l ∷ []
refusal-said input why l e =
    let bounds = reading-refused (judged input) why l e in
    let few : length (judged input) ≤ 8192 = omega (arith, length-take 8192 input) in
    refused-line-says why l (omega (arith, bounds.0.1)) (omega (arith, bounds.1.1))

-- ---- how long it is

-- what a line of numbers needs
pub ruleset line_room = (digits_of-le)

-- a line of a word and numbers: a tab and at most four digits for each number, and the line end
pub line-le : (word xs : List ℕ) → length (line word (map decimal xs)) ≤ length word + length xs * 5 + 1
unfolding line
line-le word xs =
    let fields = tabbed (map decimal xs) in
    let whole : length (line word (map decimal xs)) ≡ length (word ++ fields) + 1 = length-append (word ++ fields) (10 ∷ []) in
    omega (arith, whole, length-append word fields, length-numbers xs, digits_of-le xs)

pub refused-line-le : (why : Refusal) (l : ℕ) → length (refused_line why l) ≤ 18
unfolding refused_line bytes
refused-line-le why l = line-le (bytes "refused") (number_of why ∷ l ∷ [])
