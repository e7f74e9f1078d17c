-- The sentence that tells a refusal to a person: which file, which line, what the number means, and the cause where it can be seen. The numbers are those of
-- document 01, "Why a call declines", and of document 02, W-201: "A broken listing line .. is 11", "n, m or k unlike the table's is 12".
use Rattle.std.specs.Prelude.{cond, List, [], ◌∷◌, ◌++◌, ◌≡◌, ℕ, ◌-◌, ◌≤◌, eqb, length, get_or, take, replicate, Option, Some, None}
use Rattle.listings.specs.Parts.{bytes}
use Rattle.listings.specs.Listing.{decimal}
use Rattle.refusal_words.specs.declared.cause.Cause.{Cause}
use Rattle.refusal_words.specs.declared.cause.Cause.TheVariants.{Blank, CarriageReturn, TooManyFields, BinaryPoint, NoLineEnd}
use Rattle.refusal_words.specs.Causes.{cause_of}

-- the words of each number from 0 on; 0 is no refusal
abbrev pub words_in_order : List (List ℕ)
words_in_order =
    bytes "carried out"
    ∷ bytes "the line breaks its grammar"
    ∷ bytes "n, the number of inputs, is not 1 to 8"
    ∷ bytes "m, the number of outputs, is not 1 to 8"
    ∷ bytes "k, the number of mixed inputs, is above its limit or above n"
    ∷ bytes "the point is 2^n or more, or not above the one before"
    ∷ bytes "the text stops before its end line, or goes on after it"
    ∷ bytes "the polarity w is 2^n or more"
    ∷ bytes "a buffer has another length than the call states"
    ∷ bytes "a byte has a bit at m or above set"
    ∷ bytes "the output buffer is shorter than the listing"
    ∷ bytes "the line breaks the grammar of a listing, its term is not above the one before, or the listing ends wrongly"
    ∷ bytes "the listing's family, n, m or k is not the table's, or its counts are not those of its lines"
    ∷ []

-- the words of a number
unfoldable pub refusal_words : ℕ → List ℕ
refusal_words number = get_or words_in_order number (bytes "no refusal has this number")

-- the words of a cause
unfoldable pub cause_words : Option Cause → List ℕ
cause_words None = []
cause_words (Some Blank) = bytes "; it has a blank where a tab belongs"
cause_words (Some CarriageReturn) = bytes "; it has a carriage return"
cause_words (Some TooManyFields) = bytes "; it has too many fields"
cause_words (Some BinaryPoint) = bytes "; its point is in binary, not in base ten"
cause_words (Some NoLineEnd) = bytes "; no line end follows it"

-- the words of a line; a refusal of line 0 has none
unfoldable pub line_words : ℕ → List ℕ
line_words l = cond (eqb l 0) [] (bytes ", line " ++ decimal l)

-- where the refusal is: the file and the line. A path has at most 4,096 bytes, and of a longer name so many are shown
unfoldable pub place : List ℕ → ℕ → List ℕ
place name l = take 4096 name ++ line_words l ++ bytes ": "

-- the sentence of a refusal of a text, as a line
unfoldable pub sentence : List ℕ → (number l : ℕ) → List ℕ → List ℕ
sentence name number l text = place name l ++ refusal_words number ++ cause_words (cause_of number l text) ++ 10 ∷ []

-- What is handed out for bytes that are said: 4,352 bytes, zero past what is said, and how many are said
pub record Said (said held : List ℕ) (count : ℕ) : Type 0 where
  pub counted : count ≡ length said
  pub filled : held ≡ said ++ replicate (4352 - length said) 0
  pub within : count ≤ length held
