-- What the programs print. Document 01: "The program `rmform` judges the first 8,192 bytes of standard input as the whole text .. and writes
-- the listing, or the line `refused`, number, line."
use Rattle.std.specs.Prelude.{List, [], ◌∷◌, ◌++◌, ◌≡◌, ℕ, ◌-◌, ◌≤◌, length, take, replicate}
use Rattle.numbers.specs.Bytes.{at}
use Rattle.numbers.specs.Refusals.{number_of}
use Rattle.table_texts.specs.declared.sizes.Design.{Design}
use Rattle.table_texts.specs.TableTexts.{Means}
use Rattle.table_texts.specs.Refusals.{TextRefusals}
use Rattle.listings.specs.Meaning.{first_numbers, IsListing}
use Rattle.listings.specs.AnswerListing.{IsAnswerListing}
use Rattle.text.specs.Inner.Printed.{printed}
use Rattle.text.specs.Judged.{judged, refused_line}

-- What is handed out for an input: 5,919 bytes, zero past what is printed, and how many are printed
pub record Print (input held : List ℕ) (count : ℕ) : Type 0 where
  pub counted : count ≡ length (printed input)
  pub filled : held ≡ printed input ++ replicate (5919 - length (printed input)) 0
  pub within : count ≤ length held
  pub shown : take count held ≡ printed input
  -- the bytes printed for an accepted text are the listing of the answer that the documents define, ties and all
  pub chosen : (d : Design) (table : List ℕ) → Means (judged input) d table
      → IsAnswerListing d.n d.m d.family (at table) (take count held) d.kind
  -- and are a listing as demand 3 asks
  pub meaning : (d : Design) (table : List ℕ) → Means (judged input) d table
      → IsListing d.n d.family d.kind (at table) (take count held)
  -- "the first bad line counts": "the line `refused`, number, line" of what the text breaks, whatever follows; its numbers, read in base ten, are these
  pub refusals : TextRefusals (judged input) (λ why l. (take count held ≡ refused_line why l) × (first_numbers (take count held) ≡ number_of why ∷ l ∷ []))
  -- "(every text that can be accepted is shorter)": where the whole input is a text that is accepted, it is what is judged
  pub whole : (d : Design) (table : List ℕ) → Means input d table → judged input ≡ input
