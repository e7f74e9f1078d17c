-- What the program `rmquote` prints. Document 02, W-209: "products, literals and listing length from a table text". As `rmform`, it "judges the first 8,192
-- bytes of standard input as the whole text", and tells a refusal by "the line `refused`, number, line".
use Rattle.std.specs.Prelude.{List, [], ◌∷◌, ◌++◌, ◌≡◌, ℕ, ◌-◌, ◌≤◌, length, take, replicate, Result, Ok}
use Rattle.numbers.specs.declared.refusals.Refused.{Refused}
use Rattle.numbers.specs.Refusals.{number_of}
use Rattle.table_texts.specs.declared.sizes.Design.{Design}
use Rattle.table_texts.specs.TableTexts.{Means}
use Rattle.table_texts.specs.Refusals.{TextRefusals}
use Rattle.listings.specs.Parts.{bytes}
use Rattle.listings.specs.Listing.{line, decimal}
use Rattle.listings.specs.Meaning.{first_numbers, stated_products, stated_literals}
use Rattle.text.specs.Judged.{judged, refused_line}
use Rattle.text.specs.Print as rmform
use Rattle.quote_text.specs.declared.quote.Quotation.{Quotation}
use Rattle.quote_text.specs.Quote.{Quote}
use Rattle.quote_text.specs.QuotationLine.{quotation_line}
use Rattle.quote_text.specs.Inner.Printed.{printed}

-- What is handed out for an input: 21 bytes, zero past what is printed, and how many are printed
pub record Print (input held : List ℕ) (count : ℕ) : Type 0 where
  pub counted : count ≡ length (printed input)
  pub filled : held ≡ printed input ++ replicate (21 - length (printed input)) 0
  pub within : count ≤ length held
  pub shown : take count held ≡ printed input
  -- what is printed is the line of an answer, and this is the quotation of what is judged
  pub meaning : (r : Result Quotation Refused) × (take count held ≡ quotation_line r) × Quote (judged input) r
  -- "products, literals and listing length", on a line that begins `quote`, the numbers in base ten
  pub quotation : (q : Quotation) → Quote (judged input) (Ok q)
      → (take count held ≡ line (bytes "quote") (decimal q.products ∷ decimal q.literals ∷ decimal q.length ∷ []))
      × (first_numbers (take count held) ≡ q.products ∷ q.literals ∷ q.length ∷ [])
  -- "The numbers equal those of compiling": what `rmform` prints for the same input states these counts on its first line, and has this many bytes
  pub compiling : (d : Design) (table : List ℕ) → Means (judged input) d table → (bytes : List ℕ) (long : ℕ) → rmform.Print input bytes long
      → first_numbers (take count held) ≡ stated_products (take long bytes) ∷ stated_literals (take long bytes) ∷ long ∷ []
  -- "the first bad line counts": "the line `refused`, number, line" of what the text breaks; its numbers, read in base ten, are these
  pub refusals : TextRefusals (judged input) (λ why l. (take count held ≡ refused_line why l) × (first_numbers (take count held) ≡ number_of why ∷ l ∷ []))
  -- "(every text that can be accepted is shorter)": where the whole input is a text that is accepted, it is what is judged
  pub whole : (d : Design) (table : List ℕ) → Means input d table → judged input ≡ input
