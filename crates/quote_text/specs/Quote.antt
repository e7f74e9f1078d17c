-- The quotation, for every text. Document 02, W-209: "The front counter wants products, literals and listing length from a table text with no buffer touched.
-- The numbers equal those of compiling a copy into a buffer long enough, for every kind of k, and a text that would be refused there for its own sake is refused
-- here alike; short room can't occur."
use Rattle.std.specs.Prelude.{List, ◌↔◌, ◌≡◌, ℕ, ◌≤◌, ◌<◌, length, take, Result, Ok, Err}
use Rattle.numbers.specs.declared.refusals.Refusal.TheVariants.{BufferLength, OutputRoom}
use Rattle.numbers.specs.declared.refusals.Refused.{Refused}
use Rattle.numbers.specs.Refusals.{declined}
use Rattle.numbers.specs.Bytes.{at}
use Rattle.expansions.specs.Rivals.{LeastCost}
use Rattle.table_texts.specs.declared.sizes.Design.{Design}
use Rattle.table_texts.specs.TableTexts.{Means}
use Rattle.table_texts.specs.Inner.Reading.{reading}
use Rattle.table_texts.specs.Refusals.{TextRefusals}
use Rattle.listings.specs.AnswerListing.{IsAnswerListing}
use Rattle.listings.specs.Meaning.{stated_products, stated_literals}
use Rattle.text.specs.Compile.{Compile}
use Rattle.quote_text.specs.declared.quote.Quotation.{Quotation}
use Rattle.quote_text.specs.Numbers.{listing_numbers}
use Rattle.quote_text.specs.Inner.Quoted.{quoted}

-- what is answered for a table of the design d: the table has a listing of the answer, ties and all, and the numbers are that listing's
pub record OfListing (d : Design) (table : List ℕ) (r : Result Quotation Refused) : Type 0 where
  pub listing : List ℕ
  pub first : IsAnswerListing d.n d.m d.family (at table) listing d.kind
  pub numbers : r ≡ Ok (listing_numbers listing)

-- "The numbers equal those of compiling a copy into a buffer", of the buffer before and after the text call, and what this answers
pub record Compiling (q : Quotation) (before after : List ℕ) (c : Result ℕ Refused) : Type 0 where
  -- "a buffer long enough", whatever it held: the length is what the text call returns, and the first line of what stands there states the counts
  pub enough : q.length ≤ length before
      → (c ≡ Ok q.length) × (stated_products (take q.length after) ≡ q.products) × (stated_literals (take q.length after) ≡ q.literals)
  -- and no shorter one is: "one byte less is refusal 10"
  pub short : length before < q.length → c ≡ Err (declined OutputRoom 0)

-- the quotation of a text
pub record Quote (text : List ℕ) (r : Result Quotation Refused) : Type 0 where
  pub answer : r ≡ quoted (reading text)
  -- the text of a design and a table within the limits is quoted, as the documents define the answer
  pub chosen : (d : Design) (table : List ℕ) → Means text d table → OfListing d table r
  -- the counts are those of demand 3: an expansion of the class at that k gives the outputs with them, and no rival is cheaper
  pub least : (d : Design) (table : List ℕ) → Means text d table → (q : Quotation) → r ≡ Ok q
      → LeastCost d.n d.family d.kind (at table) q.products q.literals
  -- "The numbers equal those of compiling a copy into a buffer long enough, for every kind of k"
  pub compiling : (q : Quotation) → r ≡ Ok q → (before after : List ℕ) (c : Result ℕ Refused) → Compile text before after c
      → Compiling q before after c
  -- "the first bad line counts": a text is refused by the number and the line of what it breaks, whatever follows
  pub refusals : TextRefusals text (λ why line. r ≡ Err (declined why line))
  -- "a text that would be refused there for its own sake is refused here alike", and no other is: "there" in any buffer, and by 10 it is the buffer's sake
  pub alike : (before after : List ℕ) (c : Result ℕ Refused) → Compile text before after c → (e : Refused)
      → (r ≡ Err e) ↔ ((c ≡ Err e) × (e.refusal ≡ OutputRoom → ⊥))
  -- "short room can't occur": no buffer is lent, so its length (8) and its room (10) are no cause
  pub room : (line : ℕ) → (r ≡ Err (declined BufferLength line) → ⊥) × (r ≡ Err (declined OutputRoom line) → ⊥)
