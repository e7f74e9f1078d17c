-- The text call: what it returns and every byte of the lent output buffer, for every text and every buffer; and demand 3, over the bytes
-- that now stand in the buffer.
use Rattle.std.specs.Prelude.{List, ◌++◌, ◌≡◌, ℕ, ◌≤◌, ◌<◌, length, take, drop, Result, Ok, Err}
use Rattle.numbers.specs.declared.refusals.Refusal.TheVariants.{OutputRoom}
use Rattle.numbers.specs.declared.refusals.Refused.{Refused}
use Rattle.numbers.specs.Refusals.{declined}
use Rattle.numbers.specs.Bytes.{at}
use Rattle.table_texts.specs.declared.sizes.Design.{Design}
use Rattle.table_texts.specs.TableTexts.{Means}
use Rattle.table_texts.specs.Inner.Reading.{reading}
use Rattle.table_texts.specs.Refusals.{TextRefusals}
use Rattle.listings.specs.Meaning.{IsListing}
use Rattle.listings.specs.AnswerListing.{IsAnswerListing}
use Rattle.text.specs.Inner.Compiled.{compiled, buffer_after}

-- ---- the call in the documents' words

-- what the call answers for a table of the design d, and the buffer that it leaves: the table has a listing of the answer, ties and all, and this is what
-- is written
pub record Chosen (d : Design) (table before after : List ℕ) (r : Result ℕ Refused) : Type 0 where
  pub listing : List ℕ
  pub first : IsAnswerListing d.n d.m d.family (at table) listing d.kind
  -- "A buffer of exactly the listing's length is enough": the call "writes into a lent output buffer and returns the length; bytes past it keep what they held"
  pub enough : length listing ≤ length before → (r ≡ Ok (length listing)) × (after ≡ listing ++ drop (length listing) before)
  -- "one byte less is refusal 10", with line 0
  pub short : length before < length listing → r ≡ Err (declined OutputRoom 0)

-- the text call, for every text and every buffer
pub record Compile (text before after : List ℕ) (r : Result ℕ Refused) : Type 0 where
  pub answer : r ≡ compiled (reading text) (length before)
  pub bytes : after ≡ buffer_after (reading text) before
  -- "the first bad line counts": a text is refused by the number and the line of what it breaks, whatever follows and whatever is lent
  pub refusals : TextRefusals text (λ why line. r ≡ Err (declined why line))
  -- the text of a design and a table within the limits is compiled, as the documents define the answer
  pub chosen : (d : Design) (table : List ℕ) → Means text d table → Chosen d table before after r
  -- demand 3, of the bytes that now stand in the buffer: the call "owes demand 3 whole"
  pub meaning : (d : Design) (table : List ℕ) → Means text d table → (written : ℕ) → r ≡ Ok written
      → IsListing d.n d.family d.kind (at table) (take written after)
  -- the longest listing has 5,919 bytes: a buffer of that length is never short
  pub room : 5919 ≤ length before → (line : ℕ) → r ≡ Err (declined OutputRoom line) → ⊥
  -- "a refusal returns its number and line, and no lent byte changes under it"
  pub kept : (e : Refused) → r ≡ Err e → after ≡ before
