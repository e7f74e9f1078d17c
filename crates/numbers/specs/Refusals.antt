-- Document 01, "Why a call declines", and document 02, W-201: the refusals by their numbers, and what the calls judge alike.
use Rattle.std.specs.Prelude.{Bool, true, false, ◌&&◌, List, ℕ, ◌^◌, ◌≤◌, ◌<◌, leb, eqb, length, Result, Ok, Err, is_ok}
use Rattle.numbers.specs.Bytes.{at, all_below}
use Rattle.numbers.specs.declared.refusals.Refusal.{Refusal}
use Rattle.numbers.specs.declared.refusals.Refusal.TheVariants.{BrokenLine, InputCount, OutputCount, MixedCount, PointOrder, TextEnd, PolarityRange, BufferLength, HighBit, OutputRoom, BrokenListing, UnlikeListing}
use Rattle.numbers.specs.declared.refusals.Refused.{Refused}

-- the number of each refusal: "1. A text line breaks its grammar", "2. n is not 1 to 8", "3. m is not 1 to 8", "4. k is above 3 or above n", "5. A point is 2^n or
-- more, or not above the one before", "6. The text stops where a line should begin and no `end` line has come, or bytes follow `end`", "7. A polarity w is 2^n or
-- more", "8. A lent table, coefficient or block buffer has another length than its call states", "9. A byte .. has a bit at m or above set", "10. The output buffer
-- is shorter than the listing"; W-201: "A broken listing line .. is 11", "n, m or k unlike the table's is 12"
abbrev pub number_of : Refusal → ℕ
number_of BrokenLine = 1
number_of InputCount = 2
number_of OutputCount = 3
number_of MixedCount = 4
number_of PointOrder = 5
number_of TextEnd = 6
number_of PolarityRange = 7
number_of BufferLength = 8
number_of HighBit = 9
number_of OutputRoom = 10
number_of BrokenListing = 11
number_of UnlikeListing = 12

-- "A refusal returns its number and the line"
abbrev pub declined : Refusal → ℕ → Refused
declined why line = record { refusal = why; line = line }

-- what judging leads to: nothing to say, or the first refusal that applies
abbrev pub Judgement : Type 0
Judgement = Result (Unit {0}) Refusal

-- what follows where the test passes, and the refusal where it fails
abbrev pub unless : Bool → Refusal → Judgement → Judgement
unless true why next = next
unless false why next = Err why

-- the first of two refusals, where it applies, and else the second: "The order is"
abbrev pub or_else : Judgement → Judgement → Judgement
or_else (Ok passed) next = next
or_else (Err why) next = Err why

-- the filled bytes where there is no refusal, and the bytes as they were under one
abbrev pub unless_refused : Judgement → List ℕ → List ℕ → List ℕ
unless_refused (Ok passed) filled before = filled
unless_refused (Err why) filled before = before

-- the answer of a call without text: "0 .. for calls without text" is the line of a refusal
abbrev pub answered : {A : Type 0} → Judgement → A → Result A Refused
answered (Ok passed) x = Ok x
answered (Err why) x = Err (declined why 0)

-- "2. n is not 1 to 8. 3. m is not 1 to 8."
unfoldable pub table_refusal : ℕ → ℕ → Judgement
table_refusal n m = unless (leb 1 n && leb n 8) InputCount (unless (leb 1 m && leb m 8) OutputCount (Ok tt))

-- and "4. k is above 3 or above n.": `most` is the 3, and for document 02's free class, W-207, a 2: "`f` with a digit above 2 or above n is refusal 4"
unfoldable pub sizes_refusal : (n m most k : ℕ) → Judgement
sizes_refusal n m most k = or_else (table_refusal n m) (unless (leb k most && leb k n) MixedCount (Ok tt))

-- n and m are none that document 01 refuses, and the bytes are a table of them: "A table is 2^n bytes; bit o of byte p is output o at p, and bits m to 7
-- are 0."
unfoldable pub is_table : ℕ → ℕ → List ℕ → Bool
is_table n m bytes = is_ok (table_refusal n m) && (eqb (length bytes) (2 ^ n) && all_below (2 ^ m) bytes)

-- the sizes of a table that are not refused (proofs/refusals/Judging, `table_none`, `table-accepted`)
pub record TableSized (n m : ℕ) : Type 0 where
  pub inputs : (1 ≤ n) × (n ≤ 8)
  pub outputs : (1 ≤ m) × (m ≤ 8)

-- "n inputs (1 to 8) and m outputs (1 to 8), with k mixed inputs (0 to 3, at most n)", `most` being the 3: not refused (`sizes-none`, `sizes-accepted`)
pub record Sized (n m most k : ℕ) : Type 0 where
  pub inputs : (1 ≤ n) × (n ≤ 8)
  pub outputs : (1 ≤ m) × (m ≤ 8)
  pub mixed : (k ≤ most) × (k ≤ n)

-- ---- in words

-- which refusals the sizes of a table meet: Refused why says that a call refuses them by that refusal
pub record TableRefusals (n m : ℕ) (Refused : Refusal → Type 0) : Type 0 where
  -- "2. n is not 1 to 8."
  pub inputs : ((1 ≤ n) × (n ≤ 8) → ⊥) → Refused InputCount
  -- "3. m is not 1 to 8."
  pub outputs : (1 ≤ n) × (n ≤ 8) → ((1 ≤ m) × (m ≤ 8) → ⊥) → Refused OutputCount

-- and those of a table with k mixed inputs, of which there may be `most`
pub record SizesRefusals (n m most k : ℕ) (Refused : Refusal → Type 0) : Type 0 where
  pub table : TableRefusals n m Refused
  -- "4. k is above 3 or above n."
  pub mixed : TableSized n m → ((k ≤ most) × (k ≤ n) → ⊥) → Refused MixedCount

-- no byte "of a given table or of given coefficients has a bit at m or above set"
abbrev pub WithinOutputs : ℕ → List ℕ → Type 0
WithinOutputs m bytes = (p : ℕ) → at bytes p < 2 ^ m
