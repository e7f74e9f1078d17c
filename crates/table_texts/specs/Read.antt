-- The reading call: what it returns and every byte of the lent table, for every text. Document 01, "Text in, listing out" and "Why a call declines". What a text
-- means, as a function, stands in inner/Reading.
use Rattle.std.specs.Prelude.{List, ◌↔◌, ◌≡◌, ℕ, length, Result, Ok, Err}
use Rattle.numbers.specs.declared.refusals.Refusal.TheVariants.{BufferLength}
use Rattle.numbers.specs.declared.refusals.Refused.{Refused}
use Rattle.numbers.specs.Refusals.{declined}
use Rattle.table_texts.specs.declared.sizes.Design.{Design}
use Rattle.table_texts.specs.TableTexts.{Means}
use Rattle.table_texts.specs.Refusals.{TextRefusals}
use Rattle.table_texts.specs.Inner.Reading.{reading, lent, stands_for, table_after}

-- "The reading call fills a lent table of 256 bytes, zero from 2^n on, and returns n, m, k."; document 02: it "returns the kind of k" and "returns the
-- family too"
pub record ReadTable (text before : List ℕ) (r : Result Design Refused) (after : List ℕ) : Type 0 where
  pub result : stands_for r after ≡ lent (reading text) (length before)
  pub table : after ≡ table_after (lent (reading text) (length before)) before
  -- a design and a table are given exactly where they are within the limits, the text is theirs, and the lent table has 256 bytes
  pub accepted : (d : Design) (t : List ℕ) → ((r ≡ Ok d) × (after ≡ t)) ↔ (Means text d t × (length before ≡ 256))
  -- "the first bad line counts": a text is refused by the number and the line of what it breaks, whatever follows and whatever is lent
  pub refusals : TextRefusals text (λ why line. r ≡ Err (declined why line))
  -- "8. A lent table .. has another length than its call states", with line 0: after the text
  pub room : (d : Design) (t : List ℕ) → Means text d t → (length before ≡ 256 → ⊥) → r ≡ Err (declined BufferLength 0)
  pub kept : (e : Refused) → r ≡ Err e → after ≡ before
