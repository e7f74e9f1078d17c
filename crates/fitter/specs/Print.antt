-- What the program `rmcheck` prints. Document 02, W-201: "say: not of the class; differs, with the lowest point that differs; or same"; a refusal
-- is told as document 01's `rmform` tells it, by "the line `refused`, number, line".
use Rattle.std.specs.Prelude.{List, [], ◌∷◌, ◌++◌, ◌≡◌, ℕ, ◌-◌, ◌≤◌, length, take, replicate, Result, Ok, Err}
use Rattle.numbers.specs.Refusals.{number_of}
use Rattle.listings.specs.Parts.{bytes}
use Rattle.listings.specs.Listing.{line, decimal}
use Rattle.listings.specs.Meaning.{first_numbers}
use Rattle.expansions.specs.declared.kinds.Kind.TheVariants.{Kronecker}
use Rattle.table_texts.specs.declared.sizes.Sizes.{Sizes}
use Rattle.table_texts.specs.declared.sizes.Design.{Design}
use Rattle.table_texts.specs.Design.{mixed_design}
use Rattle.table_texts.specs.TableTexts.{Means}
use Rattle.listing_texts.specs.Listings.{Passes}
use Rattle.text.specs.Judged.{judged}
use Rattle.fitter.specs.declared.check.Verdict.{Verdict}
use Rattle.numbers.specs.declared.refusals.Refused.{Refused}
use Rattle.fitter.specs.declared.check.Verdict.TheVariants.{Same, Differs, NotOfClass}
use Rattle.fitter.specs.Check.{Check}
use Rattle.fitter.specs.Inner.Printed.{printed}
use Rattle.fitter.specs.AnswerLine.{answer_line}

-- What is handed out for the two inputs: 18 bytes, zero past what is printed, and how many are printed; and when each answer is given
pub record Print (text listing held : List ℕ) (count : ℕ) : Type 0 where
  pub counted : count ≡ length (printed text listing)
  pub filled : held ≡ printed text listing ++ replicate (18 - length (printed text listing)) 0
  pub within : count ≤ length held
  pub shown : take count held ≡ printed text listing
  -- the first 8,192 bytes of a text that is accepted and of a listing that passes are the whole of them
  pub whole : (z : Sizes) (table : List ℕ) → Means text (mixed_design z) table → Passes z listing → (judged text ≡ text) × (judged listing ≡ listing)
  -- and beside a `K` table the first 8,192 bytes of any listing give its refusal
  pub whole_kronecker : (d : Design) (table : List ℕ) → Means text d table → d.kind ≡ Kronecker → (r : Result Verdict Refused) → Check text listing r
      → take count held ≡ answer_line r
  -- what is printed is the line of an answer, and this is the check's, in document 02's words
  pub meaning : (r : Result Verdict Refused) × (take count held ≡ answer_line r) × Check (judged text) (judged listing) r
  -- "say: not of the class; differs, with the lowest point that differs; or same", in these words
  pub same : Check (judged text) (judged listing) (Ok Same) → take count held ≡ line (bytes "same") []
  pub not_of_class : Check (judged text) (judged listing) (Ok NotOfClass) → take count held ≡ line (bytes "not of the class") []
  -- with the point in base ten
  pub point : (p : ℕ) → Check (judged text) (judged listing) (Ok (Differs p))
      → (take count held ≡ line (bytes "differs") (decimal p ∷ [])) × (first_numbers (take count held) ≡ p ∷ [])
  -- "the line `refused`, number, line", the numbers in base ten
  pub refusal : (e : Refused) → Check (judged text) (judged listing) (Err e)
      → (take count held ≡ line (bytes "refused") (decimal (number_of e.refusal) ∷ decimal e.line ∷ []))
      × (first_numbers (take count held) ≡ number_of e.refusal ∷ e.line ∷ [])
