-- How an exported call tells its answer: the refusal's number and its line, and then the numbers that the call returns.
use Rattle.std.specs.Prelude.{List, [], ◌∷◌, ◌++◌, ◌≡◌, ℕ, length, Result, Ok, Err}
use Rattle.numbers.specs.Bytes.{at}
use Rattle.numbers.specs.declared.refusals.Refused.{Refused}
use Rattle.numbers.specs.Refusals.{number_of}
use Rattle.transform_calls.specs.Calls.{transform_refusal, transformed}
use Rattle.expansions.specs.declared.families.Family.TheVariants.{One}
use Rattle.expansions.specs.declared.kinds.Class.TheVariants.{Block}
use Rattle.expansions.specs.declared.kinds.Kind.{Kind}
use Rattle.expansions.specs.declared.kinds.Kind.TheVariants.{Mixed, Kronecker}
use Rattle.expansions.specs.Numbered.{class_number, family_number}
use Rattle.minimise_calls.specs.Calls as minimising
use Rattle.search.specs.Inner.Answer.{answer_expansion}
use Rattle.minimise_calls.specs.declared.calls.Minimum.{Minimum}
use Rattle.table_texts.specs.declared.sizes.Design.{Design}
use Rattle.table_texts.specs.Inner.Reading as reading
use Rattle.quote_text.specs.declared.quote.Quotation.{Quotation}
use Rattle.quote_text.specs.Quote.{Quote}
use Rattle.fitter.specs.declared.check.Verdict.{Verdict}
use Rattle.fitter.specs.declared.check.Verdict.TheVariants.{Same, Differs, NotOfClass}

-- the answer that "Why a call declines" decides for n, m, w, the given bytes and the length of the buffer to fill
abbrev pub decided : ℕ → ℕ → ℕ → List ℕ → ℕ → Result (Unit {0}) Refused
decided n m w given lent = transformed (transform_refusal n m w given lent)

-- "A refusal returns its number and the line"; 0 and 0 where the call was carried out
unfoldable pub transform_numbers : Result (Unit {0}) Refused → List ℕ
transform_numbers (Ok done) = 0 ∷ 0 ∷ []
transform_numbers (Err e) = number_of e.refusal ∷ e.line ∷ []

-- the answer that is decided for n, m, k, the table and the lengths of the two buffers to fill
abbrev pub decided_minimum : ℕ → ℕ → ℕ → List ℕ → ℕ → ℕ → Result Minimum Refused
decided_minimum n m k table coefficients blocks = minimising.minimised (minimising.minimise_refusal n m k table coefficients blocks) (answer_expansion Block One n k (at table))

-- "returns M, i, products and literals", after the number and the line, and last the inversion mask, "which the binary call returns too"; all 0 under a
-- refusal
unfoldable pub minimum_numbers : Result Minimum Refused → List ℕ
minimum_numbers (Ok e) = 0 ∷ 0 ∷ e.mixed ∷ e.fixed ∷ e.products ∷ e.literals ∷ e.inverted ∷ []
minimum_numbers (Err e) = number_of e.refusal ∷ e.line ∷ 0 ∷ 0 ∷ 0 ∷ 0 ∷ 0 ∷ []

-- k and "the kind of k": that of its class where k is a number, and 2 with k = 0 for `K`
abbrev pub kind_numbers : Kind → List ℕ
kind_numbers (Mixed C k) = k ∷ class_number C ∷ []
kind_numbers Kronecker = 0 ∷ 2 ∷ []

-- "returns n, m, k", "returns the kind of k", and "returns the family too", after the number and the line
unfoldable pub design_numbers : Design → List ℕ
design_numbers d = 0 ∷ 0 ∷ d.n ∷ d.m ∷ kind_numbers d.kind ++ family_number d.family ∷ []

-- the numbers of the design that was read, all 0 under a refusal
unfoldable pub read_numbers : reading.Reading → List ℕ
read_numbers (reading.given design table) = design_numbers design
read_numbers (reading.refused why line) = number_of why ∷ line ∷ 0 ∷ 0 ∷ 0 ∷ 0 ∷ 0 ∷ []

-- "returns the length", after the number and the line, 0 under a refusal
unfoldable pub listing_numbers : Result ℕ Refused → List ℕ
listing_numbers (Ok length) = 0 ∷ 0 ∷ length ∷ []
listing_numbers (Err e) = number_of e.refusal ∷ e.line ∷ 0 ∷ []

-- document 02, W-209: "products, literals and listing length", after the number and the line, 0 under a refusal
unfoldable pub quotation_numbers : Result Quotation Refused → List ℕ
quotation_numbers (Ok q) = 0 ∷ 0 ∷ q.products ∷ q.literals ∷ q.length ∷ []
quotation_numbers (Err e) = number_of e.refusal ∷ e.line ∷ 0 ∷ 0 ∷ 0 ∷ []

-- the same place by place, from 0, of a text and of what is told of it
pub record TellsQuotation (text told : List ℕ) : Type 0 where
  -- of a text that is quoted "products, literals and listing length" stand at the places 2, 3 and 4
  pub given : (q : Quotation) → Quote text (Ok q)
      → (at told 0 ≡ 0) × (at told 1 ≡ 0) × (at told 2 ≡ q.products) × (at told 3 ≡ q.literals) × (at told 4 ≡ q.length)
  -- "A refusal returns its number and the line", at the places 0 and 1
  pub refused : (e : Refused) → Quote text (Err e)
      → (at told 0 ≡ number_of e.refusal) × (at told 1 ≡ e.line) × (at told 2 ≡ 0) × (at told 3 ≡ 0) × (at told 4 ≡ 0)

-- the outcome, after the number and the line: 1 same, 2 differs, 3 not of the class, and 0 under a refusal; then the point that differs, or 0
unfoldable pub check_numbers : Result Verdict Refused → List ℕ
check_numbers (Ok Same) = 0 ∷ 0 ∷ 1 ∷ 0 ∷ []
check_numbers (Ok (Differs point)) = 0 ∷ 0 ∷ 2 ∷ point ∷ []
check_numbers (Ok NotOfClass) = 0 ∷ 0 ∷ 3 ∷ 0 ∷ []
check_numbers (Err e) = number_of e.refusal ∷ e.line ∷ 0 ∷ 0 ∷ []
