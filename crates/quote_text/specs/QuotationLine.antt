-- The line that tells a quotation. Document 02, W-209: "products, literals and listing length"; a refusal is told as document 01's `rmform` tells it, by "the
-- line `refused`, number, line".
use Rattle.std.specs.Prelude.{List, [], ◌∷◌, ℕ, Result, Ok, Err}
use Rattle.numbers.specs.declared.refusals.Refused.{Refused}
use Rattle.listings.specs.Parts.{bytes}
use Rattle.listings.specs.Listing.{line, decimal}
use Rattle.text.specs.Judged.{refused_line}
use Rattle.quote_text.specs.declared.quote.Quotation.{Quotation}

-- the line of an answer: the word `quote` and the three numbers, or the refusal
unfoldable pub quotation_line : Result Quotation Refused → List ℕ
quotation_line (Ok q) = line (bytes "quote") (decimal q.products ∷ decimal q.literals ∷ decimal q.length ∷ [])
quotation_line (Err e) = refused_line e.refusal e.line
