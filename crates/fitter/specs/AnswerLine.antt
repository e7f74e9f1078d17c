-- The line that tells the check's answer. Document 02, W-201: "say: not of the class; differs, with the lowest point that differs; or same"; a refusal is told as
-- document 01's `rmform` tells it, by "the line `refused`, number, line".
use Rattle.std.specs.Prelude.{List, [], ◌∷◌, ℕ, Result, Ok, Err}
use Rattle.numbers.specs.declared.refusals.Refused.{Refused}
use Rattle.listings.specs.Parts.{bytes}
use Rattle.listings.specs.Listing.{line, decimal}
use Rattle.text.specs.Judged.{refused_line}
use Rattle.fitter.specs.declared.check.Verdict.{Verdict}
use Rattle.fitter.specs.declared.check.Verdict.TheVariants.{Same, Differs, NotOfClass}

-- the line of an answer
unfoldable pub answer_line : Result Verdict Refused → List ℕ
answer_line (Ok Same) = line (bytes "same") []
answer_line (Ok (Differs p)) = line (bytes "differs") (decimal p ∷ [])
answer_line (Ok NotOfClass) = line (bytes "not of the class") []
answer_line (Err e) = refused_line e.refusal e.line
