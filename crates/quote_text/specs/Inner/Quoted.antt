-- The quotation as a function, by what the text means. No promise rests on this file.
use Rattle.std.specs.Prelude.{Result, Ok, Err}
use Rattle.numbers.specs.declared.refusals.Refused.{Refused}
use Rattle.numbers.specs.Refusals.{declined}
use Rattle.table_texts.specs.Inner.Reading.{Reading, given, refused}
use Rattle.text.specs.Inner.Compiled.{answer_listing}
use Rattle.quote_text.specs.declared.quote.Quotation.{Quotation}
use Rattle.quote_text.specs.Numbers.{listing_numbers}

-- the numbers of the listing of the answer, or the refusal of the text
unfoldable pub quoted : Reading → Result Quotation Refused
quoted (given d table) = Ok (listing_numbers (answer_listing d table))
quoted (refused why line) = Err (declined why line)
