-- What the program prints, as a function; no promise rests on this file.
use Rattle.std.specs.Prelude.{List, ℕ}
use Rattle.table_texts.specs.Inner.Reading.{reading}
use Rattle.text.specs.Judged.{judged}
use Rattle.quote_text.specs.QuotationLine.{quotation_line}
use Rattle.quote_text.specs.Inner.Quoted.{quoted}

-- what is printed for an input, of which the first 8,192 bytes are judged
unfoldable pub printed : List ℕ → List ℕ
printed input = quotation_line (quoted (reading (judged input)))
