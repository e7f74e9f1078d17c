-- What the program prints, as a function; no promise rests on this file.
use Rattle.std.specs.Prelude.{List, ℕ}
use Rattle.table_texts.specs.Inner.Reading.{reading}
use Rattle.text.specs.Judged.{judged}
use Rattle.fitter.specs.Inner.Answer.{checked}
use Rattle.fitter.specs.AnswerLine.{answer_line}

-- what is printed for the two inputs, of each of which the first 8,192 bytes are judged
unfoldable pub printed : (text listing : List ℕ) → List ℕ
printed text listing = answer_line (checked (reading (judged text)) (judged listing))
