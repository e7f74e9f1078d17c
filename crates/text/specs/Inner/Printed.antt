-- What the program prints, as a function; no promise rests on this file.
use Rattle.std.specs.Prelude.{List, ℕ}
use Rattle.table_texts.specs.Inner.Reading.{Reading, given, refused, reading}
use Rattle.text.specs.Inner.Compiled.{answer_listing}
use Rattle.text.specs.Judged.{judged, refused_line}

-- "the listing, or the line `refused`, number, line", by what the text means
unfoldable pub printed_for : Reading → List ℕ
printed_for (given z table) = answer_listing z table
printed_for (refused why l) = refused_line why l

-- what is printed for an input
unfoldable pub printed : List ℕ → List ℕ
printed input = printed_for (reading (judged input))
