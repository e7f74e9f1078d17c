-- Document 01's printed example with output 0 left out (`left-output-1`), and with output 1 (`left-output-0`): a line whose other outputs are all `0` goes.
-- And the design of document 02, W-207, with output 0 left out (`left-free`): its `f` field stays.
use mathlib.Core.Path.{◌≡◌, refl}
use Prim.Native.String.{String}
use lib.Count.{ones}
use Rattle.numbers.specs.Nonzero.{if_nonzero}
use Rattle.listings.specs.Parts.{parts, bytes, same, fields}
use Rattle.listings.specs.Listing.{tabbed, line, descending, digit_count, decimal}
use Rattle.listings.specs.Meaning.{outputs_said, finished, lines_of, over_lines}
use Rattle.comparisons.specs.Choices.{chosen_characters, point_with, chosen_line, chosen_text}

-- the text that is printed in document 01, "Text in, listing out"
abbrev printed_text : String
printed_text = "table\t2\t2\t1\non\t0\t01\non\t1\t10\non\t2\t10\non\t3\t10\nend\n"

pub left-output-1 : chosen_text 2 (bytes printed_text) ≡ bytes "table\t2\t1\t1\non\t0\t1\nend\n"
unfolding chosen_text chosen_line point_with chosen_characters if_nonzero outputs_said over_lines lines_of finished parts fields same bytes line tabbed decimal descending digit_count ones
left-output-1 = refl

pub left-output-0 : chosen_text 1 (bytes printed_text) ≡ bytes "table\t2\t1\t1\non\t1\t1\non\t2\t1\non\t3\t1\nend\n"
unfolding chosen_text chosen_line point_with chosen_characters if_nonzero outputs_said over_lines lines_of finished parts fields same bytes line tabbed decimal descending digit_count ones
left-output-0 = refl

-- "x1x3 on output 0 with x2x3 without x1 on output 1 (n = 3)", with the free class and one mixed input
abbrev free_text : String
free_text = "table\t3\t2\tf1\non\t5\t10\non\t6\t01\non\t7\t10\nend\n"

pub left-free : chosen_text 2 (bytes free_text) ≡ bytes "table\t3\t1\tf1\non\t6\t1\nend\n"
unfolding chosen_text chosen_line point_with chosen_characters if_nonzero outputs_said over_lines lines_of finished parts fields same bytes line tabbed decimal descending digit_count ones
left-free = refl
