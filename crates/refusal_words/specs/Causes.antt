-- The cause of a refused line, where the line shows it. Document 01, "Text in, listing out": "Each line ends with byte 10. Fields are parted by one tab
-- (byte 9)."; the fields of each kind of line; a point is a number "in base ten".
use Rattle.std.specs.Prelude.{Bool, true, false, cond, ◌&&◌, ◌||◌, List, [], ℕ, ◌-◌, eqb, ltb, leb, length, get_or, Option, Some, None}
use Rattle.listings.specs.Parts.{all, parts, fields, field, bytes, same}
use Rattle.fields.specs.Fields.{and_then, one_digit, mask}
use Rattle.refusal_words.specs.declared.cause.Cause.{Cause}
use Rattle.refusal_words.specs.declared.cause.Cause.TheVariants.{Blank, CarriageReturn, TooManyFields, BinaryPoint, NoLineEnd}

-- the line l of a text, counted from 1
unfoldable pub line_at : ℕ → List ℕ → List ℕ
line_at l text = get_or (all (parts 10 text)) (l - 1) []

-- a byte stands in a line: parted at it, the line has more than one part
abbrev pub has : ℕ → List ℕ → Bool
has b line = ltb 1 (length (all (parts b line)))

-- how many fields a line has by the documents, by its first word; none for any other word
unfoldable pub fields_asked : List ℕ → Option ℕ
fields_asked word =
    cond (same word (bytes "table") || same word (bytes "table2")) (Some 4)
    (cond (same word (bytes "on")) (Some 3)
    (cond (same word (bytes "end")) (Some 1)
    (cond (same word (bytes "form") || same word (bytes "form2")) (Some 8)
    (cond (same word (bytes "inv")) (Some 2) (cond (same word (bytes "term")) (Some 3) None)))))

-- a line has more fields than its first word asks
unfoldable pub too_many_fields : List ℕ → Bool
too_many_fields line = and_then (fields_asked (field 0 line)) false (λ asked. ltb asked (length (fields line)))

-- a field is n characters `0` and `1`, and n is 2 to 8: a point of n inputs in binary
unfoldable pub in_binary : ℕ → List ℕ → Bool
in_binary n f = ltb 1 n && leb n 8 && and_then (mask n f) false (λ v. true)

-- the point of an `on` line is in binary, for the n of the text's first line
unfoldable pub binary_point : List ℕ → List ℕ → Bool
binary_point text line = same (field 0 line) (bytes "on") && and_then (one_digit (field 1 (line_at 1 text))) false (λ n. in_binary n (field 1 line))

-- a line that is begun and not ended: it is not empty, and the last of the text's parts at byte 10
unfoldable pub unended : ℕ → List ℕ → Bool
unended l text = ltb 0 (length (line_at l text)) && eqb (length (all (parts 10 text))) l

-- the first cause that line l shows
unfoldable pub cause_seen : ℕ → List ℕ → Option Cause
cause_seen l text =
    cond (has 32 (line_at l text)) (Some Blank)
    (cond (has 13 (line_at l text)) (Some CarriageReturn)
    (cond (too_many_fields (line_at l text)) (Some TooManyFields)
    (cond (binary_point text (line_at l text)) (Some BinaryPoint) (cond (unended l text) (Some NoLineEnd) None))))

-- a cause is looked for where a line breaks its grammar (1, 11) and where a point is refused (5)
unfoldable pub cause_of : (number l : ℕ) → List ℕ → Option Cause
cause_of number l text = cond (eqb number 1 || eqb number 5 || eqb number 11) (cause_seen l text) None
