-- What the rows mean, the lines after the first of a table text and after the second of a listing: a value for each point or each term, or the refusal
-- that they meet.
-- Document 01, "Text in, listing out" and "Why a call declines"; document 02, W-201.
use Rattle.std.specs.Prelude.{Bool, cond, ◌&&◌, List, [], ◌∷◌, ℕ, ◌+◌, ◌*◌, ◌^◌, leb, ltb, set, replicate, Option, Some, None, Result, Ok, Err}
use Rattle.numbers.specs.declared.refusals.Refusal.{Refusal}
use Rattle.numbers.specs.declared.refusals.Refusal.TheVariants.{BrokenLine, PointOrder, TextEnd}
use Rattle.numbers.specs.declared.refusals.Refused.{Refused}
use Rattle.listings.specs.Parts.{parts, bytes, same, field}
use Rattle.fields.specs.declared.values.Cube.{Cube}
use Rattle.lines.specs.declared.rows.Kind.{Kind}
use Rattle.lines.specs.declared.rows.Kind.TheVariants.{Table, Listing}
use Rattle.lines.specs.declared.rows.Grammar.{Grammar}
use Rattle.lines.specs.declared.rows.RowLine.{RowLine}
use Rattle.lines.specs.declared.rows.RowLine.TheVariants.{Row, End}
use Rattle.fields.specs.Fields.{and_then, number, outputs, headed}
use Rattle.fields.specs.Cubes.{cube_said}

-- ---- one line

-- "A table text is": its lines, of n inputs and m outputs
abbrev pub table_grammar : ℕ → ℕ → Grammar
table_grammar n m = record { kind = Table; n = n; m = m }

-- "A listing .. is": its lines, of n inputs and m outputs
abbrev pub listing_grammar : ℕ → ℕ → Grammar
listing_grammar n m = record { kind = Listing; n = n; m = m }

-- a row, where its word stands and its place and its outputs are read; its value is 256 times the complemented inputs of its place and the outputs
abbrev pub row_said : Bool → Option Cube → Option ℕ → Option RowLine
row_said headed place said = cond headed (and_then place None (λ c. and_then said None (λ o. Some (Row c.term (c.complemented * 256 + o))))) None

-- the place of a table's row: "The point is one to three digits with no leading zero (but `0`)"; no input is complemented
abbrev pub point_said : List ℕ → Option Cube
point_said f = and_then (number 3 f) None (λ p. Some (record { term = p; complemented = 0 }))

-- "lines `on`, point, outputs": the row of a table text, at its point
unfoldable pub on_row : ℕ → List ℕ → Option RowLine
on_row m l = row_said (headed 3 (bytes "on") l) (point_said (field 1 l)) (outputs m (field 2 l))

-- "`term`, cube, outputs": the row of a listing, at its term
unfoldable pub term_row : ℕ → ℕ → List ℕ → Option RowLine
term_row n m l = row_said (headed 3 (bytes "term") l) (cube_said n (field 1 l)) (outputs m (field 2 l))

-- the row of either kind of line
abbrev pub of_kind : {A : Type 0} → Kind → A → A → A
of_kind Table table listing = table
of_kind Listing table listing = listing

-- a row, or "`end`"
unfoldable pub row_line : Grammar → List ℕ → Option RowLine
row_line g l = cond (same l (bytes "end")) (Some End) (of_kind g.kind (on_row g.m l) (term_row g.n g.m l))

-- ---- the lines

-- the values that lines give to the 256 places; "A refusal returns its number and the line"
pub data RowsRead : Type 0 where
  rows : (values : List ℕ) → RowsRead
  refused : (why : Refusal) (line : ℕ) → RowsRead

-- "a missing byte 10" is refusal 1; "The text stops where a line should begin and no `end` line has come" is refusal 6
unfoldable pub unfinished : List ℕ → Refusal
unfinished [] = TextEnd
unfinished (b ∷ l) = BrokenLine

-- "`end`, and no byte after its line": what stands after the `end` line is a line begun, and lines
unfoldable pub ended : ℕ → List ℕ → List ℕ → List (List ℕ) → RowsRead
ended line values [] [] = rows values
ended line values [] (l ∷ ls) = refused TextEnd (line + 1)
ended line values (b ∷ l) ls = refused TextEnd (line + 1)

-- one line of n inputs; `least` is one more than the place before: "A point is 2^n or more, or not above the one before" is refusal 5, and so is
-- "a term whose t is not above the one before", which the fitter's check tells by its own number
abbrev pub judged_row : Option RowLine → (n line least : ℕ) → List ℕ → RowsRead → (ℕ → List ℕ → RowsRead) → RowsRead
judged_row (Some (Row p v)) n line least values done next = cond (ltb p (2 ^ n) && leb least p) (next (p + 1) (set values p v)) (refused PointOrder line)
judged_row (Some End) n line least values done next = done
judged_row None n line least values done next = refused BrokenLine line

-- "Text is judged line by line, and the first bad line counts": from the line l on, by what `says` makes of each; the parts after it end in an
-- unfinished line
unfoldable pub later_lines : (List ℕ → Option RowLine) → (n line least : ℕ) → List ℕ → List ℕ → List (List ℕ) → RowsRead
later_lines says n line least values l [] = refused (unfinished l) line
later_lines says n line least values l (l' ∷ ls) =
    judged_row (says l) n line least values (ended line values l' ls) (λ least values. later_lines says n (line + 1) least values l' ls)

-- "Each line ends with byte 10": what a text means whose first byte begins the line of this number; "Points not listed are all zero."
abbrev pub rows_from : Grammar → ℕ → List ℕ → RowsRead
rows_from g line s = later_lines (row_line g) g.n line 0 (replicate 256 0) (parts 10 s).first (parts 10 s).others

-- ---- the answer

-- what each case of the answer stands for, with the values as they are left
unfoldable pub stands_for : Result (Unit {0}) Refused → List ℕ → RowsRead
stands_for (Ok passed) values = rows values
stands_for (Err e) values = refused e.refusal e.line
