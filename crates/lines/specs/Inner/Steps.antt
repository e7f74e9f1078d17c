-- Judging a text from a cursor on. The contracts of the functions that judge lines say by these that a step from line to line leaves the
-- meaning of the text as it is.
use Rattle.std.specs.Prelude.{List, ◌≡◌, ℕ, ◌+◌, ◌*◌, ◌≤◌, ◌<◌, length, drop, Option, Some, None, Result, Ok, Err}
use Rattle.numbers.specs.declared.refusals.Refused.{Refused}
use Rattle.listings.specs.Parts.{parts}
use Rattle.fields.specs.declared.cursor.Cursor.{Cursor}
use Rattle.fields.specs.declared.values.Cube.{Cube}
use Rattle.lines.specs.declared.rows.Grammar.{Grammar}
use Rattle.lines.specs.declared.judge.NextRow.{NextRow}
use Rattle.lines.specs.Rows.{RowsRead, rows, refused, row_line, later_lines}

-- what the lines from a cursor on mean, where places must be `least` or more
abbrev pub rows_at : List ℕ → Grammar → Cursor → ℕ → List ℕ → RowsRead
rows_at s g c least values =
    later_lines (row_line g) g.n c.line least values (parts 10 (drop c.at s)).first (parts 10 (drop c.at s)).others

-- a cursor stands in the text, each line before it at least one byte long
pub record Within (s : List ℕ) (c : Cursor) : Type 0 where
  pub inside : c.at ≤ length s
  pub counted : c.line ≤ c.at + 1

-- a step from line to line: to the next line, with the least place that it may have; to the end; or a refusal
abbrev pub Step : Type 0
Step = Result (Option NextRow) Refused

-- what a step stands for, with the values that it leaves
abbrev pub continued : List ℕ → Grammar → Step → List ℕ → RowsRead
continued s g (Ok (Some next)) values = rows_at s g next.cursor next.least values
continued s g (Ok None) values = rows values
continued s g (Err e) values = refused e.refusal e.line

-- a step to a next line goes forward
abbrev pub Advances : List ℕ → ℕ → Step → Type 0
Advances s at (Ok (Some next)) = (at < next.cursor.at) × Within s next.cursor
Advances s at (Ok None) = Unit
Advances s at (Err e) = Unit

-- a step from a cursor: it leaves the meaning of the text as it is
pub record Stepped (s : List ℕ) (c : Cursor) (g : Grammar) (least : ℕ) (values : List ℕ) (r : Step) (after : List ℕ) : Type 0 where
  pub meaning : continued s g r after ≡ rows_at s g c least values
  pub forward : Advances s c.at r

-- the value of a row with this place and these outputs is one of 16 bits
abbrev pub SmallRow : Option Cube → Option ℕ → Type 0
SmallRow place said = (c : Cube) (o : ℕ) → place ≡ Some c → said ≡ Some o → c.complemented * 256 + o < 65536
