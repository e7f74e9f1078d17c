-- What a table text means, as a function: its design and its table, or the refusal that it meets. Which texts are accepted, and by what the others are refused, is
-- said in words by `ReadTable`: no promise rests on this file. Document 01, "Text in, listing out" and "Why a call declines".
use Rattle.std.specs.Prelude.{cond, List, [], ◌∷◌, ℕ, eqb, replicate, Option, Some, None, Result, Ok, Err}
use Rattle.numbers.specs.declared.refusals.Refusal.{Refusal}
use Rattle.numbers.specs.declared.refusals.Refusal.TheVariants.{BrokenLine, BufferLength}
use Rattle.numbers.specs.declared.refusals.Refused.{Refused}
use Rattle.numbers.specs.Refusals.{Judgement, declined}
use Rattle.listings.specs.Parts.{parts}
use Rattle.lines.specs.Rows as later
use Rattle.lines.specs.Rows.{RowsRead, table_grammar, row_line, unfinished, later_lines}
use Rattle.table_texts.specs.declared.sizes.Design.{Design}
use Rattle.table_texts.specs.Design.{design_refusal}
use Rattle.table_texts.specs.First.{first_line}

-- "returns n, m, k", of k "the kind of k", and "the family too", and "fills a lent table of 256 bytes"; "A refusal returns its number and the line"
pub data Reading : Type 0 where
  given : (design : Design) (table : List ℕ) → Reading
  refused : (why : Refusal) (line : ℕ) → Reading

-- the design with the table that the lines after the first give, or their refusal
unfoldable pub with_design : Design → RowsRead → Reading
with_design design (later.rows table) = given design table
with_design design (later.refused why line) = refused why line

-- the design where it is not refused, and else its refusal, in line 1
abbrev pub design_judged : Judgement → Design → Result Design Refused
design_judged (Ok passed) design = Ok design
design_judged (Err why) design = Err (declined why 1)

-- "In line 1 the order is 1, 2, 3, 4."
unfoldable pub judged_first : Option Design → Result Design Refused
judged_first None = Err (declined BrokenLine 1)
judged_first (Some design) = design_judged (design_refusal design) design

-- what follows the first line, where it is not refused
abbrev pub opened : Result Design Refused → (Design → Reading) → Reading
opened (Ok design) next = next design
opened (Err e) next = refused e.refusal e.line

-- the lines after the first, from line 2 on, of the design that the first one says: "Points not listed are all zero."
abbrev pub from_second : List ℕ → List (List ℕ) → Design → Reading
from_second l ls design = with_design design (later_lines (row_line (table_grammar design.n design.m)) design.n 2 0 (replicate 256 0) l ls)

-- the first line, and the lines after it
unfoldable pub all_lines : List ℕ → List (List ℕ) → Reading
all_lines l [] = refused (unfinished l) 1
all_lines l (l' ∷ ls) = opened (judged_first (first_line l)) (from_second l' ls)

-- "Each line ends with byte 10": what a text means
unfoldable pub reading : List ℕ → Reading
reading s = all_lines (parts 10 s).first (parts 10 s).others

-- "8. A lent table .. has another length than its call states": the text is judged first
unfoldable pub lent : Reading → ℕ → Reading
lent (given design table) room = cond (eqb room 256) (given design table) (refused BufferLength 0)
lent (refused why line) room = refused why line

-- what each case of the answer stands for, with the lent table as the call leaves it
unfoldable pub stands_for : Result Design Refused → List ℕ → Reading
stands_for (Ok design) table = given design table
stands_for (Err e) table = refused e.refusal e.line

-- what the lent table holds after a reading; under a refusal it is as it was
unfoldable pub table_after : Reading → List ℕ → List ℕ
table_after (given design table) before = table
table_after (refused why line) before = before
