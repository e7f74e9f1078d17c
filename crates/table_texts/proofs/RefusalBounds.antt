-- The refusal of a text: its number is 1 to 6, and its line is at least 1 and at most one more than the text has bytes (`reading-refused`).
use mathlib.Core.List.{List, [], ◌∷◌}
use mathlib.Core.Path.{◌≡◌}
use Prim.Native.Nat.{ℕ, suc, ◌+◌, ◌≤◌}
use native.Mathlib.Omega.{arith}
use lib.ListN.{length, replicate}
use Rattle.std.specs.Prelude.{Option, Some, None, Ok, Err}
use Rattle.numbers.specs.declared.refusals.Refusal.{Refusal}
use Rattle.numbers.specs.declared.refusals.Refusal.TheVariants.{BrokenLine, InputCount, OutputCount, MixedCount, PointOrder, TextEnd, PolarityRange, BufferLength, HighBit, OutputRoom, BrokenListing, UnlikeListing}
use Rattle.numbers.specs.Refusals.{number_of, Judgement}
use Rattle.numbers.proofs.refusals.Judging.{number_told}
use Rattle.listings.specs.Parts.{parts}
use Rattle.listings.proofs.Parts.{others-le}
use Rattle.lines.specs.Rows as rows
use Rattle.lines.specs.Rows.{RowsRead, table_grammar, row_line}
use Rattle.lines.proofs.Refusals.{RowsRefusedIn, unfinished-in, rows-refused-in}
use Rattle.table_texts.specs.declared.sizes.Design.{Design}
use Rattle.table_texts.specs.Design.{design_refusal}
use Rattle.table_texts.specs.First.{first_line}
use Rattle.table_texts.specs.Inner.Reading.{Reading, given, refused, with_design, design_judged, judged_first, opened, all_lines, reading}
use Rattle.table_texts.proofs.Design.{design-most}

-- a refusal by 1 to 6, on a line from `least` to `most`
abbrev RefusedIn : ℕ → ℕ → Reading → Type 0
RefusedIn least most (given z table) = Unit
RefusedIn least most (refused why l) = ((1 ≤ number_of why) × (number_of why ≤ 6)) × ((least ≤ l) × (l ≤ most))

refused-widen : (a b c d : ℕ) (x : Reading) → c ≤ a → b ≤ d → RefusedIn a b x → RefusedIn c d x
refused-widen a b c d (given z table) h g r = tt
refused-widen a b c d (refused why l) h g r = (r.0, (omega arith, omega arith))

-- the sizes with what the lines after the first give
with_in : (a b c d : ℕ) (z : Design) (x : RowsRead) → c ≤ a → b ≤ d → RowsRefusedIn a b x → RefusedIn c d (with_design z x)
unfolding with_design
with_in a b c d z (rows.rows values) h g r = tt
with_in a b c d z (rows.refused why l) h g r = (r.0, (omega arith, omega arith))

-- a refusal has a number that is not 0
positive : (why : Refusal) → 1 ≤ number_of why
positive BrokenLine = omega arith
positive InputCount = omega arith
positive OutputCount = omega arith
positive MixedCount = omega arith
positive PointOrder = omega arith
positive TextEnd = omega arith
positive PolarityRange = omega arith
positive BufferLength = omega arith
positive HighBit = omega arith
positive OutputRoom = omega arith
positive BrokenListing = omega arith
positive UnlikeListing = omega arith

-- what the first line leads to
opened_in : (x : Option Design) (next : Design → Reading) (most : ℕ) → 1 ≤ most → ((z : Design) → RefusedIn 2 most (next z))
    → RefusedIn 1 most (opened (judged_first x) next)
unfolding judged_first
opened_in None next most h ih = ((omega arith, omega arith), (omega arith, h))
opened_in (Some z) next most h ih = by-sizes (design_refusal z) (design-most z) where
  by-sizes : (x : Judgement) → number_told x ≤ 4 → RefusedIn 1 most (opened (design_judged x z) next)
  by-sizes (Ok passed) g = refused-widen 2 most 1 most (next z) (omega arith) (omega arith) (ih z)
  by-sizes (Err why) g = ((positive why, omega arith), (omega arith, h))

all_lines-in : (l : List ℕ) (ls : List (List ℕ)) → RefusedIn 1 (length ls + 1) (all_lines l ls)
unfolding all_lines
all_lines-in l [] = (unfinished-in l, (omega arith, omega arith))
all_lines-in l (l' ∷ ls) =
    opened_in (first_line l) _ (suc (length ls) + 1) (omega arith)
    (λ z.
    with_in 2 (2 + length ls) 2 (suc (length ls) + 1) z _ (omega arith) (omega arith)
    (rows-refused-in (row_line (table_grammar z.n z.m)) z.n ls 2 0 (replicate 256 0) l'))

reading-in : (s : List ℕ) → RefusedIn 1 (length s + 1) (reading s)
unfolding reading
reading-in s =
    refused-widen 1 (length (parts 10 s).others + 1) 1 (length s + 1) (all_lines (parts 10 s).first (parts 10 s).others) (omega arith)
    (omega (arith, others-le 10 s)) (all_lines-in (parts 10 s).first (parts 10 s).others)

pub reading-refused : (s : List ℕ) (why : Refusal) (l : ℕ) → reading s ≡ refused why l
    → ((1 ≤ number_of why) × (number_of why ≤ 6)) × ((1 ≤ l) × (l ≤ length s + 1))
reading-refused s why l e = rw e at (reading-in s)
