-- The refusal of lines: its number is 1 to 6, and its line is the first of them or a later one, at most one after the last (`rows-refused-in`).
use mathlib.Core.Bool.{Bool, true, false, cond, ◌&&◌}
use mathlib.Core.List.{List, [], ◌∷◌}
use Prim.Native.Nat.{ℕ, suc, ◌+◌, ◌^◌, ◌≤◌}
use native.Mathlib.Omega.{arith}
use lib.Dec.{leb, ltb}
use lib.ListN.{length, set}
use Rattle.std.specs.Prelude.{Option, Some, None}
use Rattle.numbers.specs.Refusals.{number_of}
use Rattle.numbers.specs.declared.refusals.Refusal.TheVariants.{PointOrder}
use Rattle.lines.specs.declared.rows.RowLine.{RowLine}
use Rattle.lines.specs.declared.rows.RowLine.TheVariants.{Row, End}
use Rattle.lines.specs.Rows.{RowsRead, rows, refused, unfinished, ended, judged_row, later_lines}

-- a refusal by 1 to 6, on a line from `least` to `most`
abbrev pub RowsRefusedIn : ℕ → ℕ → RowsRead → Type 0
RowsRefusedIn least most (rows values) = Unit
RowsRefusedIn least most (refused why l) = ((1 ≤ number_of why) × (number_of why ≤ 6)) × ((least ≤ l) × (l ≤ most))

widen : (a b c d : ℕ) (x : RowsRead) → c ≤ a → b ≤ d → RowsRefusedIn a b x → RowsRefusedIn c d x
widen a b c d (rows values) h g r = tt
widen a b c d (refused why l) h g r = (r.0, (omega arith, omega arith))

pub unfinished-in : (l : List ℕ) → (1 ≤ number_of (unfinished l)) × (number_of (unfinished l) ≤ 6)
unfolding unfinished
unfinished-in [] = (omega arith, omega arith)
unfinished-in (b ∷ l) = (omega arith, omega arith)

ended-in : (k : ℕ) (values l : List ℕ) (ls : List (List ℕ)) → RowsRefusedIn k (k + 1) (ended k values l ls)
unfolding ended
ended-in k values [] [] = tt
ended-in k values [] (l ∷ ls) = ((omega arith, omega arith), (omega arith, omega arith))
ended-in k values (b ∷ l) ls = ((omega arith, omega arith), (omega arith, omega arith))

-- from the line k on, with as many lines after it as stand in ls
pub rows-refused-in : (says : List ℕ → Option RowLine) (n : ℕ) (ls : List (List ℕ)) (k least : ℕ) (values l : List ℕ)
    → RowsRefusedIn k (k + length ls) (later_lines says n k least values l ls)
unfolding later_lines
rows-refused-in says n [] k least values l = (unfinished-in l, (omega arith, omega arith))
rows-refused-in says n (l' ∷ ls) k least values l = judging (says l) (λ p t. rows-refused-in says n ls (k + 1) p t l') where
  tested : (b : Bool) (x : RowsRead) → RowsRefusedIn (k + 1) (k + 1 + length ls) x → RowsRefusedIn k (k + suc (length ls)) (cond b x (refused PointOrder k))
  tested true x ih = widen (k + 1) (k + 1 + length ls) k (k + suc (length ls)) x (omega arith) (omega arith) ih
  tested false x ih = ((omega arith, omega arith), (omega arith, omega arith))

  judging : (x : Option RowLine) → ((p : ℕ) (t : List ℕ) → RowsRefusedIn (k + 1) (k + 1 + length ls) (later_lines says n (k + 1) p t l' ls))
      → RowsRefusedIn k (k + suc (length ls))
      (judged_row x n k least values (ended k values l' ls) (λ least values. later_lines says n (k + 1) least values l' ls))
  judging (Some (Row p v)) ih = tested (ltb p (2 ^ n) && leb least p) _ (ih (p + 1) (set values p v))
  judging (Some End) ih = widen k (k + 1) k (k + suc (length ls)) (ended k values l' ls) (omega arith) (omega arith) (ended-in k values l' ls)
  judging None ih = ((omega arith, omega arith), (omega arith, omega arith))
