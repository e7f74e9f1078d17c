-- The lines of a table's points: those that are written for a table are read as it (`points-written`), and lines that are read are those that are
-- written for the table that was read (`points-read`).
use mathlib.Core.Bool.{Bool, true, false}
use mathlib.Core.List.{List, [], ◌++◌}
use mathlib.Core.Path.{◌≡◌, refl, sym, ap, ◌∙◌}
use Prim.Native.Nat.{ℕ, ◌^◌, ◌≤◌, ◌<◌}
use native.Mathlib.Decide.{ℕ_discrete}
use native.Mathlib.Omega.{arith}
use borrow.Author.Tests.{ltb-false}
use lib.Dec.{ltb}
use lib.ListN.{replicate}
use lib.Pow.{pow_pos}
use Rattle.numbers.specs.Bytes.{at, tabulate}
use Rattle.numbers.specs.Tests.{only}
use Rattle.numbers.proofs.Bytes.{is-table}
use Rattle.numbers.proofs.Shifts.{points-le}
use Rattle.listings.specs.Parts.{bytes}
use Rattle.listings.specs.Listing.{line}
use Rattle.listings.proofs.Parts.{separated}
use Rattle.lines.specs.Rows.{table_grammar, rows, row_line, later_lines, rows_from}
use Rattle.lines.proofs.LineKinds.{Held, rows_written, parts-read}
use Rattle.lines.specs.FirstBad.{OnLine}
use Rattle.lines.proofs.RowLines.{table-kind}
use Rattle.table_texts.specs.Accepted.{Table}
use Rattle.table_texts.specs.TableTexts.{point_line, point_lines}

module _ (n m : ℕ) (few : n ≤ 8) where
  pub table-held : (t : List ℕ) → Held (2 ^ n) (OnLine m) t → Table n m t
  table-held t g = record { long = g.long; small = λ p. go p (ℕ_discrete (at t p) 0); rest = g.rest } where
    go : (p : ℕ) → Dec (at t p ≡ 0) → at t p < 2 ^ m
    go p (yes e) = rw e (pow_pos m)
    go p (no e) = (g.each p e).below

  -- the line l and the parts after it
  pub points-read : (number : ℕ) (l : List ℕ) (ls : List (List ℕ)) (t : List ℕ)
      → later_lines (row_line (table_grammar n m)) n number 0 (replicate 256 0) l ls ≡ rows t
      → (l ++ separated 10 ls ≡ point_lines m (at t) (2 ^ n) ++ line (bytes "end") []) × Table n m t
  unfolding point_line
  points-read number l ls t e =
      let read = parts-read n (row_line (table_grammar n m)) (bytes "on") _ (OnLine m) (table-kind n m) (points-le n few) number l ls t e in
      (read.0, table-held t read.1)

  table-rows : (t : List ℕ) → Table n m t → t ≡ tabulate 256 (λ p. only (ltb p (2 ^ n)) (at t p))
  unfolding only
  table-rows t g = is-table 256 (λ p. only (ltb p (2 ^ n)) (at t p)) t g.long (λ p h. go p (ltb p (2 ^ n)) refl) where
    go : (p : ℕ) (b : Bool) → ltb p (2 ^ n) ≡ b → at t p ≡ only b (at t p)
    go p true e = refl
    go p false e = g.rest p (ltb-false p (2 ^ n) e)

  pub points-written : (number : ℕ) (t : List ℕ) → Table n m t
      → rows_from (table_grammar n m) number (point_lines m (at t) (2 ^ n) ++ line (bytes "end") []) ≡ rows t
  unfolding point_line
  points-written number t g =
      rows_written n (row_line (table_grammar n m)) (bytes "on") _ (OnLine m) (table-kind n m) (points-le n few) number (at t)
      (λ p h some. record { digits = omega (arith, points-le n few); below = g.small p; some = some })
      ∙ ap rows (sym (table-rows t g))
