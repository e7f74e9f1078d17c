-- The meaning of a text from a cursor on, one line at a time: what it is by what the line there says. The line is the bytes from the
-- cursor up to `to`, where the next byte 10 or the end of the text is.
use mathlib.Core.Bool.{Bool, true, false, ◌&&◌}
use mathlib.Core.List.{List}
use mathlib.Core.Path.{◌≡◌, refl, sym, ap, ◌∙◌}
use Prim.Native.Nat.{ℕ, ◌+◌, ◌-◌, ◌^◌, ◌<◌, ◌≤◌}
use native.Mathlib.Omega.{arith}
use lib.Dec.{eqb, leb, ltb}
use lib.ListN.{length, get_or, take, drop, set}
use Rattle.listings.specs.Parts.{with_byte, parts}
use Rattle.listings.specs.Inner.Stops.{stop}
use Rattle.listings.proofs.Parts.{first-slice, others-last, others-next, parts-step, parts-end, stop_le}
use Rattle.fields.specs.declared.cursor.Cursor.{Cursor}
use Rattle.lines.specs.declared.rows.Grammar.{Grammar}
use Rattle.std.specs.Prelude.{Some, None, Err}
use Rattle.numbers.specs.Refusals.{declined}
use Rattle.numbers.specs.declared.refusals.Refusal.{Refusal}
use Rattle.numbers.specs.declared.refusals.Refused.{Refused}
use Rattle.numbers.specs.declared.refusals.Refusal.TheVariants.{BrokenLine, PointOrder, TextEnd}
use Rattle.lines.specs.declared.rows.RowLine.TheVariants.{Row, End}
use Rattle.lines.specs.Rows.{rows, refused, row_line, unfinished, ended, judged_row, later_lines}
use Rattle.lines.specs.Inner.Steps.{rows_at, Within, Stepped}

-- ---- after the `end` line

module _ (line : ℕ) (values s : List ℕ) (i : ℕ) where
  ended-none : length s ≤ i → ended line values (parts 10 (drop i s)).first (parts 10 (drop i s)).others ≡ rows values
  unfolding ended
  ended-none h = rw (parts-end 10 s i h)

  ended-more : i < length s → ended line values (parts 10 (drop i s)).first (parts 10 (drop i s)).others ≡ refused TextEnd (line + 1)
  unfolding ended
  ended-more h = rw (parts-step 10 s i h) (go (eqb (get_or s i 0) 10)) where
    go : (t : Bool)
        → ended line values (with_byte t (get_or s i 0) (parts 10 (drop (i + 1) s))).first (with_byte t (get_or s i 0) (parts 10 (drop (i + 1) s))).others
        ≡ refused TextEnd (line + 1)
    go true = refl
    go false = refl

-- ---- a line, by what it says

module _ (s : List ℕ) (g : Grammar) (c : Cursor) (least : ℕ) (values : List ℕ) (w : Within s c) (to : ℕ) (e : to ≡ stop 10 s c.at) where
  line_first : take (to - c.at) (drop c.at s) ≡ (parts 10 (drop c.at s)).first
  line_first = rw e (first-slice 10 s c.at)

  pub lines-unfinished : to ≡ length s → rows_at s g c least values ≡ refused (unfinished (take (to - c.at) (drop c.at s))) c.line
  unfolding later_lines
  lines-unfinished h = rw (line_first, others-last 10 s c.at (omega arith))

  pub lines-inside : (to ≡ length s → ⊥) → to < length s
  lines-inside h = omega (arith, stop_le 10 s c.at w.inside)

  lines-judged : (to ≡ length s → ⊥)
      → rows_at s g c least values
      ≡ judged_row (row_line g (take (to - c.at) (drop c.at s))) g.n c.line least values
      (ended c.line values (parts 10 (drop (to + 1) s)).first (parts 10 (drop (to + 1) s)).others)
      (λ least values. later_lines (row_line g) g.n (c.line + 1) least values (parts 10 (drop (to + 1) s)).first (parts 10 (drop (to + 1) s)).others)
  unfolding later_lines
  lines-judged h =
      let next : (parts 10 (drop c.at s)).others ≡ _ = others-next 10 s c.at (omega (arith, lines-inside h)) in
      rw (line_first, next, e)

  pub lines-wrong : (to ≡ length s → ⊥) → row_line g (take (to - c.at) (drop c.at s)) ≡ None → rows_at s g c least values ≡ refused BrokenLine c.line
  lines-wrong h says = lines-judged h ∙ rw says

  pub lines-done : (to ≡ length s → ⊥) → row_line g (take (to - c.at) (drop c.at s)) ≡ Some End → to + 1 ≡ length s → rows_at s g c least values ≡ rows values
  lines-done h says last = lines-judged h ∙ rw says (ended-none c.line values s (to + 1) (omega arith))

  pub lines-follow : (to ≡ length s → ⊥) → row_line g (take (to - c.at) (drop c.at s)) ≡ Some End → (to + 1 ≡ length s → ⊥)
      → rows_at s g c least values ≡ refused TextEnd (c.line + 1)
  lines-follow h says more = lines-judged h ∙ rw says (ended-more c.line values s (to + 1) (omega (arith, lines-inside h)))

  pub lines-place : (p v : ℕ) → (to ≡ length s → ⊥) → row_line g (take (to - c.at) (drop c.at s)) ≡ Some (Row p v)
      → (ltb p (2 ^ g.n) && leb least p) ≡ false → rows_at s g c least values ≡ refused PointOrder c.line
  lines-place p v h says test = lines-judged h ∙ rw (says, test)

  pub lines_next : (p v : ℕ) (d : Cursor) → (to ≡ length s → ⊥) → row_line g (take (to - c.at) (drop c.at s)) ≡ Some (Row p v)
      → (ltb p (2 ^ g.n) && leb least p) ≡ true → d.at ≡ to + 1 → d.line ≡ c.line + 1
      → rows_at s g c least values ≡ rows_at s g d (p + 1) (set values p v)
  lines_next p v d h says test at line = lines-judged h ∙ rw (says, test, at, line)

  -- a step that refuses the line
  pub stepped_refused : (why : Refusal) (line : ℕ) (r : Refused) (after : List ℕ) → r ≡ declined why line → rows_at s g c least values ≡ refused why line
      → Stepped s c g least values (Err r) after
  stepped_refused why line r after told h = record { meaning = ap (λ (r : Refused). refused r.refusal r.line) told ∙ sym h; forward = tt }
