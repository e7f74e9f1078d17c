-- Every text is decided in words, once for both kinds of line: lines of the kind, with their places ascending, stand in front, and what follows them is the
-- `end` line, or what may not follow (`decided`). So the words of the refusals leave no text out.
use mathlib.Core.List.{List, [], ◌∷◌, ◌++◌, append-nil}
use mathlib.Core.Path.{◌≡◌, sym, ap, subst, ◌∙◌}
use Prim.Native.Nat.{ℕ, zero, suc, ◌+◌, ◌^◌, ◌≤◌, ◌<◌}
use native.Mathlib.Decide.{dec_le, dec_lt}
use native.Mathlib.Omega.{arith}
use lib.ListN.{length, set, replicate, length-append}
use Rattle.numbers.specs.Bytes.{at}
use Rattle.numbers.specs.Nonzero.{over_nonzero}
use Rattle.numbers.proofs.Nonzero.{over_nonzero-zero}
use Rattle.listings.specs.Listing.{tabbed, line}
use Rattle.std.specs.Prelude.{Option}
use Rattle.lines.specs.declared.rows.RowLine.{RowLine}
use Rattle.lines.specs.FirstBad.{Above, end_line, NoEnd}
use Rattle.lines.proofs.LineKinds.{LineKind, row_lines, Held, held_none, held_more, here, lines_next}
use Rattle.lines.proofs.FirstBad.{NoRow, Next, next}

-- a line is not empty
line-long : (word more : List ℕ) (fs : List (List ℕ)) → length more < length (line word fs ++ more)
unfolding line
line-long word more fs = omega (arith, length-append (word ++ tabbed fs ++ 10 ∷ []) more, length-append (word ++ tabbed fs) (10 ∷ []))

module _ (n : ℕ) (says : List ℕ → Option RowLine) (word : List ℕ) (fields_of : ℕ → ℕ → List (List ℕ)) (Value : ℕ → ℕ → Type 0)
    (kind : LineKind says word fields_of Value) (low : 2 ^ n ≤ 256) where
  -- the lines that stand in front, of the places at which u is not 0
  abbrev pub front : List ℕ → List ℕ
  front u = row_lines word fields_of (at u) (2 ^ n)

  -- what follows them
  pub data Follows (u : List ℕ) (rest : List ℕ) : Type 0 where
    ends : rest ≡ end_line → Follows u rest
    begins : NoRow n says word fields_of Value kind low rest → NoEnd rest → Follows u rest
    misplaced : (p v : ℕ) (more : List ℕ) → Value p v → (p < 2 ^ n → Above (2 ^ n) (at u) p → ⊥) → rest ≡ line word (fields_of p v) ++ more → Follows u rest
    continues : (b : ℕ) (more : List ℕ) → rest ≡ end_line ++ b ∷ more → Follows u rest

  pub record Decided (s : List ℕ) : Type 0 where
    pub values : List ℕ
    pub rest : List ℕ
    pub held : Held (2 ^ n) Value values
    pub characters : s ≡ front values ++ rest
    pub follows : Follows values rest

  module _ (least : ℕ) (t s : List ℕ) (g : Held least Value t) (inside : least ≤ 2 ^ n) (listed : (p : ℕ) → Above (2 ^ n) (at t) p → least ≤ p) where
    -- the lines of the places below `least` are all the lines of t
    whole : (rest : List ℕ) → row_lines word fields_of (at t) least ++ rest ≡ front t ++ rest
    whole rest = ap (λ (l : List ℕ). l ++ rest) (sym (over_nonzero-zero (λ q. line word (fields_of q (at t q))) (at t) least (2 ^ n) g.rest inside))

    here-decided : Follows t s → Decided (row_lines word fields_of (at t) least ++ s)
    here-decided f =
        record { values = t; rest = s; held = record { long = g.long; rest = λ p h. g.rest p (omega arith); each = g.each }; characters = whole s; follows = f }

    -- the same of what follows a line more
    abbrev Later : Type 0
    Later =
        (p v : ℕ) (more : List ℕ) → length more < length s → Held (p + 1) Value (set t p v) → p + 1 ≤ 2 ^ n
        → ((q : ℕ) → Above (2 ^ n) (at (set t p v)) q → p + 1 ≤ q) → Decided (row_lines word fields_of (at (set t p v)) (p + 1) ++ more)

    step : Later → Decided (row_lines word fields_of (at t) least ++ s)
    step later = go (next n says word fields_of Value kind low 0 least t s) where
      last_line : (more : List ℕ) → s ≡ end_line ++ more → Follows t s
      last_line [] e = ends (e ∙ append-nil end_line)
      last_line (b ∷ more) e = continues b more e

      placed : (p v : ℕ) (more : List ℕ) → Value p v → s ≡ line word (fields_of p v) ++ more → Dec (p < 2 ^ n) → Dec (least ≤ p)
          → Decided (row_lines word fields_of (at t) least ++ s)
      placed p v more value e (yes below) (yes above) =
          let at_p = here Value least t g p v above (omega (arith, low)) value in
          subst Decided (sym (ap (λ (r : List ℕ). row_lines word fields_of (at t) least ++ r) e ∙ lines_next n says word fields_of Value kind low least t p v more g above below value))
          (later p v more (rw e (line-long word more (fields_of p v))) (held_more Value least t g p v above (omega (arith, low)) value) (omega arith)
          (λ q h. omega (arith, h p below (λ z. kind.some p v value (sym at_p ∙ z)))))
      placed p v more value e (no far) d = here-decided (misplaced p v more value (λ h above. far h) e)
      placed p v more value e (yes below) (no under) = here-decided (misplaced p v more value (λ h above. under (listed p above)) e)

      go : Next n says word fields_of Value kind low 0 least t s → Decided (row_lines word fields_of (at t) least ++ s)
      go (Next.broken e none unended) = here-decided (begins none unended)
      go (Next.row p v more value e) = placed p v more value e (dec_lt p (2 ^ n)) (dec_le least p)
      go (Next.last more e) = here-decided (last_line more e)

  from : (fuel least : ℕ) (t s : List ℕ) → length s ≤ fuel → Held least Value t → least ≤ 2 ^ n → ((p : ℕ) → Above (2 ^ n) (at t) p → least ≤ p)
      → Decided (row_lines word fields_of (at t) least ++ s)
  from zero least t s short g inside listed = step least t s g inside listed (λ p v more l h i k. absurd (omega arith))
  from (suc fuel) least t s short g inside listed =
      step least t s g inside listed (λ p v more l h i k. from fuel (p + 1) (set t p v) more (omega arith) h i k)

  pub decided : (s : List ℕ) → Decided s
  unfolding over_nonzero
  decided s = from (length s) 0 (replicate 256 0) s (omega arith) (held_none Value) (omega arith) (λ p h. omega arith)
