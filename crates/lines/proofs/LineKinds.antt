-- The lines after the first, stated once for both kinds of line (`LineKind`). The lines that are written for values are read as these values
-- (`rows_written`); and lines that are read are the lines that are written for what was read, whose values are as the kind has them (`rows-read`).
use mathlib.Core.Bool.{Bool, true, false, cond, ◌&&◌}
use mathlib.Core.List.{List, [], ◌∷◌, ◌++◌, append_assoc}
use mathlib.Core.Path.{◌≡◌, refl, sym, ap, ap₂, subst, ◌∙◌}
use Prim.Native.Nat.{ℕ, zero, suc, ◌+◌, ◌^◌, ◌≤◌, ◌<◌}
use native.Mathlib.Decide.{ℕ_discrete}
use native.Mathlib.Nat.{not-suc-le-zero}
use native.Mathlib.Numerals.{add-one}
use native.Mathlib.Omega.{arith}
use borrow.Author.Tests.{lt-ltb, le-leb, ltb-true, ltb-false, leb-true, eqb-true, eqb-false}
use lib.Dec.{leb, ltb, eqb}
use lib.ListN.{length, get_or, set, replicate, length-set, length-replicate}
use lib.Seq.{get_or-set_same, get_or-set_other, set-get_or}
use Rattle.numbers.specs.Bytes.{at, tabulate}
use Rattle.numbers.specs.Nonzero.{if_nonzero, over_nonzero}
use Rattle.numbers.specs.Tests.{only}
use Rattle.numbers.proofs.Bytes.{Filled, filled_none, filled_more, is-table}
use Rattle.numbers.proofs.Nonzero.{nonzero-some, over_nonzero-more, over_nonzero-ext, over_nonzero-zero}
use Rattle.numbers.proofs.Tables.{get_d-zeros}
use Rattle.numbers.proofs.Tests.{both_left, both_right}
use Rattle.listings.specs.Parts.{Parts, parts, bytes}
use Rattle.listings.specs.Listing.{tabbed, line}
use Rattle.listings.proofs.Joined.{Plain, AllPlain, parts-lines}
use Rattle.listings.proofs.Parts.{separated, parts-joined}
use Rattle.std.specs.Prelude.{Option, Some, None}
use Rattle.numbers.specs.declared.refusals.Refusal.TheVariants.{PointOrder}
use Rattle.lines.specs.declared.rows.RowLine.{RowLine}
use Rattle.lines.specs.declared.rows.RowLine.TheVariants.{Row, End}
use Rattle.lines.specs.Rows.{RowsRead, rows, refused, ended, judged_row, later_lines}
use Rattle.lines.specs.FirstBad.{Above}

-- ---- a kind of line

-- the row that puts v at the place p is a line of the word and these fields, and v is a value of the kind there; and `end` is the line of the end
pub record LineKind (says : List ℕ → Option RowLine) (word : List ℕ) (fields_of : ℕ → ℕ → List (List ℕ)) (Value : ℕ → ℕ → Type 0) : Type 0 where
  pub plain : Plain word
  pub plain_fields : (p v : ℕ) → AllPlain (fields_of p v)
  pub some : (p v : ℕ) → Value p v → v ≡ 0 → ⊥
  pub row_is_said : (p v : ℕ) → Value p v → says (word ++ tabbed (fields_of p v)) ≡ Some (Row p v)
  pub row_read : (l : List ℕ) (p v : ℕ) → says l ≡ Some (Row p v) → (l ≡ word ++ tabbed (fields_of p v)) × Value p v
  pub end_said : says (bytes "end") ≡ Some End
  pub end_read : (l : List ℕ) → says l ≡ Some End → l ≡ bytes "end"

-- the lines of the places below N whose values are not 0; f p is the value of the place p
abbrev pub row_lines : List ℕ → (ℕ → ℕ → List (List ℕ)) → (ℕ → ℕ) → ℕ → List ℕ
row_lines word fields_of f N = over_nonzero (λ p. line word (fields_of p (f p))) f N

-- what the text s means where a line after the first begins with it
abbrev pub lines_from : (List ℕ → Option RowLine) → (n number least : ℕ) → List ℕ → List ℕ → RowsRead
lines_from says n number least values s = later_lines says n number least values (parts 10 s).first (parts 10 s).others

-- what holds of values: they are 256, 0 from the place N on, and those that are not 0 are of the kind
pub record Held (N : ℕ) (Value : ℕ → ℕ → Type 0) (t : List ℕ) : Type 0 where
  pub long : length t ≡ 256
  pub rest : (p : ℕ) → N ≤ p → at t p ≡ 0
  pub each : (p : ℕ) → (at t p ≡ 0 → ⊥) → Value p (at t p)

pub held_none : (Value : ℕ → ℕ → Type 0) → Held 0 Value (replicate 256 0)
held_none Value = record { long = length-replicate {A = ℕ} 256 0; rest = λ p h. get_d-zeros 256 p; each = λ p h. absurd (h (get_d-zeros 256 p)) }

module _ (Value : ℕ → ℕ → Type 0) (least : ℕ) (t : List ℕ) (g : Held least Value t) (p v : ℕ) (above : least ≤ p) (below : p < 256) (good : Value p v) where
  pub here : at (set t p v) p ≡ v
  here = get_or-set_same t p v 0 (omega (arith, g.long))

  other : (q : ℕ) → (q ≡ p → ⊥) → at (set t p v) q ≡ at t q
  other q e = get_or-set_other t p q v 0 e

  pub held_more : Held (p + 1) Value (set t p v)
  held_more =
      record {
        long = length-set t p v ∙ g.long;
        rest = λ q h. other q (λ e. omega arith) ∙ g.rest q (omega arith);
        each = λ q h. go q h (eqb q p) refl;
      }
    where
      go : (q : ℕ) → (at (set t p v) q ≡ 0 → ⊥) → (b : Bool) → eqb q p ≡ b → Value q (at (set t p v) q)
      go q h true e = rw (eqb-true q p e, here) good
      go q h false e = let same = other q (eqb-false q p e) in rw same (g.each q (λ z. h (same ∙ z)))

-- ---- the laws

-- no byte stands after the `end` line
ended-read : (number : ℕ) (t u l : List ℕ) (ls : List (List ℕ)) → ended number t l ls ≡ rows u → (t ≡ u) × (l ++ separated 10 ls ≡ [])
unfolding ended separated
ended-read number t u [] [] e = (cc, refl)
ended-read number t u [] (l ∷ ls) e = cc
ended-read number t u (b ∷ l) ls e = cc

pub end_line_lem : bytes "end" ++ 10 ∷ [] ≡ line (bytes "end") []
unfolding line tabbed bytes
end_line_lem = refl

pub line-ended : (word l s : List ℕ) (fs : List (List ℕ)) → l ≡ word ++ tabbed fs → l ++ 10 ∷ s ≡ line word fs ++ s
unfolding line
line-ended word l s fs e = rw e (sym (append_assoc (word ++ tabbed fs) (10 ∷ []) s))

module _ (n : ℕ) (says : List ℕ → Option RowLine) (word : List ℕ) (fields_of : ℕ → ℕ → List (List ℕ)) (Value : ℕ → ℕ → Type 0)
    (kind : LineKind says word fields_of Value) (low : 2 ^ n ≤ 256) where
  -- ---- what is written is read

  lines_more : (f : ℕ → ℕ) (N : ℕ) (s : List ℕ) (v : ℕ) → f N ≡ v
      → row_lines word fields_of f (suc N) ++ s ≡ row_lines word fields_of f N ++ (if_nonzero v (line word (fields_of N v)) ++ s)
  lines_more f N s v e =
      over_nonzero-more (λ p. line word (fields_of p (f p))) f N s
      ∙ ap (λ (v : ℕ). row_lines word fields_of f N ++ (if_nonzero v (line word (fields_of N v)) ++ s)) e

  row-passed : (number least : ℕ) (t : List ℕ) (p v : ℕ) (s : List ℕ) → p < 2 ^ n → least ≤ p → Value p v
      → lines_from says n number least t (line word (fields_of p v) ++ s) ≡ lines_from says n (number + 1) (p + 1) (set t p v) s
  unfolding later_lines
  row-passed number least t p v s below above good =
      rw (
        parts-lines word (fields_of p v) s kind.plain (kind.plain_fields p v),
        kind.row_is_said p v good,
        lt-ltb p (2 ^ n) below,
        le-leb least p above,
      )

  end-passed : (number least : ℕ) (t : List ℕ) → lines_from says n number least t (line (bytes "end") []) ≡ rows t
  unfolding later_lines ended line tabbed bytes parts
  end-passed number least t = rw kind.end_said

  -- the lines of the places below N have been read, and s is what follows them: its first line has the number `number`, and its place must be `least` or
  -- more, which is above the places before
  pub record Passed (start : ℕ) (f : ℕ → ℕ) (N : ℕ) (s : List ℕ) : Type 0 where
    pub number : ℕ
    pub least : ℕ
    pub values : List ℕ
    pub below : least ≤ N
    pub filled : Filled f N (replicate 256 0) values
    pub follows : lines_from says n start 0 (replicate 256 0) (row_lines word fields_of f N ++ s) ≡ lines_from says n number least values s
    pub counted : start + length (parts 10 (row_lines word fields_of f N ++ s)).others ≡ number + length (parts 10 s).others
    pub above : (p : ℕ) → least ≤ p → Above N f p
    pub listed : (p : ℕ) → Above N f p → least ≤ p

  module _ (start : ℕ) (f : ℕ → ℕ) (good : (p : ℕ) → p < 2 ^ n → (f p ≡ 0 → ⊥) → Value p (f p)) where
    filled_next : (N : ℕ) (t : List ℕ) (v : ℕ) → f N ≡ v → N < 2 ^ n → Filled f N (replicate 256 0) t → Filled f (suc N) (replicate 256 0) (set t N v)
    filled_next N t v e h w =
        let room : N < length t = omega (arith, w.long, length-replicate {A = ℕ} 256 0) in
        rw add-one at (filled_more f N (replicate 256 0) t v room (sym e) w)

    passed-more : (N : ℕ) (s : List ℕ) (v : ℕ) → f N ≡ v → N < 2 ^ n → Passed start f N (if_nonzero v (line word (fields_of N v)) ++ s) → Passed start f (suc N) s
    unfolding if_nonzero
    passed-more N s zero e h w =
        let none : get_or w.values N 0 ≡ 0 = w.filled.kept N (omega arith) ∙ get_d-zeros 256 N in
        let kept : set w.values N 0 ≡ w.values = rw none at (set-get_or w.values N 0) in
        record {
          number = w.number;
          least = w.least;
          values = set w.values N 0;
          below = omega (arith, w.below);
          filled = filled_next N w.values 0 e h w.filled;
          follows = rw (lines_more f N s 0 e, kept) w.follows;
          counted = rw (lines_more f N s 0 e) w.counted;
          above = λ p g q l some. w.above p g q (unlisted q l some) some;
          listed = λ p g. w.listed p (λ q l some. g q (omega arith) some);
        }
      where
        unlisted : (q : ℕ) → q < suc N → (f q ≡ 0 → ⊥) → q < N
        unlisted q l some = go (ℕ_discrete q N) where
          go : Dec (q ≡ N) → q < N
          go (yes same) = absurd (some (ap f same ∙ e))
          go (no other) = omega arith
    passed-more N s (suc v) e h w =
        let value : Value N (suc v) = rw e at (good N h (λ z. omega arith)) in
        record {
          number = w.number + 1;
          least = N + 1;
          values = set w.values N (suc v);
          below = omega arith;
          filled = filled_next N w.values (suc v) e h w.filled;
          follows = rw (lines_more f N s (suc v) e) (w.follows ∙ row-passed w.number w.least w.values N (suc v) s h w.below value);
          counted =
              let one = ap (λ (p : Parts). length p.others) (parts-lines word (fields_of N (suc v)) s kind.plain (kind.plain_fields N (suc v))) in
              rw (lines_more f N s (suc v) e) (omega (arith, w.counted, one));
          above = λ p g q l some. omega arith;
          listed = λ p g. omega (arith, g N (omega arith) (λ z. omega arith));
        }

    pub passed : (N : ℕ) (s : List ℕ) → N ≤ 2 ^ n → Passed start f N s
    unfolding over_nonzero
    passed zero s h =
        record {
          number = start;
          least = 0;
          values = replicate 256 0;
          below = omega arith;
          filled = filled_none f (replicate 256 0);
          follows = refl;
          counted = refl;
          above = λ p g q l some. absurd (not-suc-le-zero l);
          listed = λ p g. omega arith;
        }
    passed (suc N) s h = passed-more N s (f N) refl h (passed N (if_nonzero (f N) (line word (fields_of N (f N))) ++ s) (omega arith))

    -- the values as they are read: those of f below 2 ^ n, and 0 from there on
    values-read : (t : List ℕ) → Filled f (2 ^ n) (replicate 256 0) t → t ≡ tabulate 256 (λ p. only (ltb p (2 ^ n)) (f p))
    unfolding only
    values-read t w = is-table 256 (λ p. only (ltb p (2 ^ n)) (f p)) t (w.long ∙ length-replicate {A = ℕ} 256 0) (λ p h. go p (ltb p (2 ^ n)) refl) where
      go : (p : ℕ) (b : Bool) → ltb p (2 ^ n) ≡ b → at t p ≡ only b (f p)
      go p true e = w.done p (ltb-true p (2 ^ n) e)
      go p false e = w.kept p (ltb-false p (2 ^ n) e) ∙ get_d-zeros 256 p

    pub rows_written : lines_from says n start 0 (replicate 256 0) (row_lines word fields_of f (2 ^ n) ++ line (bytes "end") [])
        ≡ rows (tabulate 256 (λ p. only (ltb p (2 ^ n)) (f p)))
    rows_written =
        let w = passed (2 ^ n) (line (bytes "end") []) (omega arith) in
        w.follows ∙ end-passed w.number w.least w.values ∙ ap rows (values-read w.values w.filled)

  -- ---- what is read is what is written

  -- the text is the lines that are written for the values, and the `end` line; and the values are of the kind
  record Read (u s : List ℕ) : Type 0 where
    characters : s ≡ row_lines word fields_of (at u) (2 ^ n) ++ line (bytes "end") []
    held : Held (2 ^ n) Value u

  pub lines_next : (least : ℕ) (t : List ℕ) (p v : ℕ) (s : List ℕ) → Held least Value t → least ≤ p → p < 2 ^ n → Value p v
      → row_lines word fields_of (at t) least ++ (line word (fields_of p v) ++ s) ≡ row_lines word fields_of (at (set t p v)) (p + 1) ++ s
  lines_next least t p v s g above below good =
      let at_p = here Value least t g p v above (omega arith) good in
      let same : (q : ℕ) → q < p → at (set t p v) q ≡ at t q = λ q h. other Value least t g p v above (omega arith) good q (λ e. omega arith) in
      let before : row_lines word fields_of (at (set t p v)) p ≡ row_lines word fields_of (at t) p =
      over_nonzero-ext _ _ (at (set t p v)) (at t) p (λ q h. ap (λ (x : ℕ). if_nonzero x (line word (fields_of q x))) (same q h)) in
      let earlier : row_lines word fields_of (at t) p ≡ row_lines word fields_of (at t) least =
      over_nonzero-zero (λ q. line word (fields_of q (at t q))) (at t) least p g.rest above in
      rw (add-one, lines_more (at (set t p v)) p s v at_p, nonzero-some v (line word (fields_of p v)) (kind.some p v good), before, earlier)

  lines-read : (ls : List (List ℕ)) (number least : ℕ) (t u l : List ℕ) → Held least Value t → least ≤ 2 ^ n
      → later_lines says n number least t l ls ≡ rows u → Read u (row_lines word fields_of (at t) least ++ (l ++ separated 10 ls))
  unfolding later_lines separated
  lines-read [] number least t u l g inside e = cc
  lines-read (l' ∷ ls) number least t u l g inside e = judged (says l) refl (λ p v. lines-read ls (number + 1) (p + 1) (set t p v) u l') e where
    rest : List ℕ
    rest = l' ++ separated 10 ls

    Next : ℕ → ℕ → Type 0
    Next p v =
        Held (p + 1) Value (set t p v) → p + 1 ≤ 2 ^ n → later_lines says n (number + 1) (p + 1) (set t p v) l' ls ≡ rows u
        → Read u (row_lines word fields_of (at (set t p v)) (p + 1) ++ rest)

    tested : (p v : ℕ) (b : Bool) → (ltb p (2 ^ n) && leb least p) ≡ b → (l ≡ word ++ tabbed (fields_of p v)) × Value p v → Next p v
        → cond b (later_lines says n (number + 1) (p + 1) (set t p v) l' ls) (refused PointOrder number) ≡ rows u
        → Read u (row_lines word fields_of (at t) least ++ (l ++ 10 ∷ rest))
    tested p v true h row ih f =
        let below : p < 2 ^ n = ltb-true p (2 ^ n) (both_left (ltb p (2 ^ n)) (leb least p) h) in
        let above : least ≤ p = leb-true least p (both_right (ltb p (2 ^ n)) (leb least p) h) in
        let passes : row_lines word fields_of (at t) least ++ (l ++ 10 ∷ rest) ≡ row_lines word fields_of (at (set t p v)) (p + 1) ++ rest =
        ap (λ (s : List ℕ). row_lines word fields_of (at t) least ++ s) (line-ended word l rest (fields_of p v) row.0)
        ∙ lines_next least t p v rest g above below row.1 in
        subst (Read u) (sym passes) (ih (held_more Value least t g p v above (omega arith) row.1) (omega arith) f)
    tested p v false h row ih f = cc

    judged : (x : Option RowLine) → says l ≡ x → ((p v : ℕ) → Next p v)
        → judged_row x n number least t (ended number t l' ls) (λ least values. later_lines says n (number + 1) least values l' ls) ≡ rows u
        → Read u (row_lines word fields_of (at t) least ++ (l ++ 10 ∷ rest))
    judged (Some (Row p v)) said ih f = tested p v (ltb p (2 ^ n) && leb least p) refl (kind.row_read l p v said) (ih p v) f
    judged (Some End) said ih f =
        let done = ended-read number t u l' ls f in
        let before : row_lines word fields_of (at t) least ≡ row_lines word fields_of (at u) (2 ^ n) =
        sym (over_nonzero-zero (λ q. line word (fields_of q (at t q))) (at t) least (2 ^ n) g.rest inside)
        ∙ ap (λ (v : List ℕ). row_lines word fields_of (at v) (2 ^ n)) done.0 in
        record {
          characters = ap₂ ◌++◌ before (ap₂ (λ (a b : List ℕ). a ++ 10 ∷ b) (kind.end_read l said) done.1 ∙ end_line_lem);
          held = rw (← done.0) (record { long = g.long; rest = λ p h. g.rest p (omega arith); each = g.each });
        }
    judged None said ih f = cc

  -- the line l and the parts after it
  pub parts-read : (number : ℕ) (l : List ℕ) (ls : List (List ℕ)) (u : List ℕ) → later_lines says n number 0 (replicate 256 0) l ls ≡ rows u
      → (l ++ separated 10 ls ≡ row_lines word fields_of (at u) (2 ^ n) ++ line (bytes "end") []) × Held (2 ^ n) Value u
  unfolding over_nonzero
  parts-read number l ls u e =
      let read = lines-read ls number 0 (replicate 256 0) u l (held_none Value) (omega arith) e in
      (read.characters, read.held)

  pub rows-read : (number : ℕ) (s u : List ℕ) → lines_from says n number 0 (replicate 256 0) s ≡ rows u
      → (s ≡ row_lines word fields_of (at u) (2 ^ n) ++ line (bytes "end") []) × Held (2 ^ n) Value u
  rows-read number s u e =
      let read = parts-read number (parts 10 s).first (parts 10 s).others u e in
      (sym (parts-joined 10 s) ∙ read.0, read.1)
