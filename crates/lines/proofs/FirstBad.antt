-- "the first bad line counts", once for both kinds of line. Where the lines of some places pass, what follows them decides: what begins neither a line of the
-- kind nor `end` is refused at its own line (`begun-refused`), and so is a line whose place is not above those before or is no place (`place-refused`); bytes
-- after the `end` line at the line after it (`followed-refused`). So is whatever is not a line that may stand there, by one number or another (`bad-refused`).
use mathlib.Core.Bool.{Bool, true, false, cond, ◌&&◌}
use mathlib.Core.List.{List, [], ◌∷◌, ◌++◌, append-nil}
use mathlib.Core.Path.{◌≡◌, refl, sym, ap, ◌∙◌}
use Prim.Native.Nat.{ℕ, suc, ◌+◌, ◌^◌, ◌≤◌, ◌<◌}
use native.Mathlib.Decide.{dec_lt}
use native.Mathlib.Nat.{zero-add}
use native.Mathlib.Omega.{arith}
use borrow.Author.Tests.{ltb-true, leb-true}
use lib.Dec.{leb, ltb, eqb}
use lib.ListN.{length, drop, set, replicate}
use Rattle.numbers.proofs.Tests.{both_left, both_right}
use Rattle.listings.specs.Parts.{Parts, all, with_byte, parts, bytes}
use Rattle.listings.specs.Listing.{tabbed, line}
use Rattle.listings.proofs.Joined.{Plain, AllPlain, parts-lines}
use Rattle.listings.proofs.Parts.{separated, parts-joined, others-none, others-more}
use Rattle.std.specs.Prelude.{Option, Some, None}
use Rattle.numbers.specs.declared.refusals.Refusal.{Refusal}
use Rattle.numbers.specs.declared.refusals.Refusal.TheVariants.{BrokenLine, PointOrder, TextEnd}
use Rattle.lines.specs.declared.rows.RowLine.{RowLine}
use Rattle.lines.specs.declared.rows.RowLine.TheVariants.{Row, End}
use Rattle.lines.specs.Rows.{RowsRead, refused, unfinished, ended, later_lines}
use Rattle.lines.specs.FirstBad.{line_after, Above, end_line, NoEnd}
use Rattle.lines.proofs.LineKinds.{LineKind, row_lines, lines_from, line-ended, Passed, passed}

-- ---- the number of a line

others-append : (a b : List ℕ) → length (parts 10 (a ++ b)).others ≡ length (parts 10 a).others + length (parts 10 b).others
unfolding parts
others-append [] b = rw zero-add
others-append (x ∷ a) b = go (eqb x 10) (others-append a b) where
  go : (t : Bool) → length (parts 10 (a ++ b)).others ≡ length (parts 10 a).others + length (parts 10 b).others
      → length (with_byte t x (parts 10 (a ++ b))).others ≡ length (with_byte t x (parts 10 a)).others + length (parts 10 b).others
  go true h = omega arith
  go false h = h

-- a line more is one line on
pub line_after_lem : (before a : List ℕ) → line_after (before ++ a) ≡ line_after before + length (parts 10 a).others
unfolding line_after
line_after_lem before a = omega (arith, others-append before a)

-- what follows a line stands in the next one
pub line-next : (before f : List ℕ) (fs : List (List ℕ)) → Plain f → AllPlain fs → line_after (before ++ line f fs) ≡ line_after before + 1
unfolding parts
line-next before f fs p ps =
    let one : length (parts 10 (line f fs)).others ≡ 1 =
    ap (λ (l : List ℕ). length (parts 10 l).others) (sym (append-nil (line f fs))) ∙ ap (λ (x : Parts). length x.others) (parts-lines f fs [] p ps) in
    line_after_lem before (line f fs) ∙ ap (λ (x : ℕ). line_after before + x) one

end-others : length (parts 10 end_line).others ≡ 1
unfolding line tabbed bytes parts
end-others = refl

-- ---- a text by its first line

pub first-split : (s : List ℕ) → length (parts 10 s).first < length s → s ≡ (parts 10 s).first ++ 10 ∷ drop (suc (length (parts 10 s).first)) s
unfolding separated
first-split s h =
    let rest : List ℕ = drop (suc (length (parts 10 s).first)) s in
    sym (parts-joined 10 s)
    ∙ ap (λ (ls : List (List ℕ)). (parts 10 s).first ++ separated 10 ls) (others-more 10 s h)
    ∙ ap (λ (r : List ℕ). (parts 10 s).first ++ 10 ∷ r) (parts-joined 10 rest)

pub first-whole : (s : List ℕ) → length s ≤ length (parts 10 s).first → ((parts 10 s).others ≡ []) × ((parts 10 s).first ≡ s)
unfolding separated
first-whole s h =
    let none : (parts 10 s).others ≡ [] = others-none 10 s h in
    let l : List ℕ = (parts 10 s).first in
    (none, sym (append-nil l) ∙ ap (λ (ls : List (List ℕ)). l ++ separated 10 ls) (sym none) ∙ parts-joined 10 s)

end-joined : (l s : List ℕ) → l ≡ bytes "end" → l ++ 10 ∷ s ≡ end_line ++ s
unfolding line tabbed bytes
end-joined l s e = rw e

-- what holds of a text that does not end within its first line, by what it is
pub unfinished-some : (s l : List ℕ) → length l < length s → unfinished s ≡ BrokenLine
unfolding unfinished
unfinished-some [] l h = absurd (omega arith)
unfinished-some (b ∷ s) l h = refl

module _ (n : ℕ) (says : List ℕ → Option RowLine) (word : List ℕ) (fields_of : ℕ → ℕ → List (List ℕ)) (Value : ℕ → ℕ → Type 0)
    (kind : LineKind says word fields_of Value) (low : 2 ^ n ≤ 256) where
  -- the bytes s begin with no line of the kind
  abbrev pub NoRow : List ℕ → Type 0
  NoRow s = (p v : ℕ) (more : List ℕ) → Value p v → s ≡ line word (fields_of p v) ++ more → ⊥

  -- what stands where a line should begin: a line of the kind, `end`, or what is refused there
  pub data Next (number least : ℕ) (t s : List ℕ) : Type 0 where
    broken : lines_from says n number least t s ≡ refused (unfinished s) number → NoRow s → NoEnd s → Next number least t s
    row : (p v : ℕ) (more : List ℕ) → Value p v → s ≡ line word (fields_of p v) ++ more → Next number least t s
    last : (more : List ℕ) → s ≡ end_line ++ more → Next number least t s

  -- the first part of a text that begins with a line of the kind or with `end` says so, and there are others
  pub row_first : (s : List ℕ) (p v : ℕ) (more : List ℕ) → Value p v → s ≡ line word (fields_of p v) ++ more
      → (says (parts 10 s).first ≡ Some (Row p v)) × ((parts 10 s).others ≡ [] → ⊥)
  row_first s p v more value e =
      let split : parts 10 s ≡ record { first = word ++ tabbed (fields_of p v); others = all (parts 10 more) } =
      ap (parts 10) e ∙ parts-lines word (fields_of p v) more kind.plain (kind.plain_fields p v) in
      (rw split (kind.row_is_said p v value), λ none. omega (arith, ap length (sym none ∙ ap (λ (x : Parts). x.others) split)))

  pub end-first : (s more : List ℕ) → s ≡ end_line ++ more → (says (parts 10 s).first ≡ Some End) × ((parts 10 s).others ≡ [] → ⊥)
  unfolding line tabbed bytes parts
  end-first s more e = (rw e kind.end_said, λ none. omega (arith, ap length (sym none ∙ ap (λ (x : List ℕ). (parts 10 x).others) e)))

  pub next : (number least : ℕ) (t s : List ℕ) → Next number least t s
  unfolding later_lines
  next number least t s = go (dec_lt (length (parts 10 s).first) (length s)) where
    l : List ℕ
    l = (parts 10 s).first

    rest : List ℕ
    rest = drop (suc (length (parts 10 s).first)) s

    judged : length l < length s → (x : Option RowLine) → says l ≡ x → Next number least t s
    judged h (Some (Row p v)) said =
        let read = kind.row_read l p v said in
        row p v rest read.1 (first-split s h ∙ line-ended word l rest (fields_of p v) read.0)
    judged h (Some End) said = last rest (first-split s h ∙ end-joined l rest (kind.end_read l said))
    judged h None said =
        broken (ap (later_lines says n number least t l) (others-more 10 s h) ∙ rw (said, unfinished-some s l h))
        (λ p v more value e. cc (said, (row_first s p v more value e).0))
        (λ more e. cc (said, (end-first s more e).0))

    go : Dec (length l < length s) → Next number least t s
    go (yes h) = judged h (says l) refl
    go (no h) =
        let whole = first-whole s (omega arith) in
        broken (ap (later_lines says n number least t l) whole.0 ∙ ap (λ (x : List ℕ). refused (unfinished x) number) whole.1)
        (λ p v more value e. (row_first s p v more value e).1 whole.0)
        (λ more e. (end-first s more e).1 whole.0)

  -- ---- a line that may not stand there

  no_line : (number least : ℕ) (t s : List ℕ) → NoRow s → NoEnd s → lines_from says n number least t s ≡ refused (unfinished s) number
  no_line number least t s none unended = go (next number least t s) where
    go : Next number least t s → lines_from says n number least t s ≡ refused (unfinished s) number
    go (broken e _ _) = e
    go (row p v more good e) = absurd (none p v more good e)
    go (last more e) = absurd (unended more e)

  no_place : (number least : ℕ) (t : List ℕ) (p v : ℕ) (more : List ℕ) → Value p v → (p < 2 ^ n → least ≤ p → ⊥)
      → lines_from says n number least t (line word (fields_of p v) ++ more) ≡ refused PointOrder number
  unfolding later_lines
  no_place number least t p v more good none =
      rw (parts-lines word (fields_of p v) more kind.plain (kind.plain_fields p v), kind.row_is_said p v good)
      (tested (ltb p (2 ^ n) && leb least p) refl (later_lines says n (number + 1) (p + 1) (set t p v) (parts 10 more).first (parts 10 more).others))
    where
      tested : (b : Bool) → (ltb p (2 ^ n) && leb least p) ≡ b → (x : RowsRead) → cond b x (refused PointOrder number) ≡ refused PointOrder number
      tested true e x = absurd (none (ltb-true p (2 ^ n) (both_left (ltb p (2 ^ n)) (leb least p) e)) (leb-true least p (both_right (ltb p (2 ^ n)) (leb least p) e)))
      tested false e x = refl

  after-end : (number least : ℕ) (t : List ℕ) (b : ℕ) (more : List ℕ) → lines_from says n number least t (end_line ++ b ∷ more) ≡ refused TextEnd (number + 1)
  unfolding later_lines line tabbed bytes parts ended
  after-end number least t b more = rw kind.end_said (go (eqb b 10)) where
    go : (x : Bool) → ended number t (with_byte x b (parts 10 more)).first (with_byte x b (parts 10 more)).others ≡ refused TextEnd (number + 1)
    go true = refl
    go false = refl

  -- ---- after lines that pass

  module _ (before : List ℕ) (f : ℕ → ℕ) (good : (p : ℕ) → p < 2 ^ n → (f p ≡ 0 → ⊥) → Value p (f p)) where
    -- the lines that pass
    abbrev passing : List ℕ
    passing = row_lines word fields_of f (2 ^ n)

    -- what the text means from the line after `before` on
    abbrev meant : List ℕ → RowsRead
    meant s = lines_from says n (line_after before) 0 (replicate 256 0) (row_lines word fields_of f (2 ^ n) ++ s)

    on : (s : List ℕ) → Passed n says word fields_of Value kind low (line_after before) f (2 ^ n) s
    on s = passed n says word fields_of Value kind low (line_after before) f good (2 ^ n) s (omega arith)

    line_on : (s : List ℕ) → (on s).number ≡ line_after (before ++ passing)
    line_on s = omega (arith, (on s).counted, others-append passing s, line_after_lem before passing)

    pub begun-refused : (s : List ℕ) → NoRow s → NoEnd s → meant s ≡ refused (unfinished s) (line_after (before ++ row_lines word fields_of f (2 ^ n)))
    begun-refused s none unended =
        (on s).follows ∙ no_line (on s).number (on s).least (on s).values s none unended ∙ ap (λ (x : ℕ). refused (unfinished s) x) (line_on s)

    pub place-refused : (p v : ℕ) (more : List ℕ) → Value p v → (p < 2 ^ n → Above (2 ^ n) f p → ⊥)
        → meant (line word (fields_of p v) ++ more) ≡ refused PointOrder (line_after (before ++ row_lines word fields_of f (2 ^ n)))
    place-refused p v more value none =
        let w = on (line word (fields_of p v) ++ more) in
        w.follows ∙ no_place w.number w.least w.values p v more value (λ h g. none h (w.above p g)) ∙ ap (refused PointOrder) (line_on _)

    pub followed-refused : (b : ℕ) (more : List ℕ) → meant (end_line ++ b ∷ more) ≡ refused TextEnd (line_after (before ++ row_lines word fields_of f (2 ^ n) ++ end_line))
    followed-refused b more =
        let w = on (end_line ++ b ∷ more) in
        let last : line_after (before ++ passing ++ end_line) ≡ w.number + 1 = omega (arith, line_on (end_line ++ b ∷ more), line_after_lem (before ++ passing) end_line, end-others) in
        w.follows ∙ after-end w.number w.least w.values b more ∙ ap (refused TextEnd) (sym last)

    -- no line of the kind whose place is above those before
    abbrev NoRowAbove : List ℕ → Type 0
    NoRowAbove s = (p v : ℕ) (more : List ℕ) → Value p v → p < 2 ^ n → Above (2 ^ n) f p → s ≡ line word (fields_of p v) ++ more → ⊥

    pub bad-refused : (s : List ℕ) → NoRowAbove s → NoEnd s → (x : Refusal) × (meant s ≡ refused x (line_after (before ++ row_lines word fields_of f (2 ^ n))))
    bad-refused s none unended = go (next (on s).number (on s).least (on s).values s) where
      go : Next (on s).number (on s).least (on s).values s → (x : Refusal) × (meant s ≡ refused x (line_after (before ++ row_lines word fields_of f (2 ^ n))))
      go (broken e _ _) = (unfinished s, (on s).follows ∙ e ∙ ap (λ (x : ℕ). refused (unfinished s) x) (line_on s))
      go (row p v more value e) = (PointOrder, ap meant e ∙ place-refused p v more value (λ h g. none p v more value h g e))
      go (last more e) = absurd (unended more e)
