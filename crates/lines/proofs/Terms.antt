-- The lines of a listing's products, read: they are the lines that are written for what was read, and what is written is read back
-- (`term-rows-read`, `term-rows-written`). After lines that are written, what may not follow them is refused at its line (`terms-bad`, `terms-followed`).
use mathlib.Core.List.{List, [], ◌∷◌, ◌++◌}
use mathlib.Core.Path.{◌≡◌, refl, sym, ap, ap₂, ◌∙◌}
use Prim.Native.Nat.{ℕ, zero, suc, ◌+◌, ◌*◌, ◌/◌, ◌%◌, ◌^◌, ◌≤◌, ◌<◌}
use native.Mathlib.Decide.{ℕ_discrete}
use native.Mathlib.Omega.{arith}
use lib.Bits.{bit_and, and_le_l}
use lib.Dec.{T, ltb, lit<}
use lib.ListN.{length}
use lib.Pow.{pow_pos}
use Rattle.numbers.specs.Bytes.{at, tabulate}
use Rattle.numbers.specs.Bits.{inside}
use Rattle.numbers.specs.Nonzero.{if_nonzero}
use Rattle.numbers.specs.Tests.{only}
use Rattle.numbers.proofs.Ands.{and-inside}
use Rattle.numbers.proofs.Bits.{inside-zero}
use Rattle.numbers.proofs.Nonzero.{nonzero-some, nonzero-same, over_nonzero-ext}
use Rattle.numbers.proofs.Shifts.{points-le}
use Rattle.expansions.specs.Costs.{counted}
use Rattle.listings.specs.Parts.{bytes}
use Rattle.listings.specs.Listing.{line, cube, output_bytes, cube_line, term_line, term_lines}
use Rattle.listings.proofs.Cubes.{cube-masked}
use Rattle.numbers.specs.declared.refusals.Refusal.{Refusal}
use Rattle.numbers.specs.declared.refusals.Refusal.TheVariants.{TextEnd}
use Rattle.lines.specs.Rows.{listing_grammar, rows, refused, row_line, rows_from}
use Rattle.lines.specs.FirstBad.{line_after, end_line, NoEnd, NoTerm}
use Rattle.lines.proofs.LineKinds.{row_lines, Held, rows_written, rows-read}
use Rattle.lines.proofs.RowLines.{TermValue, listing-kind}
use Rattle.lines.proofs.FirstBad.{followed-refused, bad-refused}

-- what holds of the values read: at each term 256 times the complemented inputs, which are among the term's, and the outputs, which are not all 0
-- where a line was read
pub record TermRows (n m : ℕ) (t : List ℕ) : Type 0 where
  pub long : length t ≡ 256
  pub rest : (u : ℕ) → 2 ^ n ≤ u → at t u ≡ 0
  pub outputs : (u : ℕ) → u < 2 ^ n → at t u % 256 < 2 ^ m
  pub within : (u : ℕ) → u < 2 ^ n → T (inside (at t u / 256) u)
  pub listed : (u : ℕ) → at t u % 256 ≡ 0 → at t u ≡ 0
  pub small : (u : ℕ) → at t u < 65536

-- ---- what is read

module _ (n m : ℕ) (t : List ℕ) (held : Held (2 ^ n) (TermValue n m) t) where
  -- what holds of 0, and of a value of the kind, holds of the value of a term
  of-value : (P : ℕ → Type 0) (u : ℕ) → P 0 → (TermValue n m u (at t u) → P (at t u)) → P (at t u)
  of-value P u none f = go (ℕ_discrete (at t u) 0) where
    go : Dec (at t u ≡ 0) → P (at t u)
    go (yes z) = rw z none
    go (no z) = f (held.each u z)

  listed : (u : ℕ) → at t u % 256 ≡ 0 → at t u ≡ 0
  listed u = of-value (λ v. v % 256 ≡ 0 → v ≡ 0) u (λ z. refl) (λ value z. absurd (value.some z))

  pub term_rows : TermRows n m t
  term_rows =
      record {
        long = held.long;
        rest = held.rest;
        outputs = λ u h. of-value (λ v. v % 256 < 2 ^ m) u (pow_pos m) (λ value. value.outputs);
        within = λ u h. of-value (λ v. T (inside (v / 256) u)) u (rw (inside-zero u) tt) (λ value. value.within);
        listed = listed;
        small = λ u. of-value (λ v. v < 65536) u (lit< tt) (λ value. value.small);
      }

  pub lines-read : row_lines (bytes "term") (λ u v. cube n u (v / 256) ∷ output_bytes m (v % 256) ∷ []) (at t) (2 ^ n)
      ≡ term_lines n m (λ u. at t u / 256) (λ u. at t u % 256) (2 ^ n)
  unfolding cube_line
  lines-read = over_nonzero-ext _ _ (at t) (λ u. at t u % 256) (2 ^ n) (λ u h. nonzero-same (at t u) (at t u % 256) _ (λ z. rw z) (listed u))

pub term-rows-read : (n m number : ℕ) (s t : List ℕ) → n ≤ 8 → m ≤ 8 → rows_from (listing_grammar n m) number s ≡ rows t
    → (s ≡ term_lines n m (λ u. at t u / 256) (λ u. at t u % 256) (2 ^ n) ++ line (bytes "end") []) × TermRows n m t
term-rows-read n m number s t hn hm e =
    let read = rows-read n (row_line (listing_grammar n m)) (bytes "term") _ (TermValue n m) (listing-kind n m hn hm) (points-le n hn) number s t e in
    (read.0 ∙ ap (λ (l : List ℕ). l ++ line (bytes "end") []) (lines-read n m t read.1), term_rows n m t read.1)

-- ---- what is written

-- the value of the term t under the polarity w, with the coefficient c
abbrev term_value : ℕ → ℕ → ℕ → ℕ
term_value t w c = counted c (bit_and t w * 256 + c)

module _ (m t w c : ℕ) (hm : m ≤ 8) (below : c < 2 ^ m) where
  high : (bit_and t w * 256 + c) / 256 ≡ bit_and t w
  high = omega (arith, points-le m hm)

  low : (bit_and t w * 256 + c) % 256 ≡ c
  low = omega (arith, points-le m hm)

  pub value_written : (n : ℕ) → n ≤ 8 → t < 2 ^ n → (c ≡ 0 → ⊥) → TermValue n m t (bit_and t w * 256 + c)
  value_written n hn h some =
      record {
        term = h;
        outputs = rw low below;
        some = λ z. some (sym low ∙ z);
        within = rw high (and-inside t w);
        small = omega (arith, points-le n hn, points-le m hm, and_le_l t w);
      }

value-some : (n m t w c : ℕ) → n ≤ 8 → m ≤ 8 → c < 2 ^ m → t < 2 ^ n → (term_value t w c ≡ 0 → ⊥) → TermValue n m t (term_value t w c)
unfolding counted
value-some n m t w zero hn hm below h some = absurd (some refl)
value-some n m t w (suc c) hn hm below h some = value_written m t w (suc c) hm below n hn h (λ z. omega arith)

-- the line of a value is the line of its term
pub line-value : (n m t w c : ℕ) → m ≤ 8 → c < 2 ^ m
    → line (bytes "term") (cube n t ((bit_and t w * 256 + c) / 256) ∷ output_bytes m ((bit_and t w * 256 + c) % 256) ∷ []) ≡ term_line n m t w c
unfolding cube_line
line-value n m t w c hm below =
    ap₂ (λ (f g : List ℕ). line (bytes "term") (f ∷ g ∷ []))
    (ap (cube n t) (high m t w c hm below) ∙ cube-masked n t w)
    (ap (output_bytes m) (low m t w c hm below))

line-written : (n m t w c : ℕ) → m ≤ 8 → c < 2 ^ m
    → if_nonzero (term_value t w c) (line (bytes "term") (cube n t (term_value t w c / 256) ∷ output_bytes m (term_value t w c % 256) ∷ []))
    ≡ if_nonzero c (term_line n m t w c)
unfolding counted if_nonzero
line-written n m t w zero hm below = refl
line-written n m t w (suc c) hm below =
    nonzero-some (bit_and t w * 256 + suc c) _ (λ z. omega arith) ∙ line-value n m t w (suc c) hm below

-- a term whose coefficient is not 0 has a value that is not 0
value_none : (t w c : ℕ) → term_value t w c ≡ 0 → c ≡ 0
unfolding counted
value_none t w zero e = refl
value_none t w (suc c) e = absurd (omega arith)

module _ (n m : ℕ) (w c : ℕ → ℕ) (hn : n ≤ 8) (hm : m ≤ 8) (small : (t : ℕ) → t < 2 ^ n → c t < 2 ^ m) where
  abbrev values : ℕ → ℕ
  values t = term_value t (w t) (c t)

  good : (t : ℕ) → t < 2 ^ n → (values t ≡ 0 → ⊥) → TermValue n m t (values t)
  good t h some = value-some n m t (w t) (c t) hn hm (small t h) h some

  abbrev fields : ℕ → ℕ → List (List ℕ)
  fields u v = cube n u (v / 256) ∷ output_bytes m (v % 256) ∷ []

  lines_same : row_lines (bytes "term") fields values (2 ^ n) ≡ term_lines n m w c (2 ^ n)
  lines_same = over_nonzero-ext _ _ values c (2 ^ n) (λ t h. line-written n m t (w t) (c t) hm (small t h))

  pub term-rows-written : (number : ℕ) → rows_from (listing_grammar n m) number (term_lines n m w c (2 ^ n) ++ line (bytes "end") [])
      ≡ rows (tabulate 256 (λ t. only (ltb t (2 ^ n)) (counted (c t) (bit_and t (w t) * 256 + c t))))
  term-rows-written number =
      ap (λ (l : List ℕ). rows_from (listing_grammar n m) number (l ++ line (bytes "end") [])) (sym lines_same)
      ∙ rows_written n (row_line (listing_grammar n m)) (bytes "term") fields (TermValue n m) (listing-kind n m hn hm) (points-le n hn) number values good

  -- ---- the first bad line

  -- lines that are written for terms, and then no line that may stand there
  pub terms-bad : (before s : List ℕ) → NoTerm n m c s → NoEnd s
      → (x : Refusal) × (rows_from (listing_grammar n m) (line_after before) (term_lines n m w c (2 ^ n) ++ s) ≡ refused x (line_after (before ++ term_lines n m w c (2 ^ n))))
  unfolding cube_line
  terms-bad before s none unended =
      rw lines_same at
      (bad-refused n (row_line (listing_grammar n m)) (bytes "term") fields (TermValue n m) (listing-kind n m hn hm) (points-le n hn) before values good s
      (λ t v more value h above e.
      none t (v / 256) (v % 256) more h (λ q l some. above q l (λ z. some (value_none q (w q) (c q) z))) value.outputs value.some e)
      unended)

  -- lines that are written for terms, `end`, and then a byte more
  pub terms-followed : (before : List ℕ) (b : ℕ) (more : List ℕ)
      → rows_from (listing_grammar n m) (line_after before) (term_lines n m w c (2 ^ n) ++ (end_line ++ b ∷ more))
      ≡ refused TextEnd (line_after (before ++ term_lines n m w c (2 ^ n) ++ end_line))
  terms-followed before b more =
      rw lines_same at
      (followed-refused n (row_line (listing_grammar n m)) (bytes "term") fields (TermValue n m) (listing-kind n m hn hm) (points-le n hn) before values good b more)
