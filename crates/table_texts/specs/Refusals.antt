-- When a table text is refused, and by which number and line, in the documents' words. Document 01, "Why a call declines": "Text is judged line by line, and
-- the first bad line counts. A refusal returns its number and the line"; "In line 1 the order is 1, 2, 3, 4. Empty text is refusal 6, line 1."
use Rattle.std.specs.Prelude.{List, [], ◌∷◌, ◌++◌, ◌≡◌, ℕ, ◌^◌, ◌≤◌, ◌<◌}
use Rattle.numbers.specs.declared.refusals.Refusal.{Refusal}
use Rattle.numbers.specs.declared.refusals.Refusal.TheVariants.{BrokenLine, InputCount, OutputCount, MixedCount, PointOrder, TextEnd}
use Rattle.expansions.specs.declared.kinds.Kind.{Kind}
use Rattle.expansions.specs.declared.kinds.Kind.TheVariants.{Mixed, Kronecker}
use Rattle.lines.specs.FirstBad.{line_after, Above, end_line, NoEnd, OnLine}
use Rattle.table_texts.specs.declared.sizes.Design.{Design}
use Rattle.table_texts.specs.Design.{KindSized, KindFor, DesignSized}
use Rattle.table_texts.specs.TableTexts.{KindCharacters, point_line, point_lines, design_line}

-- ---- the first line

-- "Each is one digit": the k of a kind that has one
abbrev pub OneDigit : Kind → Type 0
OneDigit (Mixed C k) = k < 10
OneDigit Kronecker = Unit

-- the characters f stand for the kind x of k on a first line with the digit n: a digit, `f` and a digit, `K`, or `-`
abbrev pub KindSays : ℕ → Kind → List ℕ → Type 0
KindSays n x f = OneDigit x × KindCharacters n x f

-- the text s begins with "`table`, n, m, k", or `table2`, whatever the digits are and whatever follows
pub record TableLine (s : List ℕ) : Type 0 where
  pub design : Design
  pub has_kind_field : List ℕ
  pub n : design.n < 10
  pub m : design.m < 10
  pub says : KindSays design.n design.kind has_kind_field
  pub rest : List ℕ
  pub characters : s ≡ design_line design has_kind_field ++ rest

-- ---- the lines after it

-- the first lines of the text s pass: that of a design within the limits, and "lines `on`, point, outputs" for some points, which "ascend strictly"; f p are
-- the outputs of the point p, `before` are the bytes of these lines, and `rest` is what follows them
pub record PointsPass (s : List ℕ) : Type 0 where
  pub design : Design
  pub has_kind_field : List ℕ
  pub sized : DesignSized design
  pub says : KindSays design.n design.kind has_kind_field
  pub f : ℕ → ℕ
  pub outputs : (p : ℕ) → p < 2 ^ design.n → f p < 2 ^ design.m
  pub before : List ℕ
  pub rest : List ℕ
  pub lines : before ≡ design_line design has_kind_field ++ point_lines design.m f (2 ^ design.n)
  pub characters : s ≡ before ++ rest

-- the bytes s begin with no `on` line of m outputs, whatever its point is
abbrev pub NoOn : ℕ → List ℕ → Type 0
NoOn m s = (p o : ℕ) (more : List ℕ) → OnLine m p o → s ≡ point_line m p o ++ more → ⊥

-- ---- the refusals

-- which refusals the text s meets; Refused why l says that a call refuses it by that refusal with the line l
pub record TextRefusals (s : List ℕ) (Refused : Refusal → ℕ → Type 0) : Type 0 where
  -- "Empty text is refusal 6, line 1."
  pub none : s ≡ [] → Refused TextEnd 1
  -- "1. A text line breaks its grammar (words, fields, digits, characters, a missing byte 10)": line 1
  pub first : (s ≡ [] → ⊥) → (TableLine s → ⊥) → Refused BrokenLine 1
  -- document 02, W-203: "`K` is for `table` only; with `table2` it is refusal 1"
  pub kind : (g : TableLine s) → (KindFor g.design.family g.design.kind → ⊥) → Refused BrokenLine 1
  -- "2. n is not 1 to 8."
  pub inputs : (g : TableLine s) → KindFor g.design.family g.design.kind → ((1 ≤ g.design.n) × (g.design.n ≤ 8) → ⊥) → Refused InputCount 1
  -- "3. m is not 1 to 8."
  pub outputs : (g : TableLine s) → KindFor g.design.family g.design.kind → (1 ≤ g.design.n) × (g.design.n ≤ 8)
      → ((1 ≤ g.design.m) × (g.design.m ≤ 8) → ⊥) → Refused OutputCount 1
  -- "4. k is above 3 or above n.", and "`f` with a digit above 2 or above n is refusal 4"
  pub mixed : (g : TableLine s) → (1 ≤ g.design.n) × (g.design.n ≤ 8) → (1 ≤ g.design.m) × (g.design.m ≤ 8)
      → (KindSized g.design.n g.design.kind → ⊥) → Refused MixedCount 1
  -- "1. A text line breaks its grammar": after lines that pass comes some byte, but no `on` line and no `end` line, whatever follows
  pub line : (g : PointsPass s) → (g.rest ≡ [] → ⊥) → NoOn g.design.m g.rest → NoEnd g.rest → Refused BrokenLine (line_after g.before)
  -- "5. A point is 2^n or more, or not above the one before."
  pub point : (g : PointsPass s) → (p o : ℕ) (more : List ℕ) → OnLine g.design.m p o → g.rest ≡ point_line g.design.m p o ++ more
      → (p < 2 ^ g.design.n → Above (2 ^ g.design.n) g.f p → ⊥) → Refused PointOrder (line_after g.before)
  -- "6. The text stops where a line should begin and no `end` line has come": "the line is the one expected"
  pub stops : (g : PointsPass s) → g.rest ≡ [] → Refused TextEnd (line_after g.before)
  -- "or bytes follow `end`": the line is "the one after `end`"
  pub follows : (g : PointsPass s) → (b : ℕ) (more : List ℕ) → g.rest ≡ end_line ++ b ∷ more → Refused TextEnd (line_after (g.before ++ end_line))
