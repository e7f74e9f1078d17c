-- The text that is written for a design and its table. Document 01, "Text in, listing out": "A table text is: `table`, n, m, k ..;
-- lines `on`, point, outputs ..; `end`."; document 02, W-203: or `table2`. Its lines, its numbers in base ten and its outputs are those of a
-- listing.
use Rattle.std.specs.Prelude.{cond, List, [], ◌∷◌, ◌++◌, ◌⊎◌, ◌≡◌, ℕ, ◌^◌, eqb}
use Rattle.numbers.specs.Bytes.{at}
use Rattle.numbers.specs.Nonzero.{over_nonzero}
use Rattle.expansions.specs.declared.kinds.Kind.{Kind}
use Rattle.expansions.specs.declared.kinds.Kind.TheVariants.{Mixed, Kronecker}
use Rattle.table_texts.specs.declared.sizes.Design.{Design}
use Rattle.listings.specs.Parts.{bytes}
use Rattle.listings.specs.Listing.{line, decimal, output_bytes, mixed_field}
use Rattle.table_texts.specs.Accepted.{Accepted}
use Rattle.table_texts.specs.First.{table_word}

-- "`on`, point, outputs": the point p with the outputs o, of m outputs
unfoldable pub point_line : ℕ → ℕ → ℕ → List ℕ
point_line m p o = line (bytes "on") (decimal p ∷ output_bytes m o ∷ [])

-- the lines of the points below N that are "not all `0`"; f p are the outputs of the point p: "Points ascend strictly. Points not listed are all
-- zero."
abbrev pub point_lines : ℕ → (ℕ → ℕ) → ℕ → List ℕ
point_lines m f N = over_nonzero (λ p. point_line m p (f p)) f N

-- "Each is one digit", "A k field of `K`", and "A k field of `f0`, `f1` or `f2`": the characters for the kind of k
unfoldable pub kind_field : Kind → List ℕ
kind_field (Mixed C k) = mixed_field C k
kind_field Kronecker = bytes "K"

-- document 02, W-208: "A k of `-` now means `f2`, or `f1` where n = 1.": the characters of the field that `-` means, of n inputs
unfoldable pub dash_characters : ℕ → List ℕ
dash_characters n = cond (eqb n 1) (bytes "f1") (bytes "f2")

-- the characters f stand for the kind x of k, of n inputs: they are its own, or "k may be `-`" where this means it
abbrev pub KindCharacters : ℕ → Kind → List ℕ → Type 0
KindCharacters n x f = (f ≡ kind_field x) ⊎ ((kind_field x ≡ dash_characters n) × (f ≡ bytes "-"))

-- "`table`, n, m, k": the first line with the family's word and the given characters for k
unfoldable pub design_line : Design → List ℕ → List ℕ
design_line d k = line (table_word d.family) (decimal d.n ∷ decimal d.m ∷ k ∷ [])

-- the whole text for the design d and the table t, with the given characters for k
unfoldable pub text_with : List ℕ → Design → List ℕ → List ℕ
text_with k d t = design_line d k ++ point_lines d.m (at t) (2 ^ d.n) ++ line (bytes "end") []

-- the text with the characters of its kind of k
unfoldable pub table_text : Design → List ℕ → List ℕ
table_text d t = text_with (kind_field d.kind) d t

-- "k may be `-`": the text with `-` for k
unfoldable pub dash_text : Design → List ℕ → List ℕ
dash_text d t = text_with (bytes "-") d t

-- s is the text for the design d and the table t, with the characters of its kind of k, or with `-` where this means it
abbrev pub IsText : List ℕ → Design → List ℕ → Type 0
IsText s d t = (s ≡ table_text d t) ⊎ ((kind_field d.kind ≡ dash_characters d.n) × (s ≡ dash_text d t))

-- the text s is accepted: it is the text for the design d and the table t, and these are within the limits
abbrev pub Means : List ℕ → Design → List ℕ → Type 0
Means s d t = Accepted d t × IsText s d t
