-- What the first line of a table text says, by its fields. Document 01, "Text in, listing out", and document 02, W-202, W-203, W-207 and W-208.
use Rattle.std.specs.Prelude.{cond, List, ℕ, eqb, Option, Some, None}
use Rattle.expansions.specs.declared.families.Family.{Family}
use Rattle.expansions.specs.declared.families.Family.TheVariants.{One, Two}
use Rattle.expansions.specs.declared.kinds.Class.TheVariants.{Free}
use Rattle.expansions.specs.declared.kinds.Kind.{Kind}
use Rattle.expansions.specs.declared.kinds.Kind.TheVariants.{Mixed, Kronecker}
use Rattle.listings.specs.Parts.{bytes, same, field}
use Rattle.fields.specs.declared.heading.Heading.{Heading}
use Rattle.fields.specs.declared.values.Mixed as read
use Rattle.fields.specs.Fields.{and_then, one_digit, mixed_said, family_of, heading_said}
use Rattle.table_texts.specs.declared.sizes.Design.{Design}

-- a class with k mixed inputs, where a field says them
abbrev pub mixed_kind : Option read.Mixed → Option Kind
mixed_kind x = and_then x None (λ mixed. Some (Mixed mixed.class mixed.k))

-- document 02, W-208: "A k of `-` now means `f2`, or `f1` where n = 1."
unfoldable pub dash_kind : ℕ → Kind
dash_kind n = Mixed Free (cond (eqb n 1) 1 2)

-- what the field k says of a table of n inputs: "Each is one digit; k may be `-`"; document 02: "A k field of `K` selects it", the Kronecker expansion, and
-- "A k field of `f0`, `f1` or `f2` selects the free class", where "Digits keep the block class."
unfoldable pub kind_of : ℕ → List ℕ → Option Kind
kind_of n f = cond (same f (bytes "-")) (Some (dash_kind n)) (cond (same f (bytes "K")) (Some Kronecker) (mixed_kind (mixed_said f)))

-- the family, n and m with the kind of k, where each is said; f is the field k
abbrev pub table_line : Option Heading → List ℕ → Option Design
table_line heading f =
    and_then heading None (λ h. and_then (kind_of h.n f) None (λ x. Some (record { n = h.n; m = h.m; kind = x; family = h.family })))

-- the word that a table text begins with: "`table`", and document 02, W-203: "A table that begins `table2`" is for a part of family two
unfoldable pub table_word : Family → List ℕ
table_word One = bytes "table"
table_word Two = bytes "table2"

-- "`table`, n, m, k. Each is one digit; k may be `-`", with the word of either family
unfoldable pub first_line : List ℕ → Option Design
first_line l =
    table_line (heading_said (family_of 4 (table_word One) (table_word Two) l) (one_digit (field 1 l)) (one_digit (field 2 l))) (field 3 l)
