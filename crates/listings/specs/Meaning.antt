-- What a listing means, from its bytes alone. Document 01, "Text in, listing out", and document 02, W-205.
use Rattle.std.specs.Prelude.{◌≡◌, Bool, true, cond, ◌&&◌, List, [], ◌∷◌, ◌++◌, map, ℕ, ◌+◌, ◌-◌, ◌*◌, ◌<◌, ◌^◌, eqb, length, get_or}
use Rattle.std.specs.Int.Bits.{bit_xor}
use Rattle.numbers.specs.Bits.{bit}
use Rattle.numbers.specs.Tests.{only}
use Rattle.expansions.specs.declared.kinds.Kind.{Kind}
use Rattle.expansions.specs.declared.families.Family.{Family}
use Rattle.expansions.specs.Rivals.{LeastCost}
use Rattle.listings.specs.Parts.{parts, bytes, same, field}

-- ---- the fields of a `term` line

-- whether a cube's character lets its input have the value x: a `1` wants 1, and a `0` wants 0
unfoldable pub allows : ℕ → ℕ → Bool
allows b x = cond (eqb b 49) (eqb x 1) (cond (eqb b 48) (eqb x 0) true)

-- "A cube is true at a point where every `1` in it stands for an input that is 1 there and every `0` for an input that is 0 there"; the
-- rightmost character stands for x1
unfoldable pub cube_true : List ℕ → ℕ → Bool
cube_true [] p = true
cube_true (b ∷ cube) p = allows b (bit (length cube) p) && cube_true cube p

-- "The literals in a cube are its characters other than `-`."
unfoldable pub literals_in : List ℕ → ℕ
literals_in [] = 0
literals_in (b ∷ cube) = cond (eqb b 45) 0 1 + literals_in cube

-- the outputs that characters say, "leftmost output 0": the leftmost character is the lowest bit
unfoldable pub outputs_said : List ℕ → ℕ
outputs_said [] = 0
outputs_said (b ∷ f) = outputs_said f * 2 + (b - 48)

-- ---- the `term` lines

-- of the parts of a text, a first one and the others, those that a separator ends
unfoldable pub finished : List ℕ → List (List ℕ) → List (List ℕ)
finished part [] = []
finished part (next ∷ others) = part ∷ finished next others

-- "Each line ends with byte 10": what stands after the last byte 10 is no line
unfoldable pub lines_of : List ℕ → List (List ℕ)
lines_of s = finished (parts 10 s).first (parts 10 s).others

-- what is said of the cube and the outputs of a `term` line, and `none` of any other line
unfoldable pub of_term : {A : Type 0} → A → (List ℕ → List ℕ → A) → List ℕ → A
of_term none g l = cond (same (field 0 l) (bytes "term")) (g (field 1 l) (field 2 l)) none

-- g of each line, joined by op, from `none`
unfoldable pub over_lines : {A : Type 0} → (A → A → A) → A → (List ℕ → A) → List (List ℕ) → A
over_lines op none g [] = none
over_lines op none g (l ∷ ls) = op (g l) (over_lines op none g ls)

-- what is said of each `term` line of a text, joined by op, from `none`
unfoldable pub over_terms : {A : Type 0} → (A → A → A) → A → (List ℕ → List ℕ → A) → List ℕ → A
over_terms op none g s = over_lines op none (of_term none g) (lines_of s)

-- the inversion mask that an `inv` line says, and 0 of any other line
unfoldable pub of_inv : List ℕ → ℕ
of_inv l = cond (same (field 0 l) (bytes "inv")) (outputs_said (field 1 l)) 0

-- the outputs that a listing inverts: document 02, W-205, "`inv` and m characters", and none where there is no such line
unfoldable pub listing_inverted : List ℕ → ℕ
listing_inverted s = over_lines bit_xor 0 of_inv (lines_of s)

-- "a listing gives at each point the exclusive OR of the outputs on the `term` lines whose cube is true there", and document 02, W-205: "then inverted
-- where marked"
unfoldable pub listing_value : List ℕ → ℕ → ℕ
listing_value s p = bit_xor (over_terms bit_xor 0 (λ cube outputs. only (cube_true cube p) (outputs_said outputs)) s) (listing_inverted s)

-- the number of `term` lines
unfoldable pub listing_products : List ℕ → ℕ
listing_products s = over_terms ◌+◌ 0 (λ cube outputs. 1) s

-- the literals in the cubes of the `term` lines
unfoldable pub listing_literals : List ℕ → ℕ
listing_literals s = over_terms ◌+◌ 0 (λ cube outputs. literals_in cube) s

-- the cubes of the `term` lines: document 02, W-201, "those cubes"
unfoldable pub listing_cubes : List ℕ → List (List ℕ)
listing_cubes s = over_terms ◌++◌ [] (λ cube outputs. cube ∷ []) s

-- ---- the first line

-- the number that digits say in base ten, after digits that say v
unfoldable pub number_said : ℕ → List ℕ → ℕ
number_said v [] = v
number_said v (b ∷ f) = number_said (v * 10 + (b - 48)) f

-- the numbers on the first line after its word: "`form`, n, m, k (a digit), M, i, products, literals"; an `f` field and the letters of `kron` are no
-- numbers, and what stands for them here is not used
unfoldable pub first_numbers : List ℕ → List ℕ
first_numbers s = map (number_said 0) (parts 9 (parts 10 s).first).others

-- the field k that the first line shows, its fourth field: document 02, W-208, "A listing shows the k that was used."
abbrev pub shown_field : List ℕ → List ℕ
shown_field s = field 3 (parts 10 s).first

-- the mixed set M that the first line states
abbrev pub stated_mixed : List ℕ → ℕ
stated_mixed s = get_or (first_numbers s) 3 0

-- the fixed polarity i that the first line states
abbrev pub stated_fixed : List ℕ → ℕ
stated_fixed s = get_or (first_numbers s) 4 0

-- the products that the first line states, whatever its word: its last number but one
abbrev pub stated_products : List ℕ → ℕ
stated_products s = get_or (first_numbers s) (length (first_numbers s) - 2) 0

-- the literals that the first line states: its last number
abbrev pub stated_literals : List ℕ → ℕ
stated_literals s = get_or (first_numbers s) (length (first_numbers s) - 1) 0

-- ---- demand 3

-- Demand 3 of the bytes of a listing for the table f, at each family and each kind of k: "The listing's own lines give every output at every point; its
-- first-line counts are those of its lines; and every other expansion of the class at that k that gives the same outputs has at least as many
-- products, and where as many, at least as many literals." Document 02, W-203: of `table2`, "demand 3 weighs its rivals in the same way", by
-- 4 × products + literals, "and among equal charges by fewest products". The counts of the lines are those of an expansion of the class,
-- and the least (`LeastCost`)
pub record IsListing (n : ℕ) (family : Family) (kind : Kind) (f : ℕ → ℕ) (bytes : List ℕ) : Type 0 where
  pub gives : (p : ℕ) → p < 2 ^ n → listing_value bytes p ≡ f p
  pub products_stated : stated_products bytes ≡ listing_products bytes
  pub literals_stated : stated_literals bytes ≡ listing_literals bytes
  pub least : LeastCost n family kind f (listing_products bytes) (listing_literals bytes)
