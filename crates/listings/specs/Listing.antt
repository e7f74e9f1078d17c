-- The listing of an expansion, byte by byte. Document 01, "Text in, listing out": "A listing .. is: `form` ..; one line for each product ..; `end`."
-- Document 02, W-203: the listing of a `table2` text begins `form2`; W-205: "a `form` or `form2` listing gains a second line, `inv` and m characters";
-- W-207: of an `f` field, "the listing repeats that field".
use Rattle.std.specs.Prelude.{cond, List, [], ◌∷◌, ◌++◌, map, ℕ, zero, suc, ◌+◌, ◌/◌, ◌%◌, ◌^◌, ltb}
use Rattle.numbers.specs.Bytes.{at, tabulate}
use Rattle.numbers.specs.Bits.{bit}
use Rattle.numbers.specs.Nonzero.{over_nonzero}
use Rattle.expansions.specs.declared.kinds.Class.{Class}
use Rattle.expansions.specs.declared.kinds.Class.TheVariants.{Block, Free}
use Rattle.expansions.specs.declared.families.Family.{Family}
use Rattle.expansions.specs.declared.families.Family.TheVariants.{One, Two}
use Rattle.expansions.specs.Members.{polarity}
use Rattle.search.specs.declared.expansion.Expansion.{Expansion}
use Rattle.listings.specs.Parts.{bytes}

-- ---- lines

-- "Fields are parted by one tab (byte 9)": each field after a tab
unfoldable pub tabbed : List (List ℕ) → List ℕ
tabbed [] = []
tabbed (f ∷ fs) = 9 ∷ f ++ tabbed fs

-- "Each line ends with byte 10": the line of a word and the fields after it
unfoldable pub line : List ℕ → List (List ℕ) → List ℕ
line word fs = word ++ tabbed fs ++ 10 ∷ []

-- g (N - 1), .., g 1, g 0
unfoldable pub descending : ℕ → (ℕ → ℕ) → List ℕ
descending zero g = []
descending (suc N) g = g N ∷ descending N g

-- ---- numbers

-- how many digits x has, where x is below 10,000, and else 4: "its numbers have one to four digits"
unfoldable pub digit_count : ℕ → ℕ
digit_count x = cond (ltb x 10) 1 (cond (ltb x 100) 2 (cond (ltb x 1000) 3 4))

-- x in base ten, where x is below 10,000, the highest digit first, with "no leading zero but `0`"; of a larger x its four lowest digits. The
-- character `0` is byte 48. "Numbers are written in base ten."
unfoldable pub decimal : ℕ → List ℕ
decimal x = descending (digit_count x) (λ i. 48 + x / 10 ^ i % 10)

-- ---- cubes and outputs

-- the character of an input, by its bit in the term and its bit in the polarity: "`1` plain, `0` complemented, `-` absent" (bytes 49, 48, 45)
unfoldable pub cube_byte : ℕ → ℕ → ℕ
cube_byte zero w = 45
cube_byte (suc t) zero = 49
cube_byte (suc t) (suc w) = 48

-- "The cube has n characters, leftmost xn, rightmost x1", of the term t under the polarity w
unfoldable pub cube : ℕ → ℕ → ℕ → List ℕ
cube n t w = descending n (λ i. cube_byte (bit i t) (bit i w))

-- "Outputs are m characters, leftmost output 0, each `0` or `1`", from the coefficient c: "Outputs as above, from c[t]."
unfoldable pub output_bytes : ℕ → ℕ → List ℕ
output_bytes m c = tabulate m (λ o. 48 + bit o c)

-- ---- the listing

-- what stands before the digit in the field k: nothing, or document 02, W-207, of the free class: "A k field of `f0`, `f1` or `f2`"
unfoldable pub mixed_mark : Class → List ℕ
mixed_mark Block = []
mixed_mark Free = bytes "f"

-- the characters of the field k, with k mixed inputs: "k (a digit)", or `f` and a digit: "the listing repeats that field"
unfoldable pub mixed_field : Class → ℕ → List ℕ
mixed_field C k = mixed_mark C ++ decimal k

-- the fields of the first line after its word: "n, m, k (a digit), M, i, products, literals"
abbrev pub form_fields : Class → (n m k M i p l : ℕ) → List (List ℕ)
form_fields C n m k M i p l = decimal n ∷ decimal m ∷ mixed_field C k ∷ map decimal (M ∷ i ∷ p ∷ l ∷ [])

-- those of the expansion e
abbrev pub fields_of : Class → (n m k : ℕ) → Expansion → List (List ℕ)
fields_of C n m k e = form_fields C n m k e.mixed e.fixed e.products e.literals

-- the word that a listing begins with: "`form`", and document 02, W-203, of a table that begins `table2`: "Its listing begins `form2`."
unfoldable pub form_word : Family → List ℕ
form_word One = bytes "form"
form_word Two = bytes "form2"

-- "`form`, n, m, k (a digit), M, i, products, literals.", with the word of the family
unfoldable pub form_line : Family → List (List ℕ) → List ℕ
form_line family fields = line (form_word family) fields

-- "a second line, `inv` and m characters", of the inversion mask v, "bit o for output o": the characters are those of outputs, a `1` where the output
-- is inverted
unfoldable pub inv_line : ℕ → ℕ → List ℕ
inv_line m v = line (bytes "inv") (output_bytes m v ∷ [])

-- "`term`, cube, outputs": the cube x, with the coefficient c
unfoldable pub cube_line : ℕ → List ℕ → ℕ → List ℕ
cube_line m x c = line (bytes "term") (x ∷ output_bytes m c ∷ [])

-- the line of the term t under the polarity w, with the coefficient c
abbrev pub term_line : ℕ → ℕ → ℕ → ℕ → ℕ → List ℕ
term_line n m t w c = cube_line m (cube n t w) c

-- the lines of the products among the terms below N, "ascending by t"; x t is the cube of the term t, and c t its coefficient: "Products are the
-- terms with c[t] not 0"
abbrev pub cube_lines : ℕ → (ℕ → List ℕ) → (ℕ → ℕ) → ℕ → List ℕ
cube_lines m x c N = over_nonzero (λ t. cube_line m (x t) (c t)) c N

-- the same lines, where w t is the polarity of the term t
abbrev pub term_lines : ℕ → ℕ → (ℕ → ℕ) → (ℕ → ℕ) → ℕ → List ℕ
term_lines n m w c N = cube_lines m (λ t. cube n t (w t)) c N

-- "One line for each product, ascending by t", of the member M, i, x with the coefficients c; x j is the choice of the block j
abbrev pub product_lines : Class → (n m k M i : ℕ) → (x c : ℕ → ℕ) → List ℕ
product_lines C n m k M i x c = term_lines n m (polarity C n k M i x) c (2 ^ n)

-- the cubes of the products, "ascending by t"; w t is the polarity of the term t, and c t its coefficient
abbrev pub printed_cubes : ℕ → (ℕ → ℕ) → (ℕ → ℕ) → List (List ℕ)
printed_cubes n w c = over_nonzero (λ t. cube n t (w t) ∷ []) c (2 ^ n)

-- a whole listing: what stands before its products, the lines of the products among 2 ^ n terms, and "`end`."
abbrev pub listing_after : List ℕ → ℕ → ℕ → (ℕ → List ℕ) → (ℕ → ℕ) → List ℕ
listing_after first n m x c = first ++ cube_lines m x c (2 ^ n) ++ line (bytes "end") []

-- a whole listing of a family with these fields on its first line and the inversion mask v on its second, of n inputs and m outputs: each term t has
-- the polarity w t and the coefficient c t
unfoldable pub listing_with : Family → List (List ℕ) → (v n m : ℕ) → (ℕ → ℕ) → (ℕ → ℕ) → List ℕ
listing_with family fields v n m w c = listing_after (form_line family fields ++ inv_line m v) n m (λ t. cube n t (w t)) c

-- the whole listing of the expansion e of a class, of n inputs, m outputs and k mixed inputs, for a part of the family
unfoldable pub listing : Class → Family → (n m k : ℕ) → Expansion → List ℕ
listing C family n m k e =
    listing_with family (fields_of C n m k e) e.inverted n m (polarity C n k e.mixed e.fixed (at e.blocks)) (at e.coefficients)
