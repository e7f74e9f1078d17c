-- What the fields of a line say: words, digits, the field k, numbers, outputs and masks. Document 01, "Text in, listing out", and document 02, W-203,
-- W-205 and W-207.
use Rattle.std.specs.Prelude.{Bool, cond, ◌&&◌, ◌||◌, not, List, [], ◌∷◌, ℕ, ◌+◌, ◌-◌, ◌*◌, leb, ltb, eqb, length, get_or, drop, Option, Some, None}
use Rattle.expansions.specs.declared.kinds.Class.{Class}
use Rattle.expansions.specs.declared.kinds.Class.TheVariants.{Block, Free}
use Rattle.expansions.specs.declared.families.Family.{Family}
use Rattle.expansions.specs.declared.families.Family.TheVariants.{One, Two}
use Rattle.fields.specs.declared.heading.Heading.{Heading}
use Rattle.fields.specs.declared.values.Mixed.{Mixed}
use Rattle.listings.specs.Parts.{same, field, fields}

-- what follows a value that is read, and what else is said where none is
abbrev pub and_then : {A B : Type 0} → Option B → A → (B → A) → A
and_then (Some x) other f = f x
and_then None other f = other

-- a line has so many fields, the first of them the given word: "Fields are parted by one tab (byte 9)."
unfoldable pub headed : ℕ → List ℕ → List ℕ → Bool
headed count word l = eqb (length (fields l)) count && same (field 0 l) word

-- "A table that begins `table2`", "Its listing begins `form2`": the family that a first line with so many fields is for, by its first word; `one` and
-- `two` are the words of the two families
unfoldable pub family_of : ℕ → List ℕ → List ℕ → List ℕ → Option Family
family_of count one two l = cond (headed count one l) (Some One) (cond (headed count two l) (Some Two) None)

-- of "`table`, n, m, k" and "`form`, n, m, k (a digit), M, i, products, literals" what stands before k: the family by the word, n and m, where each is read
abbrev pub heading_said : Option Family → Option ℕ → Option ℕ → Option Heading
heading_said x n m = and_then x None (λ F. and_then n None (λ n. and_then m None (λ m. Some (record { family = F; n = n; m = m }))))

-- a digit's value, below a base: the digits are the bytes from `0` (byte 48) on
unfoldable pub digit : ℕ → ℕ → Option ℕ
digit base b = cond (leb 48 b && ltb (b - 48) base) (Some (b - 48)) None

-- "Each is one digit"
unfoldable pub one_digit : List ℕ → Option ℕ
one_digit f = cond (eqb (length f) 1) (digit 10 (get_or f 0 0)) None

-- a digit k with the class that is read for it
abbrev pub with_class : Class → Option ℕ → Option Mixed
with_class C x = and_then x None (λ k. Some (record { class = C; k = k }))

-- document 02, W-207: "A k field of `f0`, `f1` or `f2` selects the free class", "Digits keep the block class." The byte of `f` is 102, and whether the
-- digit is above 2 is judged later
unfoldable pub mixed_said : List ℕ → Option Mixed
mixed_said f = cond (eqb (get_or f 0 0) 102) (with_class Free (one_digit (drop 1 f))) (with_class Block (one_digit f))

-- the number that digits say in base ten, after digits that say v: "Numbers are written in base ten."
unfoldable pub digits_from : ℕ → List ℕ → Option ℕ
digits_from v [] = Some v
digits_from v (b ∷ f) = and_then (digit 10 b) None (λ d. digits_from (v * 10 + d) f)

-- of "one to three digits with no leading zero (but `0`)" and "one to four digits and no leading zero but `0`": the length and the leading byte
unfoldable pub well_formed : ℕ → List ℕ → Bool
well_formed most f = leb 1 (length f) && leb (length f) most && (eqb (length f) 1 || not (eqb (get_or f 0 0) 48))

-- "The point is one to three digits with no leading zero (but `0`)"; a listing's "numbers have one to four digits and no leading zero but `0`":
-- `most` is three or four
unfoldable pub number : ℕ → List ℕ → Option ℕ
number most f = cond (well_formed most f) (digits_from 0 f) None

-- the outputs that characters say, "leftmost output 0": the leftmost character is the lowest bit
unfoldable pub bits : List ℕ → Option ℕ
bits [] = Some 0
bits (b ∷ f) = and_then (digit 2 b) None (λ x. and_then (bits f) None (λ v. Some (v * 2 + x)))

-- document 02, W-205: "`inv` and m characters", of an "inversion mask (bit o for output o)": each `0` or `1`, and they may all be `0`
unfoldable pub mask : ℕ → List ℕ → Option ℕ
mask m f = cond (eqb (length f) m) (bits f) None

-- "Outputs are m characters, leftmost output 0, each `0` or `1`, not all `0`."
unfoldable pub outputs : ℕ → List ℕ → Option ℕ
outputs m f = and_then (mask m f) None (λ v. cond (eqb v 0) None (Some v))
