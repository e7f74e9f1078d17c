-- Document 02, W-208, "A dash means the free class", of table texts and their listings: "A k of `-` now means `f2`, or `f1` where n = 1." and "A listing
-- shows the k that was used."
use Rattle.std.specs.Prelude.{List, ◌++◌, ◌≡◌, ℕ, take, Result, Ok}
use Rattle.numbers.specs.declared.refusals.Refused.{Refused}
use Rattle.listings.specs.Parts.{bytes}
use Rattle.listings.specs.Meaning.{shown_field}
use Rattle.table_texts.specs.declared.sizes.Design.{Design}
use Rattle.table_texts.specs.Inner.Reading.{given, reading}
use Rattle.table_texts.specs.TableTexts.{dash_characters, design_line}
use Rattle.text.specs.Compile.{Compile}
use Rattle.text.specs.Print.{Print}

-- a text with `-` for k, whose first line has the n, the m and the family of the design d, and whatever lines after it
abbrev pub dashed : Design → List ℕ → List ℕ
dashed d rest = design_line d (bytes "-") ++ rest

-- the same text with the field that `-` means written out
abbrev pub written_out : Design → List ℕ → List ℕ
written_out d rest = design_line d (dash_characters d.n) ++ rest

-- W-208 of the texts with these lines after the first
pub record DashField (d : Design) (rest : List ℕ) : Type 0 where
  -- both texts mean the same, or are refused alike
  pub read : reading (dashed d rest) ≡ reading (written_out d rest)
  -- the text call answers both alike, and leaves the same bytes in the same buffer
  pub written : (before after after' : List ℕ) (r r' : Result ℕ Refused) → Compile (dashed d rest) before after r → Compile (written_out d rest) before after' r'
      → (r ≡ r') × (after ≡ after')
  -- the program prints the same listing for both
  pub printed : (y : Design) (t : List ℕ) → reading (dashed d rest) ≡ given y t → (held held' : List ℕ) (count count' : ℕ) → Print (dashed d rest) held count
      → Print (written_out d rest) held' count' → take count held ≡ take count' held'
  -- "A listing shows the k that was used."
  pub shown : (before after : List ℕ) (count : ℕ) → Compile (dashed d rest) before after (Ok count)
      → shown_field (take count after) ≡ dash_characters d.n
