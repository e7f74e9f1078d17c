-- The lines of a text and the fields of a line: a text parted at a byte; and the words that stand in fields. Document 01, "Text in, listing
-- out".
use Rattle.std.specs.Prelude.{Bool, true, false, ◌&&◌, List, [], ◌∷◌, ℕ, eqb, get_or}
use Prim.Native.Char.{code}
use Prim.Native.String.{String}
use Prim.Native.String as string

-- a text parted at a byte: what stands before the first such byte, and the parts after it
pub record Parts : Type 0 where
  pub first : List ℕ
  pub others : List (List ℕ)

-- all the parts, in order
abbrev pub all : Parts → List (List ℕ)
all p = p.first ∷ p.others

-- the parts with one byte more in front: a separator ends an empty first part, and any other byte begins the first part
abbrev pub with_byte : Bool → ℕ → Parts → Parts
with_byte true b p = record { first = []; others = all p }
with_byte false b p = record { first = b ∷ p.first; others = p.others }

-- "Each line ends with byte 10. Fields are parted by one tab (byte 9)."
unfoldable pub parts : ℕ → List ℕ → Parts
parts separator [] = record { first = []; others = [] }
parts separator (b ∷ s) = with_byte (eqb b separator) b (parts separator s)

-- "Fields are parted by one tab (byte 9)."
unfoldable pub fields : List ℕ → List (List ℕ)
fields l = all (parts 9 l)

-- the field j of a line, counted from 0
abbrev pub field : ℕ → List ℕ → List ℕ
field j l = get_or (fields l) j []

-- the bytes of a word
unfoldable pub bytes : String → List ℕ
bytes string.[] = []
bytes (string.◌∷◌ c s) = code c ∷ bytes s

-- whether two fields are the same bytes
unfoldable pub same : List ℕ → List ℕ → Bool
same [] [] = true
same [] (w ∷ ws) = false
same (b ∷ f) [] = false
same (b ∷ f) (w ∷ ws) = eqb b w && same f ws
