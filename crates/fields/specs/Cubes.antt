-- What a cube's characters show. Document 01: "The cube has n characters, leftmost xn, rightmost x1: `1` plain, `0` complemented, `-` absent"
-- (bytes 49, 48, 45).
use Rattle.std.specs.Prelude.{Bool, true, cond, ◌&&◌, ◌||◌, List, [], ◌∷◌, ℕ, ◌+◌, ◌*◌, ◌^◌, eqb, length, Option, Some, None}
use Rattle.fields.specs.declared.values.Cube.{Cube}

-- ---- one character

-- "`1` plain, `0` complemented, `-` absent": a byte is one of the three
unfoldable pub is_character : ℕ → Bool
is_character b = eqb b 45 || (eqb b 48 || eqb b 49)

-- 1 where the input of a character is present, and 0 where it is absent, a `-`
unfoldable pub present_in : ℕ → ℕ
present_in b = cond (eqb b 45) 0 1

-- 1 where the input of a character is complemented, a `0`, and else 0
unfoldable pub complemented_in : ℕ → ℕ
complemented_in b = cond (eqb b 48) 1 0

-- what one character says, as the cube of one input
unfoldable pub character_said : ℕ → Option Cube
character_said b = cond (is_character b) (Some (record { term = present_in b; complemented = complemented_in b })) None

-- ---- a cube

-- every byte is a character of a cube
unfoldable pub cube_characters : List ℕ → Bool
cube_characters [] = true
cube_characters (b ∷ cube) = is_character b && cube_characters cube

-- the term that a cube's characters show, "leftmost xn, rightmost x1"
unfoldable pub term_shown : List ℕ → ℕ
term_shown [] = 0
term_shown (b ∷ cube) = present_in b * 2 ^ length cube + term_shown cube

-- the inputs that a cube's characters show complemented
unfoldable pub complement_shown : List ℕ → ℕ
complement_shown [] = 0
complement_shown (b ∷ cube) = complemented_in b * 2 ^ length cube + complement_shown cube

-- "The cube has n characters": the term and the complemented inputs that a field shows
unfoldable pub cube_said : ℕ → List ℕ → Option Cube
cube_said n f = cond (eqb (length f) n && cube_characters f) (Some (record { term = term_shown f; complemented = complement_shown f })) None
