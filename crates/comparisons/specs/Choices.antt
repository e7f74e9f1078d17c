-- The outputs that are chosen, of a design and of its text: "any non-empty choice of its outputs", the others left out. A choice is a
-- number s whose bit o is set where output o is chosen.
use Rattle.std.specs.Prelude.{cond, List, [], ◌∷◌, ◌++◌, ℕ, ◌/◌, ◌%◌}
use Rattle.std.specs.Int.Count.{ones}
use Rattle.numbers.specs.Nonzero.{if_nonzero}
use Rattle.expansions.specs.Outputs.{chosen_count}
use Rattle.listings.specs.Parts.{bytes, same, field}
use Rattle.listings.specs.Listing.{line, decimal}
use Rattle.listings.specs.Meaning.{outputs_said, lines_of, over_lines}
use Rattle.table_texts.specs.declared.sizes.Design.{Design}

-- the design of the chosen outputs: "at the same k and family"
abbrev pub chosen_design : ℕ → Design → Design
chosen_design s d = record { n = d.n; m = chosen_count d.m s; kind = d.kind; family = d.family }

-- ---- the text

-- the characters of the chosen outputs: "leftmost output 0"
unfoldable pub chosen_characters : ℕ → List ℕ → List ℕ
chosen_characters s [] = []
chosen_characters s (b ∷ f) = if_nonzero (s % 2) (b ∷ []) ++ chosen_characters (s / 2) f

-- the line `on` of a point with these characters for its outputs, and no line where they are all `0`: "Points not listed are all zero."
unfoldable pub point_with : List ℕ → List ℕ → List ℕ
point_with point outputs = if_nonzero (outputs_said outputs) (line (bytes "on") (point ∷ outputs ∷ []))

-- a line of a table text with the other outputs left out. An `on` line keeps the characters of the chosen outputs, `end` stays, and in the first
-- line m becomes the number of chosen outputs
unfoldable pub chosen_line : ℕ → List ℕ → List ℕ
chosen_line s l =
    cond (same (field 0 l) (bytes "on")) (point_with (field 1 l) (chosen_characters s (field 2 l)))
    (cond (same l (bytes "end")) (line (bytes "end") []) (line (field 0 l) (field 1 l ∷ decimal (ones s) ∷ field 3 l ∷ [])))

-- a table text with the other outputs left out: its lines one by one
unfoldable pub chosen_text : ℕ → List ℕ → List ℕ
chosen_text s text = over_lines ◌++◌ [] (chosen_line s) (lines_of text)
