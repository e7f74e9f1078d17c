-- What the programs judge of their input, and the line that tells a refusal. Document 01: "The program `rmform` judges the first 8,192 bytes of standard
-- input as the whole text .. and writes the listing, or the line `refused`, number, line."
use Rattle.std.specs.Prelude.{List, [], ◌∷◌, ℕ, take}
use Rattle.numbers.specs.declared.refusals.Refusal.{Refusal}
use Rattle.numbers.specs.Refusals.{number_of}
use Rattle.listings.specs.Parts.{bytes}
use Rattle.listings.specs.Listing.{line, decimal}

-- "judges the first 8,192 bytes of standard input as the whole text"
abbrev pub judged : List ℕ → List ℕ
judged input = take 8192 input

-- "the line `refused`, number, line"
unfoldable pub refused_line : Refusal → ℕ → List ℕ
refused_line why l = line (bytes "refused") (decimal (number_of why) ∷ decimal l ∷ [])
