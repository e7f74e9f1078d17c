-- Where a part of a text stops, as a cursor finds it. Cited by the contracts of private functions alone.
use Rattle.std.specs.Prelude.{List, ℕ, ◌+◌, length, drop}
use Rattle.listings.specs.Parts.{parts}

-- where the part that begins at a place stops: at the next separator, or at the end of the text
abbrev pub stop : ℕ → List ℕ → ℕ → ℕ
stop separator s at = at + length (parts separator (drop at s)).first
