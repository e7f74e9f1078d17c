-- The digits of the numbers on a first line. Cited by the contracts of private functions alone.
use Rattle.std.specs.Prelude.{List, [], ◌∷◌, ℕ, ◌+◌}
use Rattle.listings.specs.Listing.{digit_count}

-- how many digits the numbers of the first line have
unfoldable pub digits_of : List ℕ → ℕ
digits_of [] = 0
digits_of (x ∷ xs) = digit_count x + digits_of xs
