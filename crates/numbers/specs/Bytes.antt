-- A list of bytes as a function of its place, and a function as the list of its first values.
use Rattle.std.specs.Prelude.{Bool, true, ◌&&◌, List, [], ◌∷◌, ℕ, zero, suc, ltb, get_or}

-- the byte at place p, and 0 from the end on
abbrev pub at : List ℕ → ℕ → ℕ
at bytes p = get_or bytes p 0

-- g 0, g 1, .., g (N - 1)
unfoldable pub tabulate : ℕ → (ℕ → ℕ) → List ℕ
tabulate zero g = []
tabulate (suc N) g = g 0 ∷ tabulate N (λ i. g (suc i))

-- every byte is below the bound
unfoldable pub all_below : ℕ → List ℕ → Bool
all_below bound [] = true
all_below bound (x ∷ xs) = ltb x bound && all_below bound xs
