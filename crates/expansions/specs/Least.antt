-- The first index of least charge, for the polarity of a block and for the pair of M and i alike; and an order by one number, then by others.
use Rattle.std.specs.Prelude.{Bool, true, false, ◌⊎◌, ◌≡◌, ℕ, zero, suc, ◌<◌, ltb}

-- "fewest .., then ..": a is less than b, or a is b and the rest of the order decides
abbrev pub LeastThen : ℕ → ℕ → Type 0 → Type 0
LeastThen a b Rest = (a < b) ⊎ ((a ≡ b) × Rest)

-- an index, or none
pub data Best : Type 0 where
  nothing : Best
  best : ℕ → Best

-- the better of the best so far and the index i, which comes after it and is valid (true) or not
unfoldable pub better : (ℕ → ℕ) → Bool → Best → ℕ → Best
better charge false b i = b
better charge true nothing i = best i
better charge true (best b) i = elim (ltb (charge i) (charge b)) [ true ↦ best i | false ↦ best b ]

-- the lowest of the valid indices below N that have the least charge
unfoldable pub first_least : ℕ → (ℕ → Bool) → (ℕ → ℕ) → Best
first_least zero valid charge = nothing
first_least (suc N) valid charge = better charge (valid N) (first_least N valid charge) N

-- the index that was found, and 0 where there is none
unfoldable pub chosen : Best → ℕ
chosen nothing = 0
chosen (best b) = b
