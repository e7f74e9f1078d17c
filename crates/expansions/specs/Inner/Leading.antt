-- The index that leads, as a loop of the search holds it. Cited by the contracts of private functions alone.
use Rattle.std.specs.Prelude.{◌≡◌, ℕ}
use Rattle.expansions.specs.Least.{Best, nothing, best}

-- c and i are the charge and the index of the best so far; where there is none, c is `top`, which is above every charge
abbrev pub Leading : ℕ → (ℕ → ℕ) → Best → (c i : ℕ) → Type 0
Leading top charge nothing c i = c ≡ top
Leading top charge (best b) c i = (i ≡ b) × (c ≡ charge b)
