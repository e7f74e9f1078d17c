-- A number by a test, and one test for all numbers below a bound.
use Rattle.std.specs.Prelude.{Bool, true, false, ◌&&◌, ℕ, zero, suc}

-- c where the test passes, and 0 where it fails
unfoldable pub only : Bool → ℕ → ℕ
only true c = c
only false c = 0

-- the test passes for each number below N
unfoldable pub every : ℕ → (ℕ → Bool) → Bool
every zero test = true
every (suc N) test = every N test && test N
