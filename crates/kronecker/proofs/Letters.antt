-- The definitions read a number and the number of its letter alike: what a step leaves (`step_value_numbered`, `stepped_numbered`), and what a term has
-- of an input (`literal_numbered`). A number below 3 is the number of its letter (`number-back`).
use mathlib.Core.Path.{◌≡◌, refl, ◌∙◌}
use Prim.Native.Nat.{ℕ, zero, suc, ◌<◌}
use native.Mathlib.Omega.{arith}
use Rattle.expansions.specs.Kronecker.Letters.{literal_of}
use Rattle.expansions.specs.Kronecker.Steps.{step_value, kronecker_step}
use Rattle.expansions.specs.Inner.KroneckerWalk.{Stepped}
use Rattle.kronecker.specs.Letters.{letter_number, letter_of}

pub number-back : (x : ℕ) → x < 3 → letter_number (letter_of x) ≡ x
unfolding letter_of letter_number
number-back zero h = refl
number-back (suc zero) h = refl
number-back (suc (suc zero)) h = refl
number-back (suc (suc (suc x))) h = absurd (omega arith)

pub literal_numbered : (x b : ℕ) → literal_of (letter_number (letter_of x)) b ≡ literal_of x b
unfolding letter_number letter_of literal_of
literal_numbered zero b = refl
literal_numbered (suc zero) b = refl
literal_numbered (suc (suc x)) zero = refl
literal_numbered (suc (suc x)) (suc b) = refl

pub step_value_numbered : (x b first second : ℕ) → step_value (letter_number (letter_of x)) b first second ≡ step_value x b first second
unfolding letter_number letter_of step_value
step_value_numbered zero b first second = refl
step_value_numbered (suc zero) b first second = refl
step_value_numbered (suc (suc x)) zero first second = refl
step_value_numbered (suc (suc x)) (suc b) first second = refl

pub stepped_numbered : {i size : ℕ} {from after : ℕ → ℕ} (x : ℕ) → Stepped i (letter_number (letter_of x)) size from after
    → Stepped i x size from after
unfolding kronecker_step
stepped_numbered x s = record { done = λ t h. s.done t h ∙ step_value_numbered x _ _ _; rest = s.rest }
