-- `next_point` meets its contract: the sum fits, and is the next number opened out.
use mathlib.Core.Path.{◌≡◌, ap₂, ◌∙◌}
use Prim.Native.Nat.{ℕ, suc, ◌+◌, ◌<◌}
use native.Mathlib.Omega.{arith}
use lib.Bits.{bit_and}
use Rattle.numbers.proofs.Shifts.{points-le}
use Rattle.expansions.specs.ClosedUp.{OpenedOut}
use Rattle.expansions.specs.Split.{spread}
use Rattle.expansions.proofs.Ascending.{spread-suc}
use Rattle.expansions.proofs.ClosedUp.{spread-opened-out, opened-out-is}
use Rattle.expansions.proofs.Masks.{outside-difference}
use Rattle.points.proofs.ascending.next_point.Goals as goal
use Rattle.points.proofs.ascending.next_point.Goals.{After-outside}

sums-fit : (c : After-outside) → let a = c.args in a.x + c.outside.result < 512
sums-fit c =
    let a = c.args in
    let p = c.requires in
    omega (arith, p.2, c.outside.ensures, outside-difference a.n a.mask p.1, points-le a.n p.0)

-- the words follow from the equation
opened : (n M x r : ℕ) → ((y : ℕ) → x ≡ spread n M y → r ≡ spread n M (suc y))
    → ((y : ℕ) → x ≡ spread n M y → r ≡ spread n M (suc y)) × ((y : ℕ) → OpenedOut n M y x → OpenedOut n M (suc y) r)
opened n M x r next = (next, λ y h. rw (next y (opened-out-is n M y x h)) (spread-opened-out n M (suc y)))

pub overflow_add-result : goal.overflow_add-result
overflow_add-result c = omega (arith, sums-fit c)

pub overflow_add-result-2 : goal.overflow_add-result-2
overflow_add-result-2 c = omega (arith, sums-fit c)

pub returns : goal.returns
returns c =
    let a = c.args in
    let o =
    opened a.n a.mask a.x _
    (λ y e. ap₂ (λ (x o : ℕ). bit_and (x + o + 1) a.mask) e c.outside.ensures ∙ spread-suc a.n a.mask y c.requires.1) in
    record { by_index = o.0; bits = o.1 }
