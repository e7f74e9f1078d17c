-- The two bytes of each row: the lower is the coefficient, the upper the complemented inputs.
use mathlib.Core.Bool.{cond, ◌&&◌}
use mathlib.Core.List.{List}
use mathlib.Core.Path.{◌≡◌, ap}
use Prim.Native.Nat.{ℕ, ◌/◌, ◌%◌, ◌^◌, ◌≤◌, ◌<◌}
use native.Mathlib.Omega.{arith}
use lib.Count.{ones_in}
use lib.Dec.{eqb, ltb}
use lib.ListN.{replicate}
use Rattle.numbers.specs.Bytes.{at, tabulate}
use Rattle.numbers.proofs.Bytes.{tabulate-ext, at-tabulate}
use Rattle.numbers.proofs.Shifts.{points-le}
use Rattle.expansions.specs.declared.kinds.Class.{Class}
use Rattle.expansions.specs.Members.{place}
use Rattle.expansions.proofs.ShownChoices.{shown-ext}
use Rattle.shown_rows.specs.Rows.{coefficient_in, complemented_in, shown_blocks}

pub lower-bytes : (rows : List ℕ) → tabulate 256 (λ t. at rows t / 2 ^ 0 % 256) ≡ tabulate 256 (coefficient_in rows)
lower-bytes rows = tabulate-ext 256 _ _ (λ t h. omega arith)

pub upper-bytes : (rows : List ℕ) → ((t : ℕ) → at rows t < 65536) → tabulate 256 (λ t. at rows t / 2 ^ 8 % 256) ≡ tabulate 256 (complemented_in rows)
upper-bytes rows small = tabulate-ext 256 _ _ (λ t h. omega (arith, small t))

-- only the first 256 complements count for the blocks
pub blocks-ext : (C : Class) (n k M : ℕ) (w : ℕ → ℕ) → n ≤ 8 → shown_blocks C n k M (at (tabulate 256 w)) ≡ shown_blocks C n k M w
unfolding shown_blocks
blocks-ext C n k M w few =
    ap (λ (l : List ℕ). cond (ltb M (2 ^ n) && eqb (ones_in n M) k) l (replicate 256 0))
    (tabulate-ext 256 _ _ (λ j h. shown-ext C n k M (at (tabulate 256 w)) w (λ t l. ap (place n M) (at-tabulate 256 w t (omega (arith, points-le n few)))) j))
