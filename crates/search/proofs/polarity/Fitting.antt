-- The polarity of a term that `term_polarity` gives is that of the class, where the masks are of n inputs. No block comes from 256 on, and the shift by n gives the
-- number of points.
use mathlib.Core.Path.{◌≡◌}
use mathlib.Core.List.{List}
use Prim.Native.Nat.{ℕ, ◌*◌, ◌^◌, ◌%◌, ◌≤◌, ◌<◌}
use native.Mathlib.Omega.{arith}
use borrow.Author.Tests.{le-leb, lt-ltb}
use Rattle.numbers.specs.Bytes.{at}
use Rattle.numbers.proofs.Shifts.{one_shifted}
use Rattle.expansions.specs.declared.kinds.Class.{Class}
use Rattle.expansions.specs.Members.{block, polarity}
use Rattle.expansions.specs.Split.{outside}
use Rattle.points.proofs.Bounds.{gather-small}
use Rattle.search.specs.Expansion.{term_polarity}

pub term_polarity-fits : (C : Class) (n k M i : ℕ) (blocks : List ℕ) (t : ℕ) → n ≤ 8 → M < 2 ^ n → i < 2 ^ n
    → term_polarity C n k M i blocks t ≡ polarity C n k M i (at blocks) t
unfolding term_polarity
term_polarity-fits C n k M i blocks t hn hM hi = rw (le-leb n 8 hn, lt-ltb M (2 ^ n) hM, lt-ltb i (2 ^ n) hi)

pub block_small : (n M t : ℕ) → n ≤ 8 → block n M t < 256
block_small n M t few = gather-small n (outside n M) t few

pub points_shifted : (n : ℕ) → n ≤ 8 → 1 * 2 ^ n % 2 ^ 64 ≡ 2 ^ n
points_shifted n few = one_shifted n (omega arith)

pub ruleset small = (block_small, points_shifted)
