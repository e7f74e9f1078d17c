use mathlib.Core.Path.{◌≡◌}
use Prim.Native.Nat.{ℕ, ◌<◌}
use lib.ListN.{length}
use Rattle.numbers.specs.Bytes.{at}
use Rattle.search.specs.Inner.Search.{choice_at}
use Rattle.search.proofs.found.block_choices.Given as goal

abbrev pub invariant-loop-j : goal.invariant-loop-j
invariant-loop-j l =
    (length l.choice-items ≡ 256) × ((t : ℕ) → t < l.j → at l.choice-items t ≡ choice_at l.search.sizes.class l.search.sizes.family l.search.sizes.n l.search.sizes.k (at l.lanes) t)
