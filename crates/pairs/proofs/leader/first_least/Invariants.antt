use mathlib.Core.Path.{◌≡◌}
use Prim.Native.Nat.{◌*◌, ◌^◌, ◌≤◌}
use Rattle.numbers.specs.Bytes.{at}
use Rattle.pairs.specs.Inner.Pairs.{Leads}
use Rattle.pairs.proofs.leader.first_least.Given as goal

abbrev pub invariant-loop-mixed : goal.invariant-loop-mixed
invariant-loop-mixed l = (l.all ≡ 2 ^ l.search.sizes.n) × (l.mixed ≤ 2 ^ l.search.sizes.n) × Leads l.search.sizes.class l.search.sizes.family l.search.sizes.n l.search.sizes.k (at l.table) (l.mixed * 2 ^ l.search.sizes.n) l.led
