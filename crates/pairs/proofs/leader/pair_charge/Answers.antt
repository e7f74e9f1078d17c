-- `pair_charge` meets its contract: block 0 costs what it costs under its first least choice, and the other blocks add 256 times their charges.
use mathlib.Core.Path.{◌≡◌}
use Prim.Native.Nat.{◌+◌, ◌*◌}
use native.Mathlib.Omega.{arith}
use Rattle.numbers.specs.Bytes.{at}
use Rattle.pairs.specs.Inner.Pairs.{pair_from}
use Rattle.pairs.proofs.leader.Charging.{pair_from-lt}
use Rattle.pairs.proofs.leader.pair_charge.Goals as goal
use Rattle.pairs.proofs.leader.pair_charge.Goals.{Joined-apart, then-apart, else-apart}

-- either way the sum is the pair's charge
sum : (c : Joined-apart) → c.cheapest_first-first.result.charge + c.if-apart.others * 256 ≡ pair_from c.args.search.now.sizes (at c.args.lanes.now)
sum c =
    let first = c.cheapest_first-first.ensures.charge in
    elim c.if-apart.branch [ then-apart w ↦ rw (first, w.others-is) w.others_charge-others.ensures | else-apart w ↦ rw (first, w.others-is) w.others_charge-others-else-apart.ensures ]

pub overflow_mul-result : goal.overflow_mul-result
overflow_mul-result c = omega (arith, sum (goal.at.overflow_mul-result c).Joined-apart, pair_from-lt c.args.search.now.sizes (at c.args.lanes.now))

pub overflow_add-result : goal.overflow_add-result
overflow_add-result c = omega (arith, sum (goal.at.overflow_add-result c).Joined-apart, pair_from-lt c.args.search.now.sizes (at c.args.lanes.now))

pub returns : goal.returns
returns c = sum (goal.at.returns c).Joined-apart
