-- The least small sum stands for the least charge, and its choice is the first that has it.
use native.Mathlib.Omega.{arith}
use lib.Count.{ones-le}
use Rattle.numbers.specs.Bytes.{at}
use Rattle.lanes.proofs.expand.Room.{few}
use Rattle.charges.proofs.cheapest.OtherBlocks.{least-small, sum-cheapest}
use Rattle.charges.proofs.cheapest.cheapest_block.Goals as goal

pub sum_charge-requires : goal.sum_charge-requires
sum_charge-requires g c =
    let z = c.args.search.now.sizes in
    let small = least-small z.class z.k (at c.args.lanes.now) c.args.j (few z) _ c.least_of-least.ensures in
    (omega (arith, c.literals_outside.ensures, ones-le 8 c.args.j c.requires.block.0), omega (arith, small))

pub returns : goal.returns
returns g c =
    let z = c.args.search.now.sizes in
    sum-cheapest z.class z.k (at c.args.lanes.now) c.args.j (few z) _ c.least_of-least.ensures z.family _ _ c.sum_charge.ensures
    c.literals_outside.ensures
