-- The bytes that are compared are the small sums of the block.
use Rattle.numbers.specs.Bytes.{at}
use Rattle.charges.proofs.cheapest.OtherBlocks.{word-least}
use Rattle.charges.proofs.cheapest.least_from.Goals as goal

pub returns : goal.returns
returns c C k held h =
    let a = c.args in
    word-least C k (at a.lanes.now) a.j a.half a.count _ _ _ h c.requires.1 c.requires.2 (c.used_terms.ensures C k held h) c.small_sums.ensures c.least_sum.ensures
