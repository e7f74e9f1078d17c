-- `next_polarity` meets its contract: the lanes go from the polarity w to w + 1.
use Rattle.lanes.proofs.expand.Turning.{lanes-turned}
use Rattle.lanes.proofs.expand.next_polarity.Goals as goal

pub returns : goal.returns
returns c =
    let t = lanes-turned c.args.r c.args.w c.args.lanes.now _ c.requires.0 c.requires.2 c.change_polarity.ensures in
    record { by_index = t.0; every = t.1 }
