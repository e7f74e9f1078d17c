-- `expand_lanes` meets its contract: it is the transform of eight lanes.
use mathlib.Core.Path.{◌∙◌}
use Rattle.lanes.proofs.expand.Turning.{lanes-expanded}
use Rattle.lanes.proofs.expand.expand_lanes.Goals as goal

pub returns : goal.returns
returns c =
    c.coefficients_into.ensures
    ∙ lanes-expanded c.args.r c.args.w c.args.laid.now c.args.lanes.now c.requires.0 c.requires.1 c.requires.2 c.requires.3
