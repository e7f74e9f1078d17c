-- `judge_read` meets its contract: the cubes are judged where M and i are a member's.
use mathlib.Core.Path.{sym}
use Rattle.membership.proofs.Class.{legal-pair}
use Rattle.fitter.proofs.check.judge_read.Goals as goal

pub all_show_back-requires : goal.all_show_back-requires
all_show_back-requires c =
    let pair = legal-pair _ _ _ _ (sym c.if-not-legal_pair.ensures) in
    (c.requires, pair.mask, pair.fixed)
