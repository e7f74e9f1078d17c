-- The loop fills the array by `coefficient_at`, from the front.
use Rattle.numbers.proofs.Front.{front_all}
use Rattle.lanes.proofs.terms.coefficients.Goals as goal

pub returns : goal.returns
returns c = let l = c.loop-t in front_all _ _ l.t _ c.loop-t-test.false l.invariant
