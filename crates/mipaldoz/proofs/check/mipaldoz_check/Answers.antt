-- `mipaldoz_check` meets its contract.
use Rattle.fitter.specs.Check.{Check}
use Rattle.mipaldoz.specs.Answers.{check_numbers}
use Rattle.mipaldoz.proofs.Answers.{answer-told}
use Rattle.mipaldoz.proofs.check.mipaldoz_check.Goals as goal

pub returns : goal.returns
returns c =
    let called = c.check in
    let t = answer-told check_numbers (Check _ _) called.result _ _ called.ensures.answer called.ensures c.check_numbers.ensures in
    record { meaning = t.0; answer = t.1 }
