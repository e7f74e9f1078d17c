-- `mipaldoz_minimise` meets its contract.
use Rattle.minimise_calls.specs.Calls.{Minimise}
use Rattle.mipaldoz.specs.Answers.{minimum_numbers}
use Rattle.mipaldoz.proofs.Answers.{answer-told}
use Rattle.mipaldoz.proofs.minimise.mipaldoz_minimise.Goals as goal

pub returns : goal.returns
returns c =
    let called = c.minimise in
    let t = answer-told minimum_numbers (Minimise _ _ _ _ _ _ _ _) called.result _ _ called.ensures.answer called.ensures c.minimum_numbers.ensures in
    record { meaning = t.0; answer = t.1 }
