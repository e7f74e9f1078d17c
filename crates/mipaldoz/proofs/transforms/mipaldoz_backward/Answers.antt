-- `mipaldoz_backward` meets its contract.
use Rattle.transform_calls.specs.Calls.{Backward}
use Rattle.mipaldoz.specs.Answers.{transform_numbers}
use Rattle.mipaldoz.proofs.Answers.{answer-told}
use Rattle.mipaldoz.proofs.transforms.mipaldoz_backward.Goals as goal

pub returns : goal.returns
returns c =
    let called = c.backward in
    let t = answer-told transform_numbers (Backward _ _ _ _ _ _) called.result _ _ called.ensures.answer called.ensures c.answer_numbers.ensures in
    record { meaning = t.0; answer = t.1 }
