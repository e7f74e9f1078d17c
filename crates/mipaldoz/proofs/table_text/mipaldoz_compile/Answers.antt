-- `mipaldoz_compile` meets its contract.
use Rattle.text.specs.Compile.{Compile}
use Rattle.mipaldoz.specs.Answers.{listing_numbers}
use Rattle.mipaldoz.proofs.Answers.{answer-told}
use Rattle.mipaldoz.proofs.table_text.mipaldoz_compile.Goals as goal

pub returns : goal.returns
returns c =
    let called = c.compile in
    let t = answer-told listing_numbers (Compile _ _ _) called.result _ _ called.ensures.answer called.ensures c.listing_numbers.ensures in
    record { meaning = t.0; answer = t.1 }
