-- `mipaldoz_quote` meets its contract.
use Rattle.quote_text.specs.Quote.{Quote}
use Rattle.mipaldoz.specs.Answers.{quotation_numbers}
use Rattle.mipaldoz.proofs.Answers.{answer-told}
use Rattle.mipaldoz.proofs.quote.Places.{quotation-places}
use Rattle.mipaldoz.proofs.quote.mipaldoz_quote.Goals as goal

pub returns : goal.returns
returns c =
    let called = c.quote in
    let told = answer-told quotation_numbers (Quote _) called.result _ _ called.ensures.answer called.ensures c.quotation_numbers.ensures in
    record { meaning = told.0; answer = told.1; places = quotation-places _ _ _ called.ensures c.quotation_numbers.ensures }
