-- What is told of a text has the numbers of its quotation at their places: a text has one quotation.
use mathlib.Core.Path.{◌≡◌, sym, ap, ◌∙◌}
use mathlib.Core.List.{List}
use Prim.Native.Nat.{ℕ}
use Rattle.std.specs.Prelude.{Result, Ok, Err}
use Rattle.numbers.specs.Bytes.{at}
use Rattle.numbers.specs.declared.refusals.Refused.{Refused}
use Rattle.quote_text.specs.declared.quote.Quotation.{Quotation}
use Rattle.quote_text.specs.Quote.{Quote}
use Rattle.mipaldoz.specs.Answers.{quotation_numbers, TellsQuotation}

pub quotation-places : (text told : List ℕ) (r : Result Quotation Refused) → Quote text r → told ≡ quotation_numbers r → TellsQuotation text told
unfolding quotation_numbers
quotation-places text told r q e =
    let place : (x : Result Quotation Refused) → Quote text x → (k : ℕ) → at told k ≡ at (quotation_numbers x) k =
    λ x other k. ap (λ (v : List ℕ). at v k) (e ∙ ap quotation_numbers (q.answer ∙ sym other.answer)) in
    record {
      given = λ q g.
          let p = place (Ok q) g in
          (p 0, p 1, p 2, p 3, p 4);
      refused = λ e g.
          let p = place (Err e) g in
          (p 0, p 1, p 2, p 3, p 4);
    }
