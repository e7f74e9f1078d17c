-- `quote_table` meets its contract, by the kind of k: whatever record of a class is quoted, it is the one of the answer.
use mathlib.Core.Path.{◌≡◌, sym, ◌∙◌}
use Rattle.numbers.specs.Bytes.{at}
use Rattle.search.specs.Inner.Answer.{answer_expansion}
use Rattle.table_answers.proofs.Found.{mixed-found}
use Rattle.text.proofs.compile.Tables.{mixed-listed, kind-written}
use Rattle.quote_text.proofs.quote.Numbers.{mixed-quoted, kind-numbers}
use Rattle.quote_text.proofs.quote.quote_table.Goals as goal

pub listing_length-requires : goal.listing_length-requires
listing_length-requires c =
    let z = c.in-Mixed.sizes in
    let answered = sym c.answer_of.ensures.value ∙ c.in-Mixed.is in
    let found : c.in-Mixed.expansion ≡ answer_expansion z.class z.family z.n z.k (at c.args.table.now) = (mixed-found _ _ _ _ answered).1 in
    mixed-listed _ _ c.requires _ _ _ answered cc

pub kronecker_length-requires : goal.kronecker_length-requires
kronecker_length-requires c = (kind-written _ _ c.requires _ _ _ (sym c.answer_of.ensures.value ∙ c.in-Kronecker.is)).0

pub returns-in-Mixed : goal.returns-in-Mixed
returns-in-Mixed c =
    let z = c.in-Mixed.sizes in
    let answered = sym c.answer_of.ensures.value ∙ c.in-Mixed.is in
    let found : c.in-Mixed.expansion ≡ answer_expansion z.class z.family z.n z.k (at c.args.table.now) = (mixed-found _ _ _ _ answered).1 in
    mixed-quoted _ _ c.requires _ _ _ _ _ _ answered c.listing_length.ensures (cc) (cc) (cc)

pub returns-in-Kronecker : goal.returns-in-Kronecker
returns-in-Kronecker c = kind-numbers _ _ c.requires _ _ _ _ (sym c.answer_of.ensures.value ∙ c.in-Kronecker.is) c.kronecker_length.ensures
