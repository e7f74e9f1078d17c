-- `write_answer` meets its contract, by the kind of k: whatever record is listed, it is the one of the answer.
use mathlib.Core.Path.{◌≡◌, sym, ◌∙◌}
use Rattle.numbers.specs.Bytes.{at}
use Rattle.search.specs.Inner.Answer.{answer_expansion}
use Rattle.kronecker.specs.Inner.Answer.{answer_kronecker}
use Rattle.table_answers.proofs.Found.{mixed-found, kronecker-found}
use Rattle.text.proofs.compile.Tables.{mixed-listed, mixed-put, kind-listed, kind-put}
use Rattle.text.proofs.compile.write_answer.Goals as goal

pub write_listing-requires : goal.write_listing-requires
write_listing-requires c =
    let z = c.in-Mixed.sizes in
    let answered = sym c.answer_of.ensures.value ∙ c.in-Mixed.is in
    let found : c.in-Mixed.expansion ≡ answer_expansion z.class z.family z.n z.k (at c.args.table.now) = (mixed-found _ _ _ _ answered).1 in
    mixed-listed _ _ c.requires _ _ _ answered cc

pub write_kronecker-requires : goal.write_kronecker-requires
write_kronecker-requires c =
    let answered = sym c.answer_of.ensures.value ∙ c.in-Kronecker.is in
    let found : c.in-Kronecker.expansion ≡ answer_kronecker c.in-Kronecker.n (at c.args.table.now) = (kronecker-found _ _ _ _ _ c.requires.sized answered).1 in
    kind-listed _ _ c.requires _ _ _ _ answered cc

pub returns-in-Mixed : goal.returns-in-Mixed
returns-in-Mixed c =
    let z = c.in-Mixed.sizes in
    let answered = sym c.answer_of.ensures.value ∙ c.in-Mixed.is in
    let found : c.in-Mixed.expansion ≡ answer_expansion z.class z.family z.n z.k (at c.args.table.now) = (mixed-found _ _ _ _ answered).1 in
    mixed-put _ _ c.requires _ _ _ _ _ _ answered c.write_listing.ensures cc

pub returns-in-Kronecker : goal.returns-in-Kronecker
returns-in-Kronecker c =
    let answered = sym c.answer_of.ensures.value ∙ c.in-Kronecker.is in
    let found : c.in-Kronecker.expansion ≡ answer_kronecker c.in-Kronecker.n (at c.args.table.now) = (kronecker-found _ _ _ _ _ c.requires.sized answered).1 in
    kind-put _ _ c.requires _ _ _ _ _ _ _ answered c.write_kronecker.ensures cc
