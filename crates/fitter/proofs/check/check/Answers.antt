-- `check` meets its contract: the text is refused, or the listing is judged beside its table.
use mathlib.Core.Path.{◌≡◌, refl, sym, ap, ◌∙◌}
use borrow.Author.Rules.{rules}
use Rattle.std.specs.Prelude.{Err}
use Rattle.table_texts.specs.Inner.Reading.{Reading, reading, stands_for}
use Rattle.table_texts.proofs.read.Accepted.{reading-accepted, read_whole, reads-given, reads-refused}
use Rattle.fitter.specs.Inner.Answer.{checked}
use Rattle.fitter.proofs.Answers.{check-words}
use Rattle.fitter.proofs.check.check.Goals as goal
use Rattle.fitter.proofs.check.check.Goals.{After-read_table}

means : (c : After-read_table) → stands_for c.read_table.result c.read_table.new.table ≡ reading c.args.text.now
means c = read_whole _ _ _ _ c.read_table.ensures refl

pub check_design-requires : goal.check_design-requires
check_design-requires c =
    (reading-accepted _ _ _ (reads-given _ _ _ _ c.in_ok-design.was (means (goal.at.check_design-requires c).After-read_table))).sized.inputs.1

pub returns : goal.returns
unfolding checked
returns c =
    let e = reads-given _ _ _ _ c.in_ok-design.was (means (goal.at.returns c).After-read_table) in
    check-words _ _ _ (c.check_design.ensures ∙ sym (ap (λ (x : Reading). checked x c.args.listing.now) e))

pub returns-in_err-design : goal.returns-in_err-design
unfolding checked
returns-in_err-design c =
    let e = reads-refused _ _ _ _ c.in_err-design.was (means (goal.at.returns-in_err-design c).After-read_table) in
    let same : c.from_residual.result ≡ Err c.in_err-design.field-0.0 = search rules in
    check-words _ _ _ (same ∙ sym (ap (λ (x : Reading). checked x c.args.listing.now) e))
