-- `check_table` meets its contract: the listing is refused, or its record is judged.
use mathlib.Core.Path.{◌≡◌, refl, sym, ap, ◌∙◌}
use borrow.Author.Rules.{rules}
use Rattle.std.specs.Prelude.{Ok, Err}
use Rattle.fitter.specs.declared.check.Verdict.{Verdict}
use Rattle.fitter.proofs.Judging.{record-judged, refused-judged}
use Rattle.fitter.proofs.check.check_table.Goals as goal

pub returns-in_err-read_listing : goal.returns-in_err-read_listing
returns-in_err-read_listing c =
    let a = c.args in
    let same : c.from_residual.result ≡ Err c.in_err-read_listing.field-0.0.refused = search rules in
    rw same (refused-judged a.sizes a.table.now a.listing.now _ _ (sym c.in_err-read_listing.ensures.reading))

pub returns : goal.returns
returns c =
    let a = c.args in
    ap (λ (v : Verdict). Ok v) c.judge_read.ensures ∙ record-judged a.sizes a.table.now a.listing.now _ _ refl (sym c.in_ok-read_listing.ensures.reading)
