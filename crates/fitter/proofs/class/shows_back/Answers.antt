-- `shows_back` meets its contract: a term with no line passes, and any other shows the polarity of its term.
use borrow.Author.Tests.{ne_eqb}
use mathlib.Core.Path.{◌∙◌}
use Rattle.search.proofs.polarity.Fitting.{term_polarity-fits}
use Rattle.membership.specs.Class.{shows_back}
use Rattle.fitter.proofs.class.shows_back.Goals as goal

pub returns-else-coefficient-eq0 : goal.returns-else-coefficient-eq0
unfolding shows_back
returns-else-coefficient-eq0 c =
    let a = c.args in
    let polarity = c.term_polarity.ensures ∙ term_polarity-fits _ _ _ _ _ _ a.t c.requires.0 c.requires.1 c.requires.2 in
    rw (ne_eqb _ _ c.if-coefficient-eq0.false, ← polarity, ← c.from.ensures)
