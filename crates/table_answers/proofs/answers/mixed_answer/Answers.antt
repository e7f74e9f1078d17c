-- `mixed_answer` meets its contract: the search hands up the answer of the table.
use mathlib.Core.Path.{refl, sym, ◌∙◌}
use lib.Seq.{length-take-le}
use Rattle.table_texts.specs.Design.{mixed_design}
use Rattle.table_texts.proofs.Design.{table-sized, mixed-sized}
use Rattle.table_answers.proofs.Searched.{part-within, searched-mixed}
use Rattle.table_answers.proofs.answers.mixed_answer.Goals as goal

pub slice_bounds-find_answer-end : goal.slice_bounds-find_answer-end
slice_bounds-find_answer-end c =
    sym (length-take-le _ _ (part-within _ _ _ (table-sized (mixed_design c.args.sizes) c.requires.sized) c.requires.table))

pub returns : goal.returns
returns c =
    let d = mixed_design c.args.sizes in
    c.find_answer.ensures.is_handed_up
    ∙ searched-mixed _ _ _ (table-sized d c.requires.sized) c.requires.table _ _ _ (mixed-sized d _ _ refl c.requires.sized)
