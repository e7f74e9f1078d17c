-- `kronecker_answer` meets its contract: the search hands up the answer of the table.
use mathlib.Core.Path.{sym, ◌∙◌}
use lib.Seq.{length-take-le}
use Rattle.table_texts.specs.Design.{kronecker_design}
use Rattle.table_texts.proofs.Design.{table-sized}
use Rattle.table_answers.proofs.Searched.{part-within, searched-kind}
use Rattle.table_answers.proofs.answers.kronecker_answer.Goals as goal

pub slice_bounds-find_kronecker-end : goal.slice_bounds-find_kronecker-end
slice_bounds-find_kronecker-end c =
    sym (length-take-le _ _ (part-within _ _ _ (table-sized (kronecker_design c.args.n c.args.m) c.requires.sized) c.requires.table))

pub returns : goal.returns
returns c =
    c.find_kronecker.ensures.is_handed_up ∙ searched-kind _ _ _ (table-sized (kronecker_design c.args.n c.args.m) c.requires.sized) c.requires.table
