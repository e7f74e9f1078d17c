-- `mipaldoz_read` meets its contract.
use mathlib.Core.Path.{ap, ◌∙◌}
use Rattle.mipaldoz.specs.Answers.{read_numbers}
use Rattle.mipaldoz.proofs.table_text.mipaldoz_read.Goals as goal

pub returns : goal.returns
returns c =
    let called = c.read_table in record { meaning = (called.result, c.read_numbers.ensures _, called.ensures); bytes = called.ensures.table; answer = c.read_numbers.ensures _ ∙ ap read_numbers called.ensures.result }
