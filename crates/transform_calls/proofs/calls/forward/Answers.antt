-- `forward` meets its contract.
use mathlib.Core.Path.{sym, ap, ◌∙◌}
use Rattle.std.specs.Prelude.{Err}
use Rattle.transform_calls.proofs.calls.Meaning.{forward-done, forward-refused}
use Rattle.transform_calls.proofs.calls.forward.Goals as goal

pub returns-in-Err : goal.returns-in-Err
returns-in-Err c = forward-refused _ _ _ _ _ c.in-Err.refusal _ (sym c.judge.ensures ∙ c.in-Err.is) (ap Err c.at.ensures)

pub returns : goal.returns
returns c = forward-done _ _ _ _ _ _ (sym c.judge.ensures ∙ c.in_default.is) c.coefficients_into.ensures
