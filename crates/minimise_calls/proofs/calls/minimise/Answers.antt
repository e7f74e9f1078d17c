-- `minimise` meets its contract.
use Rattle.expansions.specs.declared.kinds.Class.TheVariants.{Block}
use Rattle.expansions.specs.declared.families.Family.TheVariants.{One}
use mathlib.Core.Path.{sym, ◌∙◌}
use native.Mathlib.Omega.{arith}
use lib.ListN.{length}
use Rattle.numbers.proofs.refusals.Judging.{passed_up}
use Rattle.minimise_calls.proofs.calls.Judging.{Accepted, refusal-none, accepted-room}
use Rattle.minimise_calls.proofs.calls.Meaning.{minimise-found, minimise-refused}
use Rattle.search.proofs.answer.Searchable.{searched-answer}
use Rattle.minimise_calls.proofs.calls.minimise.Goals as goal
use Rattle.minimise_calls.proofs.calls.minimise.Goals.{In_ok-judge}

pub returns-in_err-judge : goal.returns-in_err-judge
returns-in_err-judge c = minimise-refused _ _ _ _ _ _ _ _ (sym c.judge.ensures ∙ c.in_err-judge.was) (passed_up _ _ c.from_residual.ensures.1)

-- past the refusals
accepted : (c : In_ok-judge) → let a = c.args in
    Accepted a.n a.m a.k a.table.now (length a.coefficients.now) (length a.blocks.now)
accepted c = refusal-none _ _ _ _ _ _ (sym c.judge.ensures ∙ c.in_ok-judge.was)

pub shared_ref_as_front-copy_from_slice : goal.shared_ref_as_front-copy_from_slice
shared_ref_as_front-copy_from_slice c = omega (arith, (accepted-room _ _ _ _ _ _ (accepted (goal.at.shared_ref_as_front-copy_from_slice c).In_ok-judge)).0)

pub shared_ref_as_front-copy_from_slice-2 : goal.shared_ref_as_front-copy_from_slice-2
shared_ref_as_front-copy_from_slice-2 c = omega (arith, (accepted-room _ _ _ _ _ _ (accepted (goal.at.shared_ref_as_front-copy_from_slice-2 c).In_ok-judge)).1)

pub returns : goal.returns
returns c =
    let a = accepted (goal.at.returns c).In_ok-judge in
    minimise-found _ _ _ _ _ _ _ _ _ (sym c.judge.ensures ∙ c.in_ok-judge.was)
    (c.find_answer-found.ensures.is_handed_up ∙ searched-answer Block One _ _ _ _ a.sized a.table_long a.clean)
    c.copy_from_slice.ensures.after c.copy_from_slice-2.ensures.after
