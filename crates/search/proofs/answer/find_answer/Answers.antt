-- `find_answer` meets its contract.
use mathlib.Core.Path.{sym, ◌∙◌}
use Rattle.search.specs.Inner.Answer.{searched}
use Rattle.search.proofs.answer.Searchable.{allowed-sized, allowed-table, searched-found}
use Rattle.search.proofs.answer.find_answer.Goals as goal

pub invariant_of-search_allowed : goal.invariant_of-search_allowed
invariant_of-search_allowed c =
    let s = allowed-sized _ _ _ _ _ (sym c.allowed.ensures ∙ c.if-allowed.true) in
    record { inputs = s.inputs.1; mixed = s.mixed.0; within = s.mixed.1 }

pub search_allowed-requires : goal.search_allowed-requires
search_allowed-requires c = allowed-table _ _ _ _ _ (sym c.allowed.ensures ∙ c.if-allowed.true)

pub returns-then-allowed : goal.returns-then-allowed
unfolding searched
returns-then-allowed c = searched-found _ _ _ _ _ _ _ (c.search_allowed.ensures ∙ sym (rw (sym c.allowed.ensures ∙ c.if-allowed.true)))

pub returns : goal.returns
unfolding searched
returns c = searched-found _ _ _ _ _ _ _ (c.empty.ensures ∙ sym (rw (sym c.allowed.ensures ∙ c.if-allowed.false)))
