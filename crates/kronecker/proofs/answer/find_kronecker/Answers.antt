-- `find_kronecker` meets its contract.
use mathlib.Core.Path.{sym, ◌∙◌}
use Rattle.kronecker.specs.Inner.Answer.{searched_kronecker}
use Rattle.kronecker.proofs.answer.Searchable.{allowed-table, searched-found}
use Rattle.kronecker.proofs.answer.find_kronecker.Goals as goal

pub search_kinds-requires : goal.search_kinds-requires
search_kinds-requires c = allowed-table _ _ _ (sym c.is_table.ensures ∙ c.if-is_table.true)

pub returns-then-is_table : goal.returns-then-is_table
unfolding searched_kronecker
returns-then-is_table c = searched-found _ _ _ _ (c.search_kinds.ensures ∙ sym (rw (sym c.is_table.ensures ∙ c.if-is_table.true)))

pub returns-else-is_table : goal.returns-else-is_table
unfolding searched_kronecker
returns-else-is_table c = searched-found _ _ _ _ (c.empty.ensures ∙ sym (rw (sym c.is_table.ensures ∙ c.if-is_table.false)))
