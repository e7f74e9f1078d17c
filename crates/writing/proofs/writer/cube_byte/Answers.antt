-- `cube_byte` meets its contract where the literal is plain: the search finds the other two cases.
use mathlib.Core.Path.{sym, ◌∙◌}
use lib.Bits.{and_mask}
use Rattle.listings.proofs.Characters.{cube_byte-plain}
use Rattle.writing.proofs.writer.cube_byte.Goals as goal

pub returns-in_default-eq0 : goal.returns-in_default-eq0
returns-in_default-eq0 c =
    cube_byte-plain _ _ (λ e. c.in_default-eq0.is-0.1 (and_mask _ 1 ∙ e)) (sym (and_mask _ 1) ∙ c.in_default-eq0.is-1)
