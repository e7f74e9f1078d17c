-- The loop fills the array by `choice_at`, from the front.
use native.Mathlib.Omega.{arith}
use Rattle.numbers.proofs.Bytes.{is-table}
use Rattle.search.proofs.found.block_choices.Goals as goal

pub returns : goal.returns
returns c = let l = c.loop-j in is-table 256 _ _ l.invariant.0 (λ t h. l.invariant.1 t (omega arith))
