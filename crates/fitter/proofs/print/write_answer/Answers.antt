-- `write_answer` meets its contract: the line of a point fits.
use mathlib.Core.List.{[], ◌∷◌}
use native.Mathlib.Omega.{arith}
use Rattle.listings.proofs.Lengths.{digits_of-le}
use Rattle.fitter.proofs.print.write_answer.Goals as goal

pub write_line-requires : goal.write_line-requires
write_line-requires c = (omega arith, omega (arith, digits_of-le (c.in-Ok-Differs.point ∷ [])))
