-- `write_refused` meets its contract: the line of a word and two numbers, which have at most four digits each.
use mathlib.Core.List.{[], ◌∷◌}
use native.Mathlib.Omega.{arith}
use Rattle.listings.specs.Parts.{bytes}
use Rattle.listings.proofs.Lengths.{digits_of-le}
use Rattle.writing.proofs.line.write_refused.Goals as goal

pub write_line-requires : goal.write_line-requires
write_line-requires c =
    let a = c.args in
    (omega arith, omega (arith, digits_of-le (a.number ∷ a.place ∷ [])))

pub returns : goal.returns
unfolding bytes
returns c = c.write_line.ensures
