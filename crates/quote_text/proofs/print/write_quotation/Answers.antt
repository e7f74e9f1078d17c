-- The line of a quotation is a word and three numbers, which have at most four digits each.
use mathlib.Core.List.{[], ◌∷◌}
use native.Mathlib.Omega.{arith}
use Rattle.listings.proofs.Lengths.{digits_of-le}
use Rattle.quote_text.proofs.print.write_quotation.Goals as goal

pub write_line-requires : goal.write_line-requires
write_line-requires c =
    let q = c.in-Ok.quotation in (omega arith, omega (arith, digits_of-le (q.products ∷ q.literals ∷ q.length ∷ [])))
