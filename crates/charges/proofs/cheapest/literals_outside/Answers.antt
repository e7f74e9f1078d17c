-- The bits of j, three at a time.
use Prim.Native.Nat.{◌/◌}
use native.Mathlib.Omega.{arith}
use Rattle.expansions.specs.Inner.Charges.{literal_counts, literal_count}
use Rattle.charges.proofs.cheapest.Used.{literals-le, literals-outside}
use Rattle.charges.proofs.cheapest.literals_outside.Goals as goal

pub overflow_add-result-2 : goal.overflow_add-result-2
unfolding literal_counts literal_count
overflow_add-result-2 c =
    omega (arith, c.from.ensures, c.from-2.ensures, c.from-3.ensures, literals-le c.args.j, literals-le (c.args.j / 8), literals-le (c.args.j / 64))

pub returns : goal.returns
unfolding literal_counts literal_count
returns c = rw (c.from.ensures, c.from-2.ensures, c.from-3.ensures) (literals-outside c.args.j c.requires)
