use Rattle.numbers.specs.Bytes.{at}
use Rattle.listings.specs.Listing.{cube_lines}
use Rattle.writing.specs.Put.{Put}
use Rattle.listing_writing.proofs.terms.write_terms.Given as goal

abbrev pub invariant-loop-t : goal.invariant-loop-t
invariant-loop-t g l = Put l.initial.out l.initial.place.at (cube_lines l.m (g.C.Cubes.cube_of l.cubes) (at l.coefficients) l.t) l.out l.place.at
