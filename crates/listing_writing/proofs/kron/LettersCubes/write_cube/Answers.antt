-- `write_cube` meets the contract of the trait.
use native.Mathlib.Omega.{arith}
use Rattle.numbers.specs.Bytes.{at}
use Rattle.listings.proofs.Kronecker.{length-kronecker_cube}
use Rattle.listing_writing.proofs.kron.LettersCubes.write_cube.Goals as goal

pub write_cube-requires : goal.write_cube-requires
write_cube-requires c =
    let l = c.args.self.now in
    (l.sized, omega (arith, c.requires, length-kronecker_cube l.n (at l.letters) c.args.t))
