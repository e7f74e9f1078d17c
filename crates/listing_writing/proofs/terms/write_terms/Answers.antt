-- `write_terms` meets its contract: after t turns the lines of the products below t are written.
use Prim.Native.Nat.{◌<◌, ◌^◌}
use native.Mathlib.Numerals.{add-one}
use native.Mathlib.Omega.{arith}
use Rattle.numbers.specs.Bytes.{at}
use Rattle.numbers.specs.Nonzero.{over_nonzero}
use Rattle.numbers.proofs.Shifts.{one_shifted}
use Rattle.listings.proofs.Lengths.{cube_lines-le}
use Rattle.writing.proofs.Puts.{put-none, put_then, put-length}
use Rattle.listing_writing.proofs.terms.write_terms.Goals as goal

pub loop-t-init : goal.loop-t-init
unfolding over_nonzero
loop-t-init g c = put-none _ _

pub write_term-place-requires : goal.write_term-place-requires
write_term-place-requires g c =
    let l = c.loop-t in
    let a = c.args in
    let h : l.t < 2 ^ a.n = omega (arith, c.loop-t-test.true, one_shifted a.n (omega (arith, c.requires.sizes.0))) in
    let room = cube_lines-le a.m (g.C.Cubes.cube_of a.cubes.now) (at a.coefficients.now) l.t (2 ^ a.n) h in
    (c.requires.sizes.1, omega (arith, l.invariant.to, put-length l.invariant, c.requires.room, room))

pub loop-t-preserved : goal.loop-t-preserved
unfolding over_nonzero
loop-t-preserved g c = rw add-one (put_then c.loop-t.invariant c.write_term-place.ensures)
