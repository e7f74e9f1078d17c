-- `write_term` meets its contract: no byte where the coefficient is 0, and else the line's parts, one after the other.
use mathlib.Core.List.{List}
use mathlib.Core.Path.{◌≡◌, refl, ap}
use Prim.Native.Nat.{ℕ, ◌+◌, ◌≤◌}
use native.Mathlib.Omega.{arith}
use lib.ListN.{length}
use Rattle.listings.specs.Parts.{bytes}
use Rattle.numbers.specs.Nonzero.{if_nonzero}
use Rattle.numbers.proofs.Nonzero.{nonzero-none, nonzero-some}
use Rattle.listings.specs.Listing.{cube_line}
use Rattle.listings.proofs.Lengths.{length-cube_line, cube_line-parts}
use Rattle.writing.proofs.Puts.{put-none, put_then, put-length}
use Rattle.listing_writing.proofs.terms.write_term.Goals as goal

-- the line has room
line_room : (at m : ℕ) (x : List ℕ) (c room : ℕ) → (c ≡ 0 → ⊥) → at + length (if_nonzero c (cube_line m x c)) ≤ room
    → at + (5 + length x + 1 + m + 1) ≤ room
line_room at m x c room h fits =
    omega (arith, fits, ap length (nonzero-some c (cube_line m x c) h), length-cube_line (length x) m x c refl)

pub returns-then-c-eq0 : goal.returns-then-c-eq0
returns-then-c-eq0 g c = rw (nonzero-none _ _ c.if-c-eq0.true) (put-none _ _)

pub begin_term-cube-requires : goal.begin_term-cube-requires
begin_term-cube-requires g c =
    let a = c.args in
    omega (arith, line_room _ a.m (g.C.Cubes.cube_of a.cubes.now a.t) a.c _ c.if-c-eq0.false c.requires.1)

pub write_cube-requires : goal.write_cube-requires
unfolding bytes
write_cube-requires g c =
    let a = c.args in
    let w = c.begin_term-cube.ensures in
    omega (arith, line_room _ a.m (g.C.Cubes.cube_of a.cubes.now a.t) a.c _ c.if-c-eq0.false c.requires.1, w.to, put-length w)

pub end_term-requires : goal.end_term-requires
unfolding bytes
end_term-requires g c =
    let a = c.args in
    let w = c.begin_term-cube.ensures in
    let x = c.write_cube.ensures in (
      c.requires.0,
      omega (arith, line_room _ a.m (g.C.Cubes.cube_of a.cubes.now a.t) a.c _ c.if-c-eq0.false c.requires.1, w.to, put-length w, x.to, put-length x),
    )

pub returns : goal.returns
returns g c =
    let a = c.args in
    let x = g.C.Cubes.cube_of a.cubes.now a.t in
    rw (nonzero-some a.c (cube_line a.m x a.c) c.if-c-eq0.false, cube_line-parts a.m x a.c)
    (put_then (put_then c.begin_term-cube.ensures c.write_cube.ensures) c.end_term.ensures)
