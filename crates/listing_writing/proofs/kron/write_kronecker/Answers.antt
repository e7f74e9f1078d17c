-- `write_kronecker` meets its contract: where the listing has room, its parts are written one after the other.
use mathlib.Core.List.{List, [], ◌++◌}
use mathlib.Core.Path.{◌≡◌}
use Prim.Native.Nat.{ℕ, ◌+◌, ◌^◌, ◌≤◌}
use native.Mathlib.Omega.{arith}
use lib.ListN.{length, length-append}
use Rattle.numbers.specs.Bytes.{at}
use Rattle.listings.specs.Parts.{bytes}
use Rattle.listings.specs.Listing.{line, tabbed, cube_lines}
use Rattle.listings.specs.Kronecker.{kronecker_cube, kronecker_line, kronecker_listing}
use Rattle.writing.proofs.Puts.{put_then, put-length}
use Rattle.listing_writing.specs.Write.{record_listing}
use Rattle.listing_writing.proofs.Answered.{listing-written}
use Rattle.listing_writing.proofs.kron.write_kronecker.Goals as goal
use Rattle.listing_writing.proofs.kron.write_kronecker.Goals.{Else-out-kronecker_length, Start}

-- the bytes of the first line
first : Start → List ℕ
first s = let a = s.args in kronecker_line a.n a.m (at a.e.letters) a.e.products a.e.literals

-- the bytes of the lines of the products
lines : Start → List ℕ
lines s = let a = s.args in cube_lines a.m (kronecker_cube a.n (at a.e.letters)) (at a.e.coefficients) (2 ^ a.n)

-- the listing is as long as its parts
parted : (s : Start) → let a = s.args in length (record_listing a.n a.m a.e) ≡ length (first s) + length (lines s) + 4
unfolding kronecker_listing first lines line tabbed bytes
parted s = omega (arith, length-append (first s ++ lines s) (line (bytes "end") []), length-append (first s) (lines s))

-- the listing has room
room : (c : Else-out-kronecker_length) → let s = (goal.at.Else-out-kronecker_length c).Start in
    length (first s) + length (lines s) + 4 ≤ length c.args.out.now
room c = omega (arith, c.if-out-kronecker_length.false, c.kronecker_length.ensures, parted (goal.at.Else-out-kronecker_length c).Start)

pub write_kron-terms-requires : goal.write_kron-terms-requires
unfolding first
write_kron-terms-requires c =
    (c.requires.inputs, omega (arith, room (goal.at.write_kron-terms-requires c).Else-out-kronecker_length))

pub write_terms-end-requires-clause-room : goal.write_terms-end-requires-clause-room
unfolding first lines
write_terms-end-requires-clause-room c =
    let p = c.write_kron-terms.ensures in
    omega (arith, room (goal.at.write_terms-end-requires-clause-room c).Else-out-kronecker_length, p.to, put-length p)

pub write_end-requires : goal.write_end-requires
unfolding first lines
write_end-requires c =
    let p = c.write_kron-terms.ensures in
    let q = c.write_terms-end.ensures in
    omega (arith, room (goal.at.write_end-requires c).Else-out-kronecker_length, p.to, put-length p, q.to, put-length q)

pub returns : goal.returns
unfolding kronecker_listing
returns c =
    let a = c.args in
    let fits : length (record_listing a.n a.m a.e) ≤ length a.out.now = omega (arith, c.if-out-kronecker_length.false, c.kronecker_length.ensures) in
    listing-written (record_listing a.n a.m a.e) _ _ _ fits
    (put_then (put_then c.write_kron-terms.ensures c.write_terms-end.ensures) c.write_end.ensures)
