-- `write_listing` meets its contract: where the listing has room, its parts are written one after the other.
use mathlib.Core.List.{List, [], ◌++◌}
use mathlib.Core.Path.{◌≡◌}
use Prim.Native.Nat.{ℕ, ◌+◌, ◌≤◌}
use native.Mathlib.Omega.{arith}
use lib.ListN.{length, length-append}
use Rattle.numbers.specs.Bytes.{at}
use Rattle.listings.specs.Parts.{bytes}
use Rattle.listings.specs.Listing.{line, tabbed, fields_of, form_line, inv_line, product_lines, listing_with, listing}
use Rattle.listings.proofs.Lengths.{length-inv_line}
use Rattle.writing.proofs.Puts.{put_then, put-length}
use Rattle.listing_writing.proofs.Answered.{listing-written}
use Rattle.listing_writing.proofs.form.write_listing.Goals as goal
use Rattle.listing_writing.proofs.form.write_listing.Goals.{Else-out-listing_length, Start}

-- the bytes of the first line
first : Start → List ℕ
first s = let a = s.args in form_line a.family (fields_of a.class a.n a.m a.k a.e)

-- the bytes of the lines of the products
lines : Start → List ℕ
lines s = let a = s.args in product_lines a.class a.n a.m a.k a.e.mixed a.e.fixed (at a.e.blocks) (at a.e.coefficients)

-- the listing is as long as its parts
parted : (s : Start) → let a = s.args in length (listing a.class a.family a.n a.m a.k a.e) ≡ length (first s) + (5 + a.m) + length (lines s) + 4
unfolding listing listing_with first lines line tabbed bytes
parted s =
    let a = s.args in
    omega (
      arith,
      length-append (first s ++ inv_line a.m a.e.inverted ++ lines s) (line (bytes "end") []),
      length-append (first s ++ inv_line a.m a.e.inverted) (lines s),
      length-append (first s) (inv_line a.m a.e.inverted),
      length-inv_line a.m a.e.inverted,
    )

-- the listing has room
room : (c : Else-out-listing_length) → let s = (goal.at.Else-out-listing_length c).Start in
    length (first s) + (5 + c.args.m) + length (lines s) + 4 ≤ length c.args.out.now
room c = omega (arith, c.if-out-listing_length.false, c.listing_length.ensures, parted (goal.at.Else-out-listing_length c).Start)

pub write_form-second-requires-clause-counts_in_bounds : goal.write_form-second-requires-clause-counts_in_bounds
unfolding first
write_form-second-requires-clause-counts_in_bounds c =
    omega (arith, room (goal.at.write_form-second-requires-clause-counts_in_bounds c).Else-out-listing_length)

pub write_inv-terms-requires : goal.write_inv-terms-requires
unfolding first
write_inv-terms-requires c =
    let f = c.write_form-second.ensures in
    (c.requires.outputs, omega (arith, room (goal.at.write_inv-terms-requires c).Else-out-listing_length, f.to, put-length f))

pub write_terms-end-requires-clause-room : goal.write_terms-end-requires-clause-room
unfolding first lines
write_terms-end-requires-clause-room c =
    let a = c.args in
    let f = c.write_form-second.ensures in
    let g = c.write_inv-terms.ensures in
    let r = room (goal.at.write_terms-end-requires-clause-room c).Else-out-listing_length in
    omega (arith, r, f.to, put-length f, g.to, put-length g, length-inv_line a.m a.e.inverted)

pub write_end-requires : goal.write_end-requires
unfolding first lines
write_end-requires c =
    let a = c.args in
    let f = c.write_form-second.ensures in
    let g = c.write_inv-terms.ensures in
    let h = c.write_terms-end.ensures in
    let r = room (goal.at.write_end-requires c).Else-out-listing_length in
    omega (arith, r, f.to, put-length f, g.to, put-length g, length-inv_line a.m a.e.inverted, h.to, put-length h)

pub returns : goal.returns
unfolding listing listing_with
returns c =
    let a = c.args in
    let whole = listing a.class a.family a.n a.m a.k a.e in
    let fits : length whole ≤ length a.out.now = omega (arith, c.if-out-listing_length.false, c.listing_length.ensures) in
    listing-written whole _ _ _ fits
    (put_then (put_then (put_then c.write_form-second.ensures c.write_inv-terms.ensures) c.write_terms-end.ensures) c.write_end.ensures)
