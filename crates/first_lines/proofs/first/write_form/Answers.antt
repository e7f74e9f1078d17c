-- `write_form` meets its contract: the word, the numbers before the field k, that field, the numbers after it and the line's end, one after the other.
use mathlib.Core.Path.{ap}
use Prim.Native.Nat.{◌+◌, ◌≤◌}
use native.Mathlib.Omega.{arith}
use lib.ListN.{length}
use Rattle.listings.specs.Listing.{mixed_field, form_word}
use Rattle.listings.specs.Inner.Lengths.{digits_of}
use Rattle.listings.proofs.Lengths.{length-numbers}
use Rattle.writing.proofs.Puts.{put_then, put-length}
use Rattle.first_lines.proofs.FirstLine.{form_line-parts, length-parts}
use Rattle.first_lines.proofs.first.write_form.Goals as goal
use Rattle.first_lines.proofs.first.write_form.Goals.{Start}

-- the parts have room together
room : (s : Start) → let a = s.args in
    a.start.at
    + (length (form_word a.family) + (length a.sizes.now + digits_of a.sizes.now) + (1 + length (mixed_field a.class a.k))
    + (length a.counts.now + digits_of a.counts.now) + 1)
    ≤ length a.out.now
room s =
    let a = s.args in
    omega (arith, s.requires.counts_in_bounds, length-parts a.family a.sizes.now (mixed_field a.class a.k) a.counts.now)

pub word-word-requires : goal.word-word-requires
word-word-requires c = omega (arith, room (goal.at.word-word-requires c).Start, ap length c.form_word.ensures)

pub write_numbers-before-requires : goal.write_numbers-before-requires
write_numbers-before-requires c =
    let w = rw c.form_word.ensures at c.word-word.ensures in
    (c.requires.sizes_len_bound.0, omega (arith, room (goal.at.write_numbers-before-requires c).Start, w.to, put-length w))

pub write_mixed-after-requires : goal.write_mixed-after-requires
write_mixed-after-requires c =
    let w = rw c.form_word.ensures at c.word-word.ensures in
    let z = c.write_numbers-before.ensures in
    omega (arith, room (goal.at.write_mixed-after-requires c).Start, w.to, put-length w, z.to, put-length z, length-numbers c.args.sizes.now)

pub write_numbers-requires : goal.write_numbers-requires
write_numbers-requires c =
    let w = rw c.form_word.ensures at c.word-word.ensures in
    let z = c.write_numbers-before.ensures in
    let f = c.write_mixed-after.ensures in
    (c.requires.sizes_len_bound.1, omega (arith, room (goal.at.write_numbers-requires c).Start, w.to, put-length w, z.to, put-length z, length-numbers c.args.sizes.now, f.to, put-length f))

pub byte-requires : goal.byte-requires
byte-requires c =
    let w = rw c.form_word.ensures at c.word-word.ensures in
    let z = c.write_numbers-before.ensures in
    let f = c.write_mixed-after.ensures in
    let q = c.write_numbers.ensures in
    omega (
      arith,
      room (goal.at.byte-requires c).Start,
      w.to,
      put-length w,
      z.to,
      put-length z,
      length-numbers c.args.sizes.now,
      f.to,
      put-length f,
      q.to,
      put-length q,
      length-numbers c.args.counts.now,
    )

pub returns : goal.returns
returns c =
    let a = c.args in
    let w = rw c.form_word.ensures at c.word-word.ensures in
    let fields = put_then (put_then w c.write_numbers-before.ensures) c.write_mixed-after.ensures in
    rw (form_line-parts a.family a.sizes.now (mixed_field a.class a.k) a.counts.now)
    (put_then (put_then fields c.write_numbers.ensures) c.byte.ensures)
