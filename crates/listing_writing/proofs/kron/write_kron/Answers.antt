-- `write_kron` meets its contract: the word, two numbers, the letters, two numbers and the line's end, one after the other.
use mathlib.Core.List.{[], ◌∷◌}
use native.Mathlib.Omega.{arith}
use Rattle.numbers.specs.Bytes.{at}
use Rattle.listings.specs.Parts.{bytes}
use Rattle.listings.specs.Inner.Lengths.{digits_of}
use Rattle.listings.proofs.Lengths.{length-numbers}
use Rattle.listings.proofs.Kronecker.{kronecker_line-parts, length-kronecker_line, length-letters}
use Rattle.writing.proofs.Puts.{put_then, put-length}
use Rattle.listing_writing.proofs.kron.write_kron.Goals as goal

pub word-requires : goal.word-requires
word-requires c =
    let a = c.args in
    let long = length-kronecker_line a.n a.m (at a.letters.now) a.products a.literals in
    omega (arith, c.requires.1, long)

pub write_numbers-sizes-requires : goal.write_numbers-sizes-requires
unfolding digits_of
write_numbers-sizes-requires c =
    let a = c.args in
    let long = length-kronecker_line a.n a.m (at a.letters.now) a.products a.literals in
    let w = c.word.ensures in
    (omega arith, omega (arith, c.requires.1, long, w.to, put-length w))

pub byte-requires : goal.byte-requires
unfolding digits_of
byte-requires c =
    let a = c.args in
    let long = length-kronecker_line a.n a.m (at a.letters.now) a.products a.literals in
    let w = c.word.ensures in
    let z = c.write_numbers-sizes.ensures in
    omega (arith, c.requires.1, long, w.to, put-length w, z.to, put-length z, length-numbers (a.n ∷ a.m ∷ []))

pub write_letters-last-requires : goal.write_letters-last-requires
unfolding digits_of
write_letters-last-requires c =
    let a = c.args in
    let long = length-kronecker_line a.n a.m (at a.letters.now) a.products a.literals in
    let w = c.word.ensures in
    let z = c.write_numbers-sizes.ensures in
    let b = c.byte.ensures in
    (c.requires.0, omega (arith, c.requires.1, long, w.to, put-length w, z.to, put-length z, length-numbers (a.n ∷ a.m ∷ []), b.to, put-length b))

pub write_numbers-requires : goal.write_numbers-requires
unfolding digits_of
write_numbers-requires c =
    let a = c.args in
    let long = length-kronecker_line a.n a.m (at a.letters.now) a.products a.literals in
    let w = c.word.ensures in
    let z = c.write_numbers-sizes.ensures in
    let b = c.byte.ensures in
    let x = c.write_letters-last.ensures in (
      omega arith,
      omega (
        arith,
        c.requires.1,
        long,
        w.to,
        put-length w,
        z.to,
        put-length z,
        length-numbers (a.n ∷ a.m ∷ []),
        b.to,
        put-length b,
        x.to,
        put-length x,
        length-letters a.n (at a.letters.now),
      ),
    )

pub byte-requires-2 : goal.byte-requires-2
unfolding digits_of
byte-requires-2 c =
    let a = c.args in
    let long = length-kronecker_line a.n a.m (at a.letters.now) a.products a.literals in
    let w = c.word.ensures in
    let z = c.write_numbers-sizes.ensures in
    let b = c.byte.ensures in
    let x = c.write_letters-last.ensures in
    let q = c.write_numbers.ensures in
    omega (
      arith,
      c.requires.1,
      long,
      w.to,
      put-length w,
      z.to,
      put-length z,
      length-numbers (a.n ∷ a.m ∷ []),
      b.to,
      put-length b,
      x.to,
      put-length x,
      length-letters a.n (at a.letters.now),
      q.to,
      put-length q,
      length-numbers (a.products ∷ a.literals ∷ []),
    )

pub returns : goal.returns
unfolding bytes
returns c =
    let a = c.args in
    let sizes-put = put_then c.word.ensures c.write_numbers-sizes.ensures in
    let letters-put = put_then (put_then sizes-put c.byte.ensures) c.write_letters-last.ensures in
    rw (kronecker_line-parts a.n a.m (at a.letters.now) a.products a.literals)
    (put_then (put_then letters-put c.write_numbers.ensures) c.byte-2.ensures)
