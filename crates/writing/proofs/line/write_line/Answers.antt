-- `write_line` meets its contract: the word, the numbers and the line's end, one after the other.
use Rattle.listings.specs.Listing.{line}
use Rattle.writing.proofs.Puts.{put_then, put-length}
use Rattle.listings.proofs.Lengths.{length-numbers}
use native.Mathlib.Omega.{arith}
use Rattle.writing.proofs.line.write_line.Goals as goal

pub byte-requires : goal.byte-requires
byte-requires c =
    let w = c.word-fields.ensures in
    let x = c.write_numbers.ensures in
    omega (arith, w.to, put-length w, x.to, put-length x, length-numbers c.args.numbers.now)

pub returns : goal.returns
unfolding line
returns c =
    put_then (put_then c.word-fields.ensures c.write_numbers.ensures) c.byte.ensures
