-- `end_term` meets its contract: the tab, the outputs and the line's end, one after the other.
use native.Mathlib.Omega.{arith}
use Rattle.listings.proofs.Characters.{length-outputs}
use Rattle.writing.proofs.Puts.{put_then, put-length}
use Rattle.listing_writing.proofs.terms.end_term.Goals as goal

pub byte-requires : goal.byte-requires
byte-requires c =
    let o = c.outputs.ensures in
    let b = c.byte-outputs.ensures in
    omega (arith, c.requires.1, b.to, put-length b, o.to, put-length o, length-outputs c.args.m c.args.c)

pub returns : goal.returns
returns c =
    put_then (put_then c.byte-outputs.ensures c.outputs.ensures) c.byte.ensures
