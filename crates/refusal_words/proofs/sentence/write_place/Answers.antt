-- `write_place` meets its contract: the name, the line and a colon, one after another.
use mathlib.Core.Path.{ap}
use native.Mathlib.Omega.{arith}
use lib.ListN.{length, length-take}
use Rattle.listings.specs.Parts.{bytes}
use Rattle.writing.proofs.Puts.{put_then}
use Rattle.refusal_words.specs.Sentences.{place}
use Rattle.refusal_words.proofs.sentence.write_place.Goals as goal

pub word-named-requires : goal.word-named-requires
word-named-requires c =
    let name = c.args.name.now in
    omega (arith, ap length c.shown_name.ensures, length-take 4096 name)

pub write_line_words-requires : goal.write_line_words-requires
write_line_words-requires c =
    let name = c.args.name.now in
    omega (arith, ap length c.shown_name.ensures, length-take 4096 name, c.word-named.ensures.to)

pub word-requires : goal.word-requires
word-requires c =
    let name = c.args.name.now in
    omega (arith, ap length c.shown_name.ensures, length-take 4096 name, c.word-named.ensures.to, c.write_line_words.ensures.0)

pub returns : goal.returns
unfolding place bytes
returns c =
    let name = c.args.name.now in (
      omega (arith, ap length c.shown_name.ensures, length-take 4096 name, c.word-named.ensures.to, c.write_line_words.ensures.0, c.word.ensures.to),
      rw (← c.shown_name.ensures) (put_then (put_then c.word-named.ensures c.write_line_words.ensures.1) c.word.ensures),
    )
