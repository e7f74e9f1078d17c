-- `write_sentence` meets its contract: the place, the words, the cause and the line's end, one after another.
use native.Mathlib.Omega.{arith}
use Rattle.writing.proofs.Puts.{put_then}
use Rattle.refusal_words.specs.Sentences.{sentence}
use Rattle.refusal_words.proofs.sentence.write_sentence.Goals as goal

pub returns : goal.returns
unfolding sentence
returns c = (
  omega (arith, c.write_place-placed.ensures.0, c.write_words-worded.ensures.0, c.write_cause.ensures.0, c.byte.ensures.to),
  rw (← c.cause_of.ensures)
      (put_then (put_then (put_then c.write_place-placed.ensures.1 c.write_words-worded.ensures.1) c.write_cause.ensures.1) c.byte.ensures),
)
