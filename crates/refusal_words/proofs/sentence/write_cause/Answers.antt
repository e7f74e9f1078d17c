-- `write_cause` meets its contract, cause by cause; this is the one that the check does not find.
use native.Mathlib.Omega.{arith}
use Rattle.listings.specs.Parts.{bytes}
use Rattle.refusal_words.specs.Sentences.{cause_words}
use Rattle.refusal_words.proofs.sentence.write_cause.Goals as goal

pub returns-in-TooManyFields : goal.returns-in-TooManyFields
unfolding cause_words bytes
returns-in-TooManyFields c = rw (c.in-Some.is, c.in-TooManyFields.is) (omega arith, c.word-in-TooManyFields.ensures)
