-- `write_line_words` meets its contract: nothing for line 0, and else the word and the number.
use native.Mathlib.Omega.{arith}
use borrow.Author.Tests.{ne_eqb}
use Rattle.listings.specs.Parts.{bytes}
use Rattle.listings.proofs.Characters.{digit_count-in, length-decimal}
use Rattle.writing.proofs.Puts.{put-none, put_then}
use Rattle.refusal_words.specs.Sentences.{line_words}
use Rattle.refusal_words.proofs.sentence.write_line_words.Goals as goal

pub returns-then-line-eq0 : goal.returns-then-line-eq0
unfolding line_words
returns-then-line-eq0 c = rw c.if-line-eq0.true (omega arith, put-none _ _)

pub number-requires : goal.number-requires
number-requires c = omega (arith, (digit_count-in c.args.line).1)

pub returns : goal.returns
unfolding line_words bytes
returns c =
    let a = c.args in
    rw (ne_eqb _ _ c.if-line-eq0.false) (omega (arith, length-decimal a.line, (digit_count-in a.line).1), put_then c.word.ensures c.number.ensures)
