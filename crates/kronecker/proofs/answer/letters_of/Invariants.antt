use Rattle.expansions.proofs.Kronecker.Coefficients.{LettersTo}
use Rattle.kronecker.proofs.answer.letters_of.Given as goal

abbrev pub invariant-loop-letter : goal.invariant-loop-letter
invariant-loop-letter l = LettersTo l.kind l.rest l.letter-index l.letter-items
