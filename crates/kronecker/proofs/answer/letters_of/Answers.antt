-- `letters_of` meets its contract: after i turns the letters of the inputs below i are written.
use Rattle.expansions.proofs.Kronecker.Coefficients.{letters-none, letters-more, letters-all}
use Rattle.kronecker.proofs.answer.letters_of.Goals as goal

pub loop-letter-init : goal.loop-letter-init
loop-letter-init c = letters-none _

pub loop-letter-preserved : goal.loop-letter-preserved
loop-letter-preserved c = letters-more _ _ _ _ c.loop-letter-test.true c.loop-letter.invariant

pub returns : goal.returns
returns c = letters-all _ _ _ _ c.loop-letter-test.false c.loop-letter.invariant
