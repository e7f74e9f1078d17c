-- `coefficients` meets its contract: after i turns the steps for the inputs below i are done.
use borrow.Author.Rules.{rules}
use mathlib.Core.Path.{ap, ◌∙◌}
use lib.ListN.{length}
use Rattle.numbers.proofs.Bytes.{length-tabulate}
use Rattle.expansions.proofs.Kronecker.Coefficients.{coefficients-none, coefficients-fit, coefficients-more, coefficients-all}
use Rattle.kronecker.proofs.Letters.{stepped_numbered}
use Rattle.kronecker.proofs.answer.coefficients.Goals as goal

pub loop-i-init : goal.loop-i-init
loop-i-init c =
    let p = c.requires in
    (ap length c.padded-values.ensures ∙ length-tabulate 256 _, coefficients-none _ _ _ _ p.0 p.1 c.padded-values.ensures)

pub step-values-requires : goal.step-values-requires
step-values-requires c = coefficients-fit _ _ _ _ _ _ c.loop-i-test.true c.loop-i.invariant.1

pub loop-i-preserved : goal.loop-i-preserved
loop-i-preserved c = (
  search rules,
  coefficients-more _ _ _ _ _ _ _ c.loop-i-test.true c.loop-i.invariant.1
      (stepped_numbered _ (rw c.from.ensures at c.step-values.ensures)),
)

pub returns : goal.returns
returns c = coefficients-all _ _ _ _ _ _ c.loop-i.invariant.0 c.loop-i-test.false c.loop-i.invariant.1
