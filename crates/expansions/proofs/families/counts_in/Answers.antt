-- `counts_in` meets its contract, family by family.
use mathlib.Core.Path.{refl, sym}
use native.Mathlib.Omega.{arith}
use lib.Bits.{and_mask}
use Rattle.expansions.proofs.families.counts_in.Goals as goal

pub overflow_cast-result-in-One : goal.overflow_cast-result-in-One
overflow_cast-result-in-One c = omega (arith, and_mask c.args.sum 12)

pub overflow_cast-result-in-Two : goal.overflow_cast-result-in-Two
overflow_cast-result-in-Two c = omega (arith, and_mask c.args.sum 9)

pub overflow_mul-sum : goal.overflow_mul-sum
overflow_mul-sum c = omega (arith, and_mask c.args.sum 9)

pub returns-in-One : goal.returns-in-One
returns-in-One c = rw c.in-One.is (refl, and_mask c.args.sum 12)

pub returns-in-Two : goal.returns-in-Two
returns-in-Two c =
    let low = and_mask c.args.sum 9 in
    rw c.in-Two.is (low, rw (sym low) c.saturating_sub.ensures)
