-- The weights are small, so that no product and no sum of them wraps.
use native.Mathlib.Omega.{arith}
use Rattle.charges.proofs.cheapest.Weighed.{weighed-is, outside-le, product_le, products-le, weighed-le}
use Rattle.charges.proofs.cheapest.sum_charge.Goals as goal

pub overflow_mul-result : goal.overflow_mul-result
overflow_mul-result c =
    omega (arith, outside-le c.args.family _ _ _ _ c.weights_of-weights.ensures.0 c.weights_of-weights.ensures.1 c.requires.0 c.requires.1)

pub overflow_add-result : goal.overflow_add-result
overflow_add-result c =
    omega (arith, product_le c.args.family _ _ _ _ c.weights_of-weights.ensures.0 c.weights_of-weights.ensures.1 c.requires.0 c.requires.1)

pub overflow_mul-result-2 : goal.overflow_mul-result-2
overflow_mul-result-2 c =
    omega (arith, products-le c.args.family _ _ _ _ c.weights_of-weights.ensures.0 c.weights_of-weights.ensures.1 c.requires.0 c.requires.1)

pub overflow_mul-result-3 : goal.overflow_mul-result-3
overflow_mul-result-3 c =
    omega (arith, weighed-le c.args.family _ _ _ _ c.weights_of-weights.ensures.0 c.weights_of-weights.ensures.1 c.requires.0 c.requires.1)

pub overflow_add-result-2 : goal.overflow_add-result-2
overflow_add-result-2 c =
    omega (arith, weighed-le c.args.family _ _ _ _ c.weights_of-weights.ensures.0 c.weights_of-weights.ensures.1 c.requires.0 c.requires.1)

pub returns : goal.returns
returns c = weighed-is c.args.family _ _ _ _ c.weights_of-weights.ensures.0 c.weights_of-weights.ensures.1
