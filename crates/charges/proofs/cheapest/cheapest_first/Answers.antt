-- The least small sum with its mask stands for the least charge, and its choice is the first that has it.
use mathlib.Core.Path.{ap}
use Prim.Native.Nat.{ℕ, ◌+◌, ◌*◌, ◌/◌, ◌^◌, ◌<◌}
use native.Mathlib.Omega.{arith}
use lib.Bits.{bit_and}
use Rattle.numbers.specs.Bytes.{at}
use Rattle.expansions.specs.Classes.{choices}
use Rattle.expansions.specs.Inner.Answer.{least_choice}
use Rattle.expansions.proofs.BlockTable.{choices-held}
use Rattle.expansions.proofs.Classes.{choices-some}
use Rattle.expansions.proofs.Minimal.{choice-first}
use Rattle.expansions.proofs.SmallSums.{small_sum-le}
use Rattle.lanes.specs.Inner.Terms.{coefficient_in}
use Rattle.lanes.specs.declared.sizes.Sizes.{Sizes}
use Rattle.lanes.proofs.expand.Room.{few}
use Rattle.charges.specs.Inner.Charges.{used_at, masked_sum}
use Rattle.charges.proofs.cheapest.Used.{used_at-lt, coefficient_in-lt}
use Rattle.charges.proofs.cheapest.BlockCosts.{first-cost}
use Rattle.charges.proofs.cheapest.Choices.{cheapest-masked, cheapest-ext}
use Rattle.charges.proofs.cheapest.Weighed.{sum_charge-most, masked-fits}
use Rattle.charges.proofs.cheapest.cheapest_first.Goals as goal
use Rattle.charges.proofs.cheapest.cheapest_first.Goals.{After-least_first-least, After-sum_charge}

-- the terms of block 0 under each of its choices, and without the constant, are a byte
module _ (z : Sizes) (lanes : ℕ → ℕ) where
  terms-lt : (x : ℕ) → x < choices z.class z.k → used_at z.class z.k lanes 0 x / 2 * 2 < 2 ^ 8
  terms-lt x h = omega (arith, used_at-lt z.class z.k lanes 0 x (choices-held z.class z.k x (few z) h))

  -- a byte above a byte
  masked-lt : masked_sum z.class z.k lanes (least_choice (choices z.class z.k) (masked_sum z.class z.k lanes)) < 65536
  masked-lt =
      let x = least_choice (choices z.class z.k) (masked_sum z.class z.k lanes) in
      let h = (choice-first (choices z.class z.k) (choices-some z.class z.k) (masked_sum z.class z.k lanes)).below in
      omega (arith, small_sum-le (used_at z.class z.k lanes 0 x / 2 * 2) (terms-lt x h), coefficient_in-lt z.class z.k lanes 0 0 x)

sum_lt : (c : After-least_first-least) → c.least_first-least.result.sum < 65536
sum_lt c = rw c.least_first-least.ensures.sum (masked-lt c.args.search.now.sizes (at c.args.lanes.now))

pub sum_charge-requires : goal.sum_charge-requires
sum_charge-requires c = (omega arith, omega (arith, sum_lt (goal.at.sum_charge-requires c).After-least_first-least))

charge-lt : (c : After-sum_charge) → c.sum_charge.result < 2 ^ 20
charge-lt c =
    let a = c.args in
    let high : c.least_first-least.result.sum / 256 < 256 = omega (arith, sum_lt (goal.at.After-sum_charge c).After-least_first-least) in
    omega (arith, c.sum_charge.ensures, sum_charge-most a.search.now.sizes.family 0 (c.least_first-least.result.sum / 256) (omega arith) high)

pub overflow_mul-result : goal.overflow_mul-result
overflow_mul-result c = omega (arith, charge-lt c)

pub overflow_add-result : goal.overflow_add-result
overflow_add-result c = record { fits = masked-fits _ _ _ (charge-lt (goal.at.overflow_add-result c).After-sum_charge) (sum_lt (goal.at.overflow_add-result c).After-least_first-least) }

pub returns : goal.returns
returns c =
    let z = c.args.search.now.sizes in
    let lanes = at c.args.lanes.now in
    let N = choices z.class z.k in
    let some = choices-some z.class z.k in
    cheapest-ext N some _ _ _ (λ x h. first-cost z.class z.k z.family lanes x)
    (cheapest-masked z.family N 0 some (λ x. used_at z.class z.k lanes 0 x / 2 * 2) (λ x. coefficient_in z.class z.k lanes 0 0 x) _
    (terms-lt z lanes) (λ x h. coefficient_in-lt z.class z.k lanes 0 0 x) c.least_first-least.ensures _
    (ap (λ (x : ℕ). x * 256 + bit_and c.least_first-least.result.sum 255) c.sum_charge.ensures))
