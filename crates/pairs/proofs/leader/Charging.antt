-- The loop over the blocks of a pair. It holds what the blocks passed cost, each under its first least choice (`BlocksSummed`); at the end
-- that is the pair's charge (`blocks-all`).
use mathlib.Core.Path.{◌≡◌, sym, ap, ◌∙◌}
use Prim.Native.Nat.{ℕ, suc, ◌+◌, ◌-◌, ◌*◌, ◌%◌, ◌^◌, ◌≤◌, ◌<◌}
use native.Mathlib.Nat.{add-zero}
use native.Mathlib.Numerals.{add-one}
use native.Mathlib.Omega.{arith}
use lib.Pow.{pow_pos}
use Rattle.numbers.specs.Sums.{fold_below, sum_below}
use Rattle.numbers.proofs.Shifts.{one_shifted, points-le}
use Rattle.expansions.specs.Classes.{choices}
use Rattle.expansions.specs.Inner.Answer.{least_choice, pair_charge}
use Rattle.expansions.proofs.Costs.{sum-le}
use Rattle.expansions.proofs.BlockTable.{choices-held}
use Rattle.expansions.proofs.Classes.{choices-some}
use Rattle.expansions.proofs.Minimal.{choice-first}
use Rattle.charges.specs.Inner.Charges.{IsCheapest, charge_from, all_from}
use Rattle.lanes.specs.declared.sizes.Sizes.{Sizes}
use Rattle.charges.specs.declared.cheapest.Cheapest.{Cheapest}
use Rattle.pairs.specs.Inner.Pairs.{least_from, pair_from}
use Rattle.lanes.proofs.expand.Room.{few}
use Rattle.charges.proofs.cheapest.Used.{most_charge, charge_from-le}
use Rattle.charges.proofs.cheapest.BlockCosts.{other-cost, other-choice}

least_from-le : (s : Sizes) (lanes : ℕ → ℕ) (j : ℕ) → j < 256 → least_from s lanes j ≤ most_charge
least_from-le s lanes j hj =
    let cost = charge_from s.class s.k s.family lanes j in
    let x = least_choice (choices s.class s.k) cost in
    charge_from-le s.class s.k s.family lanes j x hj
    (choices-held s.class s.k x (few s) (choice-first (choices s.class s.k) (choices-some s.class s.k) cost).below)

-- the blocks below j have been passed, and cost what block 0 costs and 256 times `others`
pub record BlocksSummed (s : Sizes) (lanes : ℕ → ℕ) (count others j : ℕ) : Type 0 where
  pub all : count ≡ 2 ^ (s.n - s.k)
  pub some : 0 < j
  pub within : j ≤ count
  pub total : least_from s lanes 0 + others * 256 ≡ sum_below j (least_from s lanes)

-- block 0 has been passed
pub blocks-first : (s : Sizes) (lanes : ℕ → ℕ) → BlocksSummed s lanes (1 * 2 ^ (s.n - s.k) % 2 ^ 64) 0 1
unfolding fold_below
blocks-first s lanes =
    let all : 1 * 2 ^ (s.n - s.k) % 2 ^ 64 ≡ 2 ^ (s.n - s.k) = one_shifted (s.n - s.k) (omega (arith, s.inputs)) in
    record { all = all; some = omega arith; within = omega (arith, all, pow_pos (s.n - s.k)); total = omega arith }

-- no sum of as many blocks as there can be wraps
summed-lt : (s : Sizes) (lanes : ℕ → ℕ) (j : ℕ) → j ≤ 256 → sum_below j (least_from s lanes) < 2 ^ 32
summed-lt s lanes j h =
    omega (arith, sum-le j most_charge (least_from s lanes) (λ i g. least_from-le s lanes i (omega arith)))

module _ (s : Sizes) (lanes : ℕ → ℕ) (count others j : ℕ) (turn : j < count) (summed : BlocksSummed s lanes count others j) where
  pub blocks-few : j < 256
  blocks-few = omega (arith, summed.all, points-le (s.n - s.k) (omega (arith, s.inputs)))

  module _ (charge : ℕ) (one : charge * 256 ≡ least_from s lanes j) where
    next : least_from s lanes 0 + (others + charge) * 256 ≡ sum_below (suc j) (least_from s lanes)
    unfolding fold_below
    next = omega (arith, summed.total)

    pub blocks-lt : others + charge < 2 ^ 32
    blocks-lt = omega (arith, next, summed-lt s lanes (suc j) blocks-few)

    pub blocks_more : BlocksSummed s lanes count (others + charge) (j + 1)
    blocks_more =
        record { all = summed.all; some = omega arith; within = omega arith; total = rw (add-one j) next }

pub blocks-all : (s : Sizes) (lanes : ℕ → ℕ) (count others j : ℕ) → count ≤ j → BlocksSummed s lanes count others j
    → least_from s lanes 0 + others * 256 ≡ pair_from s lanes
unfolding pair_charge
blocks-all s lanes count others j h b =
    let e : j ≡ 2 ^ (s.n - s.k) = omega (arith, b.all, b.within) in
    b.total ∙ ap (λ (x : ℕ). sum_below x (least_from s lanes)) e

pub pair_from-lt : (s : Sizes) (lanes : ℕ → ℕ) → pair_from s lanes < 2 ^ 32
unfolding pair_charge
pair_from-lt s lanes = summed-lt s lanes (2 ^ (s.n - s.k)) (points-le (s.n - s.k) (omega (arith, s.inputs)))

-- what a block other than block 0 costs, from the charge of all its terms
pub other-least : (s : Sizes) (lanes : ℕ → ℕ) (j : ℕ) (least : Cheapest) → 0 < j
    → IsCheapest (choices s.class s.k) (all_from s.class s.k s.family lanes j) least → least.charge * 256 ≡ least_from s lanes j
other-least s lanes j least some cheapest =
    let same = other-choice s.class s.k s.family lanes (choices s.class s.k) j (choices-some s.class s.k) some in
    sym (add-zero (least.charge * 256))
    ∙ ap (λ (x : ℕ). x * 256 + 0) (cheapest.charge ∙ ap (all_from s.class s.k s.family lanes j) same)
    ∙ other-cost s.class s.k s.family lanes j (least_choice (choices s.class s.k) (charge_from s.class s.k s.family lanes j)) some
