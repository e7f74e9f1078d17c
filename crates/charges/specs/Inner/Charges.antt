-- What a block costs, from the functions of all blocks, and its least choice. Cited by the contracts of this crate's functions and of private
-- functions of `search`; the contract of no call rests on this file.
use Rattle.std.specs.Prelude.{Bool, cond, ◌≡◌, ℕ, ◌+◌, ◌*◌, ◌/◌}
use Rattle.std.specs.Int.Bits.{bit_or}
use Rattle.std.specs.Int.Count.{ones}
use Rattle.numbers.specs.Sums.{fold_below}
use Rattle.expansions.specs.declared.kinds.Class.{Class}
use Rattle.expansions.specs.Inner.Answer.{least_choice}
use Rattle.expansions.specs.BlockTable.{choice_entry}
use Rattle.expansions.specs.declared.families.Family.{Family}
use Rattle.expansions.specs.Rules.{rule_of}
use Rattle.expansions.specs.Inner.Charges.{small_sum, used_charge, charged_terms, constant_in}
use Rattle.lanes.specs.Inner.Terms.{coefficient_in}
use Rattle.charges.specs.declared.cheapest.LeastSum.{LeastSum}
use Rattle.charges.specs.declared.cheapest.Cheapest.{Cheapest}

-- the terms that some output has in block j under the choice x, by the table of the class
unfoldable pub used_at : Class → ℕ → (ℕ → ℕ) → (j x : ℕ) → ℕ
used_at C k lanes j x = fold_below bit_or 8 (λ o. choice_entry C k (lanes (j * 8 + o)) x)

-- what block j costs under x by a family's rule, from the block functions: 256 times the charge of its terms but the constant, and in block 0 the
-- coefficient of the constant
abbrev pub charge_from : Class → ℕ → Family → (ℕ → ℕ) → (j x : ℕ) → ℕ
charge_from C k F lanes j x =
    used_charge (rule_of F) (ones j) (charged_terms j (used_at C k lanes j x)) * 256 + constant_in j (coefficient_in C k lanes j 0 x)

-- what block j costs under x by a family's rule where all its terms are charged; a block other than block 0 is charged 256 times that
abbrev pub all_from : Class → ℕ → Family → (ℕ → ℕ) → (j x : ℕ) → ℕ
all_from C k F lanes j x = used_charge (rule_of F) (ones j) (used_at C k lanes j x)

-- the small sum of block j under x, all its terms summed
abbrev pub all_sum : Class → ℕ → (ℕ → ℕ) → (j x : ℕ) → ℕ
all_sum C k lanes j x = small_sum (used_at C k lanes j x)

-- the small sum of block 0 under x without the constant, whose coefficient, the mask, stands in the byte below the sum
abbrev pub masked_sum : Class → ℕ → (ℕ → ℕ) → ℕ → ℕ
masked_sum C k lanes x = small_sum (used_at C k lanes 0 x / 2 * 2) * 256 + coefficient_in C k lanes 0 0 x

-- what is compared of a choice: its sum, and where there are masks the mask in the byte below it
abbrev pub compared : Bool → (sum mask : ℕ) → ℕ
compared masked sum mask = cond masked (sum * 256 + mask) sum

-- the first of the least of N numbers
pub record IsLeastSum (N : ℕ) (sums : ℕ → ℕ) (r : LeastSum) : Type 0 where
  pub choice : r.choice ≡ least_choice N sums
  pub sum : r.sum ≡ sums (least_choice N sums)

-- the first least of the N choices of a block, and what the block costs under it
pub record IsCheapest (N : ℕ) (cost : ℕ → ℕ) (r : Cheapest) : Type 0 where
  pub choice : r.choice ≡ least_choice N cost
  pub charge : r.charge ≡ cost (least_choice N cost)
