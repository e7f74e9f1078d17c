-- What a block costs where all its terms are charged is, 256 times, what a block other than block 0 costs (`other-cost`), so that its first least choice
-- is the same by either (`other-choice`). Block 0 leaves out the constant and has its mask (`first-cost`).
use mathlib.Core.Path.{◌≡◌, refl, sym, ap, ◌∙◌}
use Prim.Native.Nat.{ℕ, zero, suc, ◌+◌, ◌*◌, ◌/◌, ◌<◌}
use native.Mathlib.Omega.{arith}
use Rattle.expansions.specs.declared.kinds.Class.{Class}
use Rattle.expansions.specs.declared.families.Family.{Family}
use Rattle.expansions.specs.Inner.Answer.{least_choice}
use Rattle.expansions.specs.Rules.{rule_of}
use Rattle.expansions.specs.Inner.Charges.{used_charge, charged_terms, constant_in}
use Rattle.expansions.proofs.Costs.{ones-zero}
use Rattle.expansions.proofs.Minimal.{least_choice-ext}
use Rattle.expansions.proofs.SmallSums.{least_choice-scaled}
use Rattle.charges.specs.Inner.Charges.{used_at, charge_from, all_from}
use Rattle.lanes.specs.Inner.Terms.{coefficient_in}

-- block 0
pub first-cost : (C : Class) (k : ℕ) (F : Family) (lanes : ℕ → ℕ) (x : ℕ)
    → used_charge (rule_of F) 0 (used_at C k lanes 0 x / 2 * 2) * 256 + coefficient_in C k lanes 0 0 x ≡ charge_from C k F lanes 0 x
unfolding charged_terms constant_in
first-cost C k F lanes x =
    ap (λ (y : ℕ). used_charge (rule_of F) y (used_at C k lanes 0 x / 2 * 2) * 256 + coefficient_in C k lanes 0 0 x) (sym ones-zero)

-- a block other than block 0
pub other-cost : (C : Class) (k : ℕ) (F : Family) (lanes : ℕ → ℕ) (j x : ℕ) → 0 < j → all_from C k F lanes j x * 256 + 0 ≡ charge_from C k F lanes j x
unfolding charged_terms constant_in
other-cost C k F lanes zero x some = absurd (omega arith)
other-cost C k F lanes (suc j) x some = refl

-- its first least choice, by either
pub other-choice : (C : Class) (k : ℕ) (F : Family) (lanes : ℕ → ℕ) (N j : ℕ) → 0 < N → 0 < j
    → least_choice N (all_from C k F lanes j) ≡ least_choice N (charge_from C k F lanes j)
other-choice C k F lanes N j some h =
    least_choice-scaled N some (all_from C k F lanes j) ∙ least_choice-ext N _ (charge_from C k F lanes j) (λ x l. other-cost C k F lanes j x h)
