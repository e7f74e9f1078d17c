-- A block other than block 0: the least byte of a word of its small sums is that of eight of its choices (`word-least`), the least of all its choices is a
-- byte (`least-small`), and by it the block's first least choice and charge are had (`sum-cheapest`).
use mathlib.Core.Bool.{cond}
use mathlib.Core.Path.{◌≡◌, ap, ◌∙◌}
use Prim.Native.Nat.{ℕ, ◌+◌, ◌*◌, ◌^◌, ◌≤◌, ◌<◌}
use native.Mathlib.Omega.{arith}
use lib.Count.{ones}
use Rattle.numbers.specs.Words.{word, byte}
use Rattle.expansions.specs.declared.kinds.Class.{Class}
use Rattle.expansions.specs.declared.families.Family.{Family}
use Rattle.expansions.specs.Classes.{apart, choices}
use Rattle.expansions.specs.Rules.{rule_of}
use Rattle.expansions.specs.Inner.Charges.{small_sum, sum_charge}
use Rattle.expansions.proofs.BlockTable.{choices-held, half-held}
use Rattle.expansions.proofs.Classes.{choices-some}
use Rattle.expansions.proofs.Minimal.{choice-first}
use Rattle.expansions.proofs.SmallSums.{small_sum-le}
use Rattle.charges.specs.Inner.Charges.{used_at, all_from, all_sum, IsLeastSum, IsCheapest}
use Rattle.charges.specs.declared.cheapest.LeastSum.{LeastSum}
use Rattle.charges.proofs.cheapest.Used.{used_at-lt}
use Rattle.charges.proofs.cheapest.SumsRead.{sums-read}
use Rattle.charges.proofs.cheapest.Choices.{least-ext, cheapest-sum}

module _ (C : Class) (k : ℕ) (lanes : ℕ → ℕ) (j : ℕ) where
  pub word-least : (half count used sums : ℕ) (r : LeastSum) → half < cond (apart C k) 2 1 → 0 < count → count ≤ 8
      → used ≡ word 8 (λ q. used_at C k lanes j (half * 8 + q)) → sums ≡ word 8 (λ q. small_sum (byte q used))
      → IsLeastSum count (λ q. byte q sums) r → IsLeastSum count (λ q. all_sum C k lanes j (half * 8 + q)) r
  word-least half count used sums r h some few eu es =
      least-ext count some _ _ r
      (λ q l.
      sums-read used (λ q. used_at C k lanes j (half * 8 + q)) (λ q b. used_at-lt C k lanes j (half * 8 + q) (half-held C k half q h b)) eu sums es q
      (omega arith))

  module _ (few : k ≤ 3) (least : LeastSum) (is : IsLeastSum (choices C k) (all_sum C k lanes j) least) where
    terms-lt : (x : ℕ) → x < choices C k → used_at C k lanes j x < 2 ^ 8
    terms-lt x h = used_at-lt C k lanes j x (choices-held C k x few h)

    pub least-small : least.sum < 256
    least-small =
        let h = (choice-first (choices C k) (choices-some C k) (all_sum C k lanes j)).below in
        omega (arith, is.sum, small_sum-le (used_at C k lanes j _) (terms-lt _ h))

    pub sum-cheapest : (F : Family) (more charge : ℕ) → charge ≡ sum_charge (rule_of F) more least.sum → more ≡ ones j
        → IsCheapest (choices C k) (all_from C k F lanes j) (record { charge = charge; choice = least.choice })
    sum-cheapest F more charge e outside =
        cheapest-sum F (choices C k) (ones j) (choices-some C k) (used_at C k lanes j) least terms-lt is charge
        (e ∙ ap (λ (x : ℕ). sum_charge (rule_of F) x least.sum) outside)
