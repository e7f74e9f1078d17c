-- The leader of all the pairs is the answer's: its pair is the answer's M and i (`leader-mixed`, `leader-fixed`), and its charge tells the
-- answer's products and literals (`leader-products`, `leader-literals`).
use mathlib.Core.Path.{◌≡◌, ap, ◌∙◌}
use Prim.Native.Nat.{ℕ, ◌-◌, ◌*◌, ◌/◌, ◌%◌, ◌^◌, ◌≤◌, ◌<◌}
use native.Mathlib.Omega.{arith}
use lib.Arith.{digits_div}
use lib.Bits.{bit_and}
use Rattle.numbers.proofs.Shifts.{mask-shifted}
use Rattle.expansions.specs.Members.{Member}
use Rattle.expansions.specs.declared.kinds.Class.{Class}
use Rattle.expansions.specs.declared.families.Family.{Family}
use Rattle.expansions.specs.Rules.{rule_of}
use Rattle.expansions.specs.Costs.{products, literals}
use Rattle.expansions.proofs.Costs.{charge, charge-products, charge-literals}
use Rattle.expansions.specs.Inner.Answer.{least_pair, answer_pair, answer_mixed, answer_fixed, answer_choice, answer_coefficient}
use Rattle.pairs.specs.Inner.Pairs.{pair_valid, pair_cost, Leads}
use Rattle.pairs.specs.declared.leader.Leader.{Leader}
use Rattle.expansions.proofs.Least.{leading-chosen}
use Rattle.expansions.proofs.Answers.{answer-first, answer-member, answer-inverted-lt, answer-charge}

module _ (C : Class) (F : Family) (n k : ℕ) (f : ℕ → ℕ) (leader : Leader) (hn : n ≤ 8) (hk : k ≤ n) (leads : Leads C F n k f (2 ^ n * 2 ^ n) leader) where
  -- there is a valid pair, so the leader stands for one
  leader-stands : (leader.pair ≡ answer_pair C F n k f) × (leader.charge ≡ pair_cost C F n k f (answer_pair C F n k f))
  unfolding answer_pair least_pair
  leader-stands =
      let a = answer-first C F n k f hk in
      leading-chosen 4294967295 (pair_valid n k) (pair_cost C F n k f) (2 ^ n * 2 ^ n) leader.charge leader.pair leads (answer_pair C F n k f) a.below a.fits

  -- ---- M and i

  pub leader-pair : leader.pair ≡ answer_pair C F n k f
  leader-pair = leader-stands.0

  pub leader-mixed : leader.pair / 2 ^ n ≡ answer_mixed C F n k f
  unfolding answer_mixed
  leader-mixed = ap (λ (x : ℕ). x / 2 ^ n) leader-pair

  -- as code masks the pair
  pub leader-fixed : bit_and leader.pair (1 * 2 ^ n % 2 ^ 64 - 1) ≡ answer_fixed C F n k f
  unfolding answer_fixed
  leader-fixed = mask-shifted n leader.pair (omega arith) ∙ ap (λ (x : ℕ). x % 2 ^ n) leader-pair

  -- so they are of a member
  pub leader-member : Member C n k (leader.pair / 2 ^ n) (bit_and leader.pair (1 * 2 ^ n % 2 ^ 64 - 1)) (answer_choice C F n k f)
  leader-member = rw (leader-mixed, leader-fixed) (answer-member C F n k f hk)

  -- ---- products and literals, which the charge has above the mask

  module _ (bytes : (p : ℕ) → p < 2 ^ n → f p < 2 ^ 8) where
    leader-charge : leader.charge / 256 ≡ charge (rule_of F) n (answer_coefficient C F n k f)
    unfolding answer_mixed answer_fixed
    leader-charge =
        ap (λ (x : ℕ). x / 256) (leader-stands.1 ∙ answer-charge C F n k f hk)
        ∙ digits_div (charge (rule_of F) n (answer_coefficient C F n k f)) (answer-inverted-lt C F n k f hk 8 bytes)

    pub leader-products : (rule_of F).products_in (leader.charge / 256) ≡ products n (answer_coefficient C F n k f)
    leader-products = ap (rule_of F).products_in leader-charge ∙ charge-products F n (answer_coefficient C F n k f) hn

    pub leader-literals : (rule_of F).literals_in (leader.charge / 256) ≡ literals n (answer_coefficient C F n k f)
    leader-literals = ap (rule_of F).literals_in leader-charge ∙ charge-literals F n (answer_coefficient C F n k f) hn
