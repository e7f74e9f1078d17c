-- The record that code makes of the leader of all the pairs is the answer's (`record-answer`). Its M and i are the leader's, its counts come
-- from the leader's charge, its places from the block functions of M and i, and its mask from the place of the constant.
use mathlib.Core.Path.{◌≡◌, ap, ◌∙◌}
use mathlib.Core.Bool.{cond}
use mathlib.Core.List.{List}
use Prim.Native.Nat.{ℕ, ◌-◌, ◌*◌, ◌/◌, ◌%◌, ◌^◌, ◌<◌}
use native.Mathlib.Omega.{arith}
use lib.Bits.{bit_and}
use lib.ListN.{set}
use Rattle.numbers.specs.Bytes.{at, tabulate}
use Rattle.numbers.proofs.Bytes.{at-tabulate}
use Rattle.expansions.specs.Inner.Answer.{answer_inverted, answer_mixed, answer_fixed, answer_coefficient, expanded_coefficient}
use Rattle.expansions.specs.Classes.{apart}
use Rattle.expansions.specs.Rules.{rule_of}
use Rattle.expansions.specs.Split.{gather, outside}
use Rattle.search.specs.Inner.Answer.{answer_expansion}
use Rattle.lanes.specs.Inner.Lanes.{block_lanes}
use Rattle.lanes.specs.Inner.Terms.{coefficient_at}
use Rattle.pairs.specs.Inner.Pairs.{Given, Leads}
use Rattle.search.specs.Inner.Search.{choice_at}
use Rattle.search.specs.declared.expansion.Expansion.{Expansion}
use Rattle.pairs.specs.declared.leader.Leader.{Leader}
use Rattle.lanes.specs.declared.sizes.Sizes.{Sizes}
use Rattle.search.proofs.found.Places.{choices-answer, chosen-lt, coefficients-expanded, without-first}
use Rattle.search.proofs.found.Leader.{leader-mixed, leader-fixed, leader-products, leader-literals}

-- the leader's M and i, as code takes them from its pair
abbrev pub leader_mixed : ℕ → Leader → ℕ
leader_mixed n leader = leader.pair / 2 ^ n

abbrev pub leader_fixed : ℕ → Leader → ℕ
leader_fixed n leader = bit_and leader.pair (1 * 2 ^ n % 2 ^ 64 - 1)

-- `lanes` holds the block functions of the leader's M and i, and `blocks` the choices found from them
module _ (s : Sizes) (table : List ℕ) (leader : Leader) (lanes blocks : List ℕ) (given : Given s.n table)
    (leads : Leads s.class s.family s.n s.k (at table) (2 ^ s.n * 2 ^ s.n) leader)
    (held : lanes ≡ block_lanes s.n s.k (leader_mixed s.n leader) (gather s.n (outside s.n (leader_mixed s.n leader)) (leader_fixed s.n leader)) (at table))
    (found : blocks ≡ tabulate 256 (choice_at s.class s.family s.n s.k (at lanes))) where
  mixed : leader_mixed s.n leader ≡ answer_mixed s.class s.family s.n s.k (at table)
  mixed = leader-mixed s.class s.family s.n s.k (at table) leader s.inputs s.within leads

  fixed : leader_fixed s.n leader ≡ answer_fixed s.class s.family s.n s.k (at table)
  fixed = leader-fixed s.class s.family s.n s.k (at table) leader s.inputs s.within leads

  outputs : (p : ℕ) → p < 2 ^ s.n → at table p < 2 ^ 8
  outputs p l = given.bytes p

  held-answer : lanes ≡ block_lanes s.n s.k (answer_mixed s.class s.family s.n s.k (at table))
      (gather s.n (outside s.n (answer_mixed s.class s.family s.n s.k (at table))) (answer_fixed s.class s.family s.n s.k (at table))) (at table)
  held-answer = rw (mixed, fixed) at held

  pub blocks-lt : (j : ℕ) → at blocks j < cond (apart s.class s.k) 16 8
  blocks-lt j = rw found (chosen-lt s (at table) lanes outputs held-answer j)

  module _ (coefficients : List ℕ) (filled : coefficients ≡ tabulate 256 (coefficient_at s.class s.n s.k (leader_mixed s.n leader) (at lanes) (at blocks))) where
    filled-expanded : coefficients ≡ tabulate 256 (expanded_coefficient s.class s.family s.n s.k (at table))
    filled-expanded = filled ∙ rw (mixed, found) (coefficients-expanded s (at table) lanes outputs held-answer)

    -- the constant becomes the mask
    mask : at coefficients 0 ≡ answer_inverted s.class s.family s.n s.k (at table)
    unfolding answer_inverted
    mask = ap (λ (xs : List ℕ). at xs 0) filled-expanded ∙ at-tabulate 256 (expanded_coefficient s.class s.family s.n s.k (at table)) 0 (omega arith)

    others : set coefficients 0 0 ≡ tabulate 256 (answer_coefficient s.class s.family s.n s.k (at table))
    unfolding answer_coefficient
    others = ap (λ (xs : List ℕ). set xs 0 0) filled-expanded ∙ without-first (expanded_coefficient s.class s.family s.n s.k (at table))

    pub record-answer : (products literals : ℕ)
        → (products ≡ (rule_of s.family).products_in (leader.charge / 256)) × (literals ≡ (rule_of s.family).literals_in (leader.charge / 256))
        → ◌≡◌ {A = Expansion}
        (record {
          coefficients = set coefficients 0 0;
          blocks = blocks;
          mixed = leader_mixed s.n leader;
          fixed = leader_fixed s.n leader;
          products = products;
          literals = literals;
          inverted = at coefficients 0;
        })
        (answer_expansion s.class s.family s.n s.k (at table))
    unfolding answer_expansion
    record-answer products literals counts =
        rw (
          others,
          found ∙ choices-answer s (at table) lanes outputs held-answer,
          mixed,
          fixed,
          counts.0 ∙ leader-products s.class s.family s.n s.k (at table) leader s.inputs s.within leads outputs,
          counts.1 ∙ leader-literals s.class s.family s.n s.k (at table) leader s.inputs s.within leads outputs,
          mask,
        )
