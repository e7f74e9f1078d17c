-- Where `lanes` holds the block functions of M and i, the charges that the code computes from them are those of the blocks (`held-charge`).
-- So are the first least choice of each block (`held-choice`) and the charge of the pair (`held-pair`), which fits u32 (`pair_charge-lt`).
use mathlib.Core.Path.{◌≡◌, sym, ap, ap₂, ◌∙◌}
use mathlib.Core.List.{List}
use Prim.Native.Nat.{ℕ, ◌+◌, ◌-◌, ◌*◌, ◌^◌, ◌<◌}
use lib.Bits.{bit_or}
use lib.Count.{ones}
use lib.Pow.{pow_pos}
use Rattle.numbers.specs.Bytes.{at}
use Rattle.numbers.proofs.Sums.{fold-ext}
use Rattle.expansions.specs.Inner.Answer.{block_function, block_charge, least_choice, pair_charge}
use Rattle.expansions.specs.Classes.{choices}
use Rattle.expansions.specs.BlockTable.{choice_entry}
use Rattle.expansions.specs.Rules.{rule_of}
use Rattle.expansions.specs.Split.{gather, outside}
use Rattle.expansions.specs.Inner.Charges.{used_charge, charged_terms, constant_in}
use Rattle.expansions.proofs.BlockTable.{used}
use Rattle.expansions.proofs.BlockCharges.{block_charge-byte, pair_charge-small}
use Rattle.expansions.proofs.Classes.{choices-some}
use Rattle.expansions.proofs.Minimal.{least_choice-ext, pair_charge-ext}
use Rattle.lanes.specs.Inner.Lanes.{block_lanes}
use Rattle.lanes.specs.Inner.Sizes.{MixedSet}
use Rattle.charges.specs.Inner.Charges.{used_at, charge_from}
use Rattle.lanes.specs.declared.sizes.Sizes.{Sizes}
use Rattle.lanes.proofs.expand.Held.{held-plane, held-coefficient}

-- ---- the charges of a pair, from its block functions

module _ (s : Sizes) (M i : ℕ) (f : ℕ → ℕ) (lanes : List ℕ) (outputs : (p : ℕ) → p < 2 ^ s.n → f p < 2 ^ 8)
    (set : MixedSet s M) (held : lanes ≡ block_lanes s.n s.k M (gather s.n (outside s.n M) i) f) where
  held-used : (j x : ℕ) → j < 2 ^ (s.n - s.k) → used_at s.class s.k (at lanes) j x ≡ used 8 s.class s.k x (block_function s.n s.k f M i j)
  unfolding used_at used
  held-used j x h = fold-ext bit_or 8 _ _ (λ o l. ap (λ (g : ℕ). choice_entry s.class s.k g x) (held-plane s M i f lanes outputs set held o j l h))

  pub held-charge : (j x : ℕ) → j < 2 ^ (s.n - s.k) → x < choices s.class s.k
      → charge_from s.class s.k s.family (at lanes) j x ≡ block_charge s.class (rule_of s.family) s.n s.k f M i j x
  held-charge j x hj hx =
      ap₂ (λ (u v : ℕ). used_charge (rule_of s.family) (ones j) (charged_terms j u) * 256 + constant_in j v) (held-used j x hj)
      (held-coefficient s M i f lanes outputs set held j 0 x hj (pow_pos s.k) hx)
      ∙ sym (block_charge-byte s.class (rule_of s.family) 8 s.n s.k f M i j x s.mixed hx set.size outputs)

  pub held-choice : (j : ℕ) → j < 2 ^ (s.n - s.k)
      → least_choice (choices s.class s.k) (charge_from s.class s.k s.family (at lanes) j)
      ≡ least_choice (choices s.class s.k) (block_charge s.class (rule_of s.family) s.n s.k f M i j)
  held-choice j h = least_choice-ext (choices s.class s.k) _ (block_charge s.class (rule_of s.family) s.n s.k f M i j) (λ x l. held-charge j x h l)

  pub held-pair : pair_charge s.n s.k (choices s.class s.k) (charge_from s.class s.k s.family (at lanes))
      ≡ pair_charge s.n s.k (choices s.class s.k) (block_charge s.class (rule_of s.family) s.n s.k f M i)
  held-pair =
      pair_charge-ext s.n s.k (choices s.class s.k) (choices-some s.class s.k) _ (block_charge s.class (rule_of s.family) s.n s.k f M i)
      held-charge

-- a pair costs less than the charge that stands for no pair, 2 ^ 32 - 1
pub pair_charge-lt : (s : Sizes) (f : ℕ → ℕ) (M i : ℕ) → MixedSet s M → ((p : ℕ) → p < 2 ^ s.n → f p < 2 ^ 8)
    → pair_charge s.n s.k (choices s.class s.k) (block_charge s.class (rule_of s.family) s.n s.k f M i) < 2 ^ 31
pair_charge-lt s f M i set outputs =
    pair_charge-small s.class s.family s.n s.k f M i s.inputs s.within set.size outputs
