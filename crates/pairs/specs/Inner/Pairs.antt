-- What the search over the pairs of M and i holds on its way: the table, what blocks and pairs cost, from the functions of all blocks, and the pair that
-- leads. Cited by the contracts of this crate's functions and of private functions of `search`; the contract of no call rests on this file.
use Rattle.std.specs.Prelude.{Bool, cond, List, ◌≡◌, ℕ, ◌+◌, ◌*◌, ◌/◌, ◌%◌, ◌^◌, ◌<◌, ltb, length}
use Rattle.numbers.specs.Bytes.{at}
use Rattle.expansions.specs.Inner.Leading.{Leading}
use Rattle.expansions.specs.Least.{first_least}
use Rattle.expansions.specs.Split.{spread, outside}
use Rattle.expansions.specs.declared.kinds.Class.{Class}
use Rattle.expansions.specs.Classes.{choices}
use Rattle.expansions.specs.declared.families.Family.{Family}
use Rattle.expansions.specs.Rules.{rule_of}
use Rattle.expansions.specs.Inner.Answer.{block_charge, least_choice, pair_charge, valid_pair}
use Rattle.charges.specs.Inner.Charges.{charge_from}
use Rattle.lanes.specs.declared.sizes.Sizes.{Sizes}
use Rattle.pairs.specs.declared.leader.Leader.{Leader}

-- a table of n inputs
pub record Given (n : ℕ) (table : List ℕ) : Type 0 where
  pub long : length table ≡ 2 ^ n
  pub bytes : (p : ℕ) → at table p < 2 ^ 8

-- what block j costs under its first least choice, from the block functions
abbrev pub least_from : Sizes → (ℕ → ℕ) → ℕ → ℕ
least_from s lanes j =
    charge_from s.class s.k s.family lanes j (least_choice (choices s.class s.k) (charge_from s.class s.k s.family lanes j))

-- what a pair costs, from its block functions
abbrev pub pair_from : Sizes → (ℕ → ℕ) → ℕ
pair_from s lanes = pair_charge s.n s.k (choices s.class s.k) (charge_from s.class s.k s.family lanes)

-- a pair of M and i as one number x, M * 2 ^ n + i: whether it is one, and what it costs by a family's rule
abbrev pub pair_valid : ℕ → ℕ → ℕ → Bool
pair_valid n k x = valid_pair n k (x / 2 ^ n) (x % 2 ^ n)

abbrev pub pair_cost : Class → Family → (n k : ℕ) → (ℕ → ℕ) → ℕ → ℕ
pair_cost C F n k f x = pair_charge n k (choices C k) (block_charge C (rule_of F) n k f (x / 2 ^ n) (x % 2 ^ n))

-- the pair of M and the polarity w of the inputs outside M, closed up, as one number
abbrev pub pair_of : (n M w : ℕ) → ℕ
pair_of n M w = M * 2 ^ n + spread n (outside n M) w

-- the leader once a pair of charge c is tried; one of equal charge does not displace it
unfoldable pub led_by : (c pair : ℕ) → Leader → Leader
led_by c pair l = cond (ltb c l.charge) (record { charge = c; pair = pair }) l

-- the leader of the pairs below N; before there is one its charge is above every charge
abbrev pub Leads : Class → Family → (n k : ℕ) → (ℕ → ℕ) → ℕ → Leader → Type 0
Leads C F n k f N l = Leading 4294967295 (pair_cost C F n k f) (first_least N (pair_valid n k) (pair_cost C F n k f)) l.charge l.pair
