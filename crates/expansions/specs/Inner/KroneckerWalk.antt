-- What the search over the kinds holds on its way: steps, weights and charges, and the places of its walk. Cited by the contracts of private
-- functions alone.
use Rattle.std.specs.Prelude.{◌≡◌, ◌⊎◌, ℕ, ◌+◌, ◌*◌, ◌%◌, ◌^◌, ◌≤◌, ◌<◌}
use Rattle.std.specs.Int.Bits.{bit_xor}
use Rattle.numbers.specs.Sums.{sum_below}
use Rattle.expansions.specs.Costs.{counted}
use Rattle.expansions.specs.declared.families.Family.TheVariants.{One}
use Rattle.expansions.specs.Rules.{weight, rule_of}
use Rattle.expansions.specs.Kronecker.Letters.{letters_of}
use Rattle.expansions.specs.Kronecker.Steps.{step_value, kronecker_step, kronecker_coefficient}
use Rattle.expansions.specs.Kronecker.Costs.{term_literals}
use Rattle.expansions.specs.Inner.KroneckerAnswer.{kind_charge}

-- ---- steps

-- the step on the first q pairs of places from `base` on, `half` places apart; the places before and after the run as they were
pub record RunStepped (base half letter q : ℕ) (from before after : ℕ → ℕ) : Type 0 where
  pub below : (t : ℕ) → t < base → after t ≡ before t
  pub lower : (x : ℕ) → x < q → after (base + x) ≡ step_value letter 0 (from (base + x)) (from (base + x + half))
  pub upper : (x : ℕ) → x < q → after (base + x + half) ≡ step_value letter 1 (from (base + x)) (from (base + x + half))
  pub above : (t : ℕ) → base + half + half ≤ t → after t ≡ before t

-- the step for input i at the first `size` places, and 0 at the others
pub record Stepped (i letter size : ℕ) (from after : ℕ → ℕ) : Type 0 where
  pub done : (t : ℕ) → t < size → after t ≡ kronecker_step i letter from t
  pub rest : (t : ℕ) → size ≤ t → after t ≡ 0

-- ---- weights and charges

-- no weight of the first N is above 8,192
abbrev pub Light : ℕ → (ℕ → ℕ) → Type 0
Light N weights = (s : ℕ) → s < N → weights s ≤ 8192

-- the weights of the terms of the inputs 0 to i, from those of the inputs below i
pub record Weighed (i more : ℕ) (before after : ℕ → ℕ) : Type 0 where
  pub absent : (s : ℕ) → s < 2 ^ i → after s ≡ before s + more
  pub present : (s : ℕ) → s < 2 ^ i → after (s + 2 ^ i) ≡ before s + 1

-- the weights of the first N places whose coefficient is not 0, summed
unfoldable pub weight_of : ℕ → (weights c : ℕ → ℕ) → ℕ
weight_of N weights c = sum_below N (λ s. counted (c s) (weights s))

-- `lower` and `upper` are the weights of the two halves of 2 ^ (m + 1) places, and `both` that of their exclusive OR
pub record Halves (m : ℕ) (values weights : ℕ → ℕ) (lower upper both : ℕ) : Type 0 where
  pub lower_is : lower ≡ weight_of (2 ^ m) weights values
  pub upper_is : upper ≡ weight_of (2 ^ m) weights (λ s. values (s + 2 ^ m))
  pub both_is : both ≡ weight_of (2 ^ m) weights (λ s. bit_xor (values s) (values (s + 2 ^ m)))
  pub lower_le : lower ≤ 1048576
  pub upper_le : upper ≤ 1048576
  pub both_le : both ≤ 1048576

-- ---- the walk

-- what a kind costs and its number, as one number: the least is the first least kind's
unfoldable pub score : ℕ → (ℕ → ℕ) → ℕ → ℕ
score n f x = kind_charge n f x * 8192 + x

-- the kinds whose letters of the inputs below i are those of the kind with the number k
abbrev pub Among : (n i k : ℕ) → ℕ → Type 0
Among n i k x = (x < 3 ^ n) × (x % 3 ^ i ≡ k)

-- r is the least of `best` and the scores of some kinds
pub record Lowered (score : ℕ → ℕ) (Some : ℕ → Type 0) (best r : ℕ) : Type 0 where
  pub kept : r ≤ best
  pub least : (x : ℕ) → Some x → r ≤ score x
  pub reached : (r ≡ best) ⊎ ((x : ℕ) × Some x × (r ≡ score x))

-- a place of the walk for the table f: the letters of the inputs below i are chosen, as the digits of k, `power` is 3 ^ i, the steps for these
-- inputs have been done, and their literals are weighed
pub record AtPlace (n i k power : ℕ) (f values weights : ℕ → ℕ) : Type 0 where
  pub inputs : n ≤ 8
  pub depth : i < n
  pub kind : k < 3 ^ i
  pub digit : power ≡ 3 ^ i
  pub room : k + power + power < 8192
  pub stepped : (t : ℕ) → t < 2 ^ n → values t ≡ kronecker_coefficient i (letters_of k) f t
  pub weighed : (s : ℕ) → s < 2 ^ i → weights s ≡ weight (rule_of One) (term_literals i (letters_of k) s)

-- a place of the walk for some table
abbrev pub Place : (n i k power : ℕ) (values weights : ℕ → ℕ) → Type 0
Place n i k power values weights = (f : ℕ → ℕ) × AtPlace n i k power f values weights

-- whichever table it is a place for, r is the least of `best` and the scores of the kinds that have the letters chosen so far
abbrev pub Walked : (n i k power : ℕ) (values weights : ℕ → ℕ) (best r : ℕ) → Type 0
Walked n i k power values weights best r = (f : ℕ → ℕ) → AtPlace n i k power f values weights → Lowered (score n f) (Among n i k) best r
