-- Some outputs of a table. Document 02, W-206: "for any accepted table and any non-empty choice of its outputs, the least cost of the chosen outputs, at
-- the same k and family, is at most the whole's." A choice is a number s whose bit o is set where output o is chosen.
use Rattle.std.specs.Prelude.{List, map, ℕ, ◌^◌, ◌≤◌, ◌<◌}
use Rattle.std.specs.Int.Count.{ones_in}
use Rattle.expansions.specs.declared.families.Family.{Family}
use Rattle.expansions.specs.declared.kinds.Kind.{Kind}
use Rattle.expansions.specs.Split.{gather}
use Rattle.expansions.specs.ClosedUp.{ClosedUp}
use Rattle.expansions.specs.Rules.{NoDearer}
use Rattle.expansions.specs.Rivals.{Rival, LeastCost}

-- a "non-empty choice" of m outputs
abbrev pub IsChoice : (m s : ℕ) → Type 0
IsChoice m s = (0 < s) × (s < 2 ^ m)

-- how many of m outputs are chosen
abbrev pub chosen_count : (m s : ℕ) → ℕ
chosen_count m s = ones_in m s

-- "the chosen outputs" of the byte y of m outputs, closed up, lowest first
abbrev pub chosen_outputs : (m s y : ℕ) → ℕ
chosen_outputs m s y = gather m s y

-- the table of the chosen outputs, of a table of m outputs: those of each byte
unfoldable pub chosen_table : (m s : ℕ) → List ℕ → List ℕ
chosen_table m s t = map (chosen_outputs m s) t

-- an expansion of the class that gives the table f has no more than p products and no more than l literals
pub record RivalWithin (n : ℕ) (f : ℕ → ℕ) (kind : Kind) (p l : ℕ) : Type 0 where
  pub products : ℕ
  pub literals : ℕ
  pub rival : Rival n f kind products literals
  pub products_within : products ≤ p
  pub literals_within : literals ≤ l

-- W-206 of a table f of n inputs and m outputs, for each family and each kind of k, and of a choice s of its outputs
pub record FewerOutputs (n m : ℕ) (family : Family) (kind : Kind) (f : ℕ → ℕ) (s : ℕ) : Type 0 where
  -- there are chosen outputs, and no more than m; output r of them is the r-th output of f that is chosen (`NthInput`, of the bits of s)
  pub some : 0 < chosen_count m s
  pub few : chosen_count m s ≤ m
  pub outputs : (p : ℕ) → chosen_outputs m s (f p) < 2 ^ chosen_count m s
  pub closed_up : (p : ℕ) → ClosedUp m s (f p) (chosen_outputs m s (f p))
  -- whatever expansion gives f, one of the same class gives the chosen outputs with no more products and no more literals
  pub kept : (p l : ℕ) → Rival n f kind p l → RivalWithin n (λ q. chosen_outputs m s (f q)) kind p l
  -- "the least cost of the chosen outputs .. is at most the whole's"
  pub no_dearer : (p l p' l' : ℕ) → LeastCost n family kind f p l → LeastCost n family kind (λ q. chosen_outputs m s (f q)) p' l'
      → NoDearer family p' l' p l
