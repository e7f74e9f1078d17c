-- The record of the answer as a function, and what the search hands up. What it hands up is said in words by `Found`; no promise rests on this file.
use Rattle.std.specs.Prelude.{Bool, ◌&&◌, cond, List, ℕ, is_ok}
use Rattle.numbers.specs.Bytes.{at, tabulate}
use Rattle.numbers.specs.Refusals.{sizes_refusal, is_table}
use Rattle.expansions.specs.declared.kinds.Class.{Class}
use Rattle.expansions.specs.declared.families.Family.{Family}
use Rattle.expansions.specs.Classes.{most_mixed}
use Rattle.expansions.specs.Costs.{products, literals}
use Rattle.expansions.specs.Inner.Answer.{answer_inverted, answer_mixed, answer_fixed, answer_choice, answer_coefficient}
use Rattle.search.specs.declared.expansion.Expansion.{Expansion}
use Rattle.search.specs.Expansion.{empty_expansion}

-- "the search hands up an expansion record that holds the 256 coefficient places, zero from 2^n on", and as many block places, with the choice of each
-- block, which in document 01's class is its polarity. Document 02, W-205: "The expansion record gains an inversion mask (bit o for output o)"
unfoldable pub answer_expansion : Class → Family → (n k : ℕ) → (ℕ → ℕ) → Expansion
answer_expansion C F n k f =
    record {
      coefficients = tabulate 256 (answer_coefficient C F n k f);
      blocks = tabulate 256 (answer_choice C F n k f);
      mixed = answer_mixed C F n k f;
      fixed = answer_fixed C F n k f;
      products = products n (answer_coefficient C F n k f);
      literals = literals n (answer_coefficient C F n k f);
      inverted = answer_inverted C F n k f;
    }

-- the bytes are a table of n inputs and m outputs, and k is none that the documents refuse beside them
unfoldable pub searchable : Class → (n m k : ℕ) → List ℕ → Bool
searchable C n m k table = is_table n m table && is_ok (sizes_refusal n m (most_mixed C) k)

-- what the search hands up: the answer's record, and the empty record where there is no such table
unfoldable pub searched : Class → Family → (n m k : ℕ) → List ℕ → Expansion
searched C F n m k table = cond (searchable C n m k table) (answer_expansion C F n k (at table)) (empty_expansion k)
