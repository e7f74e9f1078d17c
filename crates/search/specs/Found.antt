-- What the search hands up: the record of the answer, in the documents' words. Document 01, "The class of expansions".
use Rattle.std.specs.Prelude.{List, ◌≡◌, ℕ, ◌^◌, length}
use Rattle.numbers.specs.Bytes.{at}
use Rattle.numbers.specs.Refusals.{Sized, WithinOutputs}
use Rattle.expansions.specs.declared.kinds.Class.{Class}
use Rattle.expansions.specs.declared.families.Family.{Family}
use Rattle.expansions.specs.Classes.{most_mixed}
use Rattle.search.specs.declared.expansion.Expansion.{Expansion}
use Rattle.search.specs.Expansion.{Answered}
use Rattle.search.specs.Inner.Answer.{searched}

-- "the search hands up an expansion record", for all arguments
pub record Found (C : Class) (F : Family) (n m k : ℕ) (table : List ℕ) (e : Expansion) : Type 0 where
  pub is_handed_up : e ≡ searched C F n m k table
  -- of a table of n inputs and m outputs, with sizes that the documents accept, the record holds the answer
  pub answered : Sized n m (most_mixed C) k → length table ≡ 2 ^ n → WithinOutputs m table → Answered C F n k (at table) e
