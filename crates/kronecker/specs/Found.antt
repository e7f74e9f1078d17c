-- What the search over the kinds hands up: the record of the answer, in the documents' words. Document 02, W-202.
use Rattle.std.specs.Prelude.{List, ◌≡◌, ℕ, ◌^◌, length}
use Rattle.numbers.specs.Bytes.{at}
use Rattle.numbers.specs.Refusals.{TableSized, WithinOutputs}
use Rattle.kronecker.specs.declared.expansion.KroneckerExpansion.{KroneckerExpansion}
use Rattle.kronecker.specs.Expansion.{KroneckerAnswered}
use Rattle.kronecker.specs.Inner.Answer.{searched_kronecker}

-- the record that is handed up, for all arguments
pub record Found (n m : ℕ) (table : List ℕ) (e : KroneckerExpansion) : Type 0 where
  pub is_handed_up : e ≡ searched_kronecker n m table
  -- of a table of n inputs and m outputs, with sizes that the documents accept, the record holds the answer among the 3^n kinds
  pub answered : TableSized n m → length table ≡ 2 ^ n → WithinOutputs m table → KroneckerAnswered n (at table) e
