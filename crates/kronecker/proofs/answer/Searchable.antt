-- When the search is carried out: the test `is_table` says that the sizes are document 01's and the bytes a table of them. Then what is handed
-- up is the answer's record (`searched-kronecker`).
use mathlib.Core.Path.{◌≡◌, ◌∙◌}
use mathlib.Core.Bool.{true}
use mathlib.Core.List.{List}
use Prim.Native.Nat.{ℕ, ◌^◌, ◌≤◌}
use lib.ListN.{length}
use Rattle.numbers.specs.Bytes.{at, all_below}
use Rattle.numbers.specs.Refusals.{is_table, TableSized}
use Rattle.numbers.proofs.Tests.{same_test}
use Rattle.numbers.proofs.refusals.Outputs.{below-from}
use Rattle.numbers.proofs.refusals.IsTable.{table-sized, table_long, table-from}
use Rattle.kronecker.specs.declared.expansion.KroneckerExpansion.{KroneckerExpansion}
use Rattle.kronecker.specs.Found.{Found}
use Rattle.kronecker.specs.Inner.Answer.{answer_kronecker, searched_kronecker}
use Rattle.kronecker.proofs.expansion.Answer.{answer_kronecker-is}

pub allowed-table : (n m : ℕ) (table : List ℕ) → is_table n m table ≡ true → (1 ≤ n) × (n ≤ 8) × (length table ≡ 2 ^ n)
allowed-table n m table e =
    let sized = table-sized n m table e in
    (sized.inputs.0, sized.inputs.1, table_long n m table e)

pub searched-kronecker : (n m : ℕ) (table : List ℕ) → TableSized n m → length table ≡ 2 ^ n → all_below (2 ^ m) table ≡ true
    → searched_kronecker n m table ≡ answer_kronecker n (at table)
unfolding searched_kronecker
searched-kronecker n m table sized long clean = rw (table-from n m table sized long (rw clean tt))

-- in the documents' words
pub searched-found : (n m : ℕ) (table : List ℕ) (e : KroneckerExpansion) → e ≡ searched_kronecker n m table → Found n m table e
searched-found n m table e is =
    record {
      is_handed_up = is;
      answered = λ sized long small.
          let clean = same_test (all_below (2 ^ m) table) true (λ t. tt) (λ t. below-from (2 ^ m) table small) in
          rw (is ∙ searched-kronecker n m table sized long clean) (answer_kronecker-is n (at table) sized.inputs.1);
    }
