-- When the search is carried out: the test `searchable` says that the sizes are document 01's and the bytes a table of them.
use mathlib.Core.Path.{◌≡◌, ◌∙◌}
use mathlib.Core.Bool.{true}
use mathlib.Core.List.{List}
use Prim.Native.Nat.{ℕ, ◌^◌, ◌<◌}
use native.Mathlib.Omega.{arith}
use lib.Dec.{T}
use lib.ListN.{length}
use lib.Pow.{pow_mono}
use Rattle.numbers.specs.Bytes.{at, all_below}
use Rattle.numbers.specs.Refusals.{sizes_refusal, is_table, Sized}
use Rattle.numbers.proofs.Tests.{both_left, both_right}
use Rattle.numbers.proofs.refusals.Judging.{ok_passed, sizes-none, sizes-accepted}
use Rattle.numbers.proofs.refusals.Outputs.{below-from}
use Rattle.numbers.proofs.refusals.IsTable.{table_long, table_below, table-from}
use Rattle.expansions.specs.declared.kinds.Class.{Class}
use Rattle.expansions.specs.declared.families.Family.{Family}
use Rattle.expansions.specs.Classes.{most_mixed}
use Rattle.search.specs.declared.expansion.Expansion.{Expansion}
use Rattle.search.specs.Found.{Found}
use Rattle.search.specs.Inner.Answer.{answer_expansion, searchable, searched}
use Rattle.search.proofs.expansion.Answer.{answer_expansion-is}
use Rattle.pairs.specs.Inner.Pairs.{Given}

-- ---- from the test

module _ (C : Class) (n m k : ℕ) (table : List ℕ) (e : searchable C n m k table ≡ true) where
  is : is_table n m table ≡ true
  unfolding searchable
  is = both_left _ _ e

  pub allowed-sized : Sized n m (most_mixed C) k
  unfolding searchable
  allowed-sized = sizes-none n m (most_mixed C) k (ok_passed (sizes_refusal n m (most_mixed C) k) (both_right (is_table n m table) _ e))

  -- m outputs, of which there are at most eight, are a byte
  pub allowed-table : Given n table
  allowed-table =
      record {
        long = table_long n m table is;
        bytes = λ p. omega (arith, table_below n m table is p, pow_mono {i = m} {j = 8} allowed-sized.outputs.1);
      }

-- ---- to the answer

pub searched-answer : (C : Class) (F : Family) (n m k : ℕ) (table : List ℕ) → Sized n m (most_mixed C) k → length table ≡ 2 ^ n → T (all_below (2 ^ m) table)
    → searched C F n m k table ≡ answer_expansion C F n k (at table)
unfolding searched searchable
searched-answer C F n m k table sized long clean =
    rw (table-from n m table (record { inputs = sized.inputs; outputs = sized.outputs }) long clean, sizes-accepted n m (most_mixed C) k sized)

-- in the documents' words
pub searched-found : (C : Class) (F : Family) (n m k : ℕ) (table : List ℕ) (e : Expansion) → e ≡ searched C F n m k table → Found C F n m k table e
searched-found C F n m k table e is =
    record {
      is_handed_up = is;
      answered = λ sized long small.
          let bytes : (p : ℕ) → p < 2 ^ n → at table p < 2 ^ 8 = λ p h. omega (arith, small p, pow_mono {i = m} {j = 8} sized.outputs.1) in
          rw (is ∙ searched-answer C F n m k table sized long (below-from (2 ^ m) table small))
          (answer_expansion-is C F n k (at table) sized.inputs.1 sized.mixed.1 bytes);
    }
