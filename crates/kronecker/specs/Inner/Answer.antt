-- The record of the answer among the Kronecker expansions as a function, and what the search over the kinds hands up. No promise rests on this file.
use Rattle.std.specs.Prelude.{cond, List, ℕ}
use Rattle.numbers.specs.Bytes.{at, tabulate}
use Rattle.numbers.specs.Refusals.{is_table}
use Rattle.expansions.specs.Costs.{products}
use Rattle.expansions.specs.Kronecker.Costs.{kronecker_literals}
use Rattle.expansions.specs.Inner.KroneckerAnswer.{answer_letters, answer_coefficient}
use Rattle.kronecker.specs.declared.expansion.KroneckerExpansion.{KroneckerExpansion}
use Rattle.kronecker.specs.Expansion.{empty_kronecker}

-- the answer's record: the 256 coefficient places, "zero from 2^n on", "a letter for each input" and 0 past the last, and the counts
unfoldable pub answer_kronecker : ℕ → (ℕ → ℕ) → KroneckerExpansion
answer_kronecker n f =
    record {
      coefficients = tabulate 256 (answer_coefficient n f);
      letters = tabulate 8 (answer_letters n f);
      products = products n (answer_coefficient n f);
      literals = kronecker_literals n (answer_letters n f) (answer_coefficient n f);
    }

-- what the search hands up: the answer's record, and the empty record where there is no such table
unfoldable pub searched_kronecker : ℕ → ℕ → List ℕ → KroneckerExpansion
searched_kronecker n m table = cond (is_table n m table) (answer_kronecker n (at table)) empty_kronecker
