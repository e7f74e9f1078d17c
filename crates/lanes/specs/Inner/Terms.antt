-- The coefficients, from the functions of all blocks. Cited by the contracts of this crate's functions; the contract of no call rests on this file.
use Rattle.std.specs.Prelude.{ℕ, ◌+◌, ◌*◌, ◌^◌, ltb}
use Rattle.numbers.specs.Bits.{bit, pack}
use Rattle.numbers.specs.Tests.{only}
use Rattle.expansions.specs.declared.kinds.Class.{Class}
use Rattle.expansions.specs.BlockTable.{choice_entry}
use Rattle.expansions.specs.Members.{block, place}

-- the coefficient at the place s of block j under the choice x of a class with k mixed inputs, all outputs together
unfoldable pub coefficient_in : Class → ℕ → (ℕ → ℕ) → (j s x : ℕ) → ℕ
coefficient_in C k lanes j s x = pack 8 (λ o. bit s (choice_entry C k (lanes (j * 8 + o)) x))

-- the coefficient of the term t, from the block functions and the choice of each block, and 0 where there is no term t
unfoldable pub coefficient_at : Class → (n k M : ℕ) → (lanes x : ℕ → ℕ) → ℕ → ℕ
coefficient_at C n k M lanes x t = only (ltb t (2 ^ n)) (coefficient_in C k lanes (block n M t) (place n M t) (x (block n M t)))
