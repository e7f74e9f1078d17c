-- The binary minimising call: when it refuses, what it returns, and every byte of the two lent buffers, for all arguments.
use Rattle.std.specs.Prelude.{◌&&◌, List, ◌≡◌, ℕ, ◌-◌, ◌^◌, ◌<◌, eqb, length, Result, Ok, Err}
use Rattle.numbers.specs.Bytes.{at, tabulate, all_below}
use Rattle.numbers.specs.declared.refusals.Refusal.{Refusal}
use Rattle.numbers.specs.declared.refusals.Refusal.TheVariants.{BufferLength, HighBit}
use Rattle.numbers.specs.declared.refusals.Refused.{Refused}
use Rattle.numbers.specs.Refusals.{Judgement, declined, answered, unless, or_else, unless_refused, sizes_refusal, Sized, SizesRefusals, WithinOutputs}
use Rattle.expansions.specs.declared.kinds.Class.TheVariants.{Block}
use Rattle.expansions.specs.declared.families.Family.TheVariants.{One}
use Rattle.expansions.specs.Answers.{Minimal}
use Rattle.expansions.specs.Inner.Answer.{answer_choice, answer_coefficient}
use Rattle.search.specs.Inner.Answer.{answer_expansion}
use Rattle.search.specs.declared.expansion.Expansion.{Expansion}
use Rattle.minimise_calls.specs.declared.calls.Minimum.{Minimum}

-- "Why a call declines", for the minimising call: the first of refusals 2, 3, 4, 8, 9 that applies.
-- 2: n is not 1 to 8; 3: m is not 1 to 8; 4: k is above 3 or above n; 8: a lent table, coefficient or block buffer has another length
-- than 2^n, 2^n and 2^(n−k); 9: a byte of the given table has a bit at m or above set.
unfoldable pub minimise_refusal : ℕ → ℕ → ℕ → List ℕ → ℕ → ℕ → Judgement
minimise_refusal n m k table coefficients blocks =
    or_else (sizes_refusal n m 3 k)
    (unless (eqb (length table) (2 ^ n) && (eqb coefficients (2 ^ n) && eqb blocks (2 ^ (n - k)))) BufferLength
    (unless (all_below (2 ^ m) table) HighBit (Ok tt)))

-- the numbers of a record that the call returns: "M, i, products and literals", and the inversion mask, "which the binary call returns too"
abbrev pub minimum_of : Expansion → Minimum
minimum_of e = record { mixed = e.mixed; fixed = e.fixed; products = e.products; literals = e.literals; inverted = e.inverted }

-- what the call answers: the numbers of the answer's record where there is no refusal
abbrev pub minimised : Judgement → Expansion → Result Minimum Refused
minimised judged e = answered judged (minimum_of e)

-- the lengths that the call states: a table of 2^n bytes, "2^n coefficient bytes and 2^(n−k) block bytes"
abbrev pub Lengths : (n k : ℕ) → (table c b : List ℕ) → Type 0
Lengths n k table c b = (length table ≡ 2 ^ n) × (length c ≡ 2 ^ n) × (length b ≡ 2 ^ (n - k))

-- which refusals the arguments meet: "The order is" 2, 3, 4, 8, 9; Refused why says that the call refuses them by that refusal
pub record MinimiseRefusals (n m k : ℕ) (table c b : List ℕ) (Refused : Refusal → Type 0) : Type 0 where
  pub sizes : SizesRefusals n m 3 k Refused
  -- "8. A lent table, coefficient or block buffer has another length than its call states."
  pub lengths : Sized n m 3 k → (Lengths n k table c b → ⊥) → Refused BufferLength
  -- "9. A byte of a given table .. has a bit at m or above set."
  pub bits : Sized n m 3 k → Lengths n k table c b → (WithinOutputs m table → ⊥) → Refused HighBit

-- "The binary minimising call takes n, m, k and a table. It fills 2^n coefficient bytes and 2^(n−k) block bytes, and returns M, i, products
-- and literals." Document 02, W-203: "the binary call keeps to family one"; W-205: it returns the inversion mask too; W-207:
-- "Digits keep the block class." The two buffers hold c and b when
-- it is called, and c' and b' when it returns.
pub record Minimise (n m k : ℕ) (table c c' b b' : List ℕ) (r : Result Minimum Refused) : Type 0 where
  pub answer : r ≡ minimised (minimise_refusal n m k table (length c) (length b)) (answer_expansion Block One n k (at table))
  -- "the binary call copies its first places into the lent buffers"
  pub coefficients : c' ≡ unless_refused (minimise_refusal n m k table (length c) (length b)) (tabulate (2 ^ n) (answer_coefficient Block One n k (at table))) c
  pub blocks : b' ≡ unless_refused (minimise_refusal n m k table (length c) (length b)) (tabulate (2 ^ (n - k)) (answer_choice Block One n k (at table))) b
  -- "A refusal returns its number and the line", which is 0 "for calls without text"
  pub refusals : MinimiseRefusals n m k table c b (λ why. r ≡ Err (declined why 0))
  -- and all other arguments are accepted
  pub accepted : Sized n m 3 k → Lengths n k table c b → WithinOutputs m table → (e : Refused) → r ≡ Err e → ⊥
  -- the returned numbers and the bytes now in the buffers are a member that gives the table at every point, and no member comes before it
  pub meaning : (e : Minimum) → r ≡ Ok e → Minimal Block One n k (at table) e.inverted e.mixed e.fixed (at b') (at c') e.products e.literals
  -- "bits m to 7 zero", of the mask too
  pub outputs : (e : Minimum) → r ≡ Ok e → (e.inverted < 2 ^ m) × ((t : ℕ) → t < 2 ^ n → at c' t < 2 ^ m)
