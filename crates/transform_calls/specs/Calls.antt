-- The calls `forward` and `backward`: when each refuses, what it returns, and every byte of the lent buffer, for all arguments.
use Rattle.std.specs.Prelude.{◌&&◌, List, ◌≡◌, ℕ, ◌^◌, ◌<◌, eqb, ltb, length, Result, Ok, Err}
use Rattle.numbers.specs.Bytes.{at, tabulate, all_below}
use Rattle.numbers.specs.declared.refusals.Refusal.{Refusal}
use Rattle.numbers.specs.declared.refusals.Refusal.TheVariants.{PolarityRange, BufferLength, HighBit}
use Rattle.numbers.specs.declared.refusals.Refused.{Refused}
use Rattle.numbers.specs.Refusals.{Judgement, declined, answered, unless, or_else, unless_refused, table_refusal, TableSized, TableRefusals, WithinOutputs}
use Rattle.algebra.specs.Terms.{value}
use Rattle.algebra.specs.Coefficients.{coefficient}

-- "Why a call declines", for the transforms: the first of refusals 2, 3, 7, 8, 9 that applies.
-- 2: n is not 1 to 8; 3: m is not 1 to 8; 7: a polarity w is 2^n or more; 8: a lent buffer has another length than its call states;
-- 9: a byte of the given table or coefficients has a bit at m or above set.
unfoldable pub transform_refusal : ℕ → ℕ → ℕ → List ℕ → ℕ → Judgement
transform_refusal n m w given lent =
    or_else (table_refusal n m)
    (unless (ltb w (2 ^ n)) PolarityRange
    (unless (eqb (length given) (2 ^ n) && eqb lent (2 ^ n)) BufferLength
    (unless (all_below (2 ^ m) given) HighBit (Ok tt))))

-- what a transform call answers: it is carried out where there is no refusal
abbrev pub transformed : Judgement → Result (Unit {0}) Refused
transformed judged = answered judged tt

-- the lengths that a call states: the given bytes and the lent buffer are 2^n each
abbrev pub Lengths : ℕ → (given lent : List ℕ) → Type 0
Lengths n given lent = (length given ≡ 2 ^ n) × (length lent ≡ 2 ^ n)

-- which refusals the arguments meet: "The order is" 2, 3, 7, 8, 9; Refused why says that the call refuses them by that refusal
pub record TransformRefusals (n m w : ℕ) (given lent : List ℕ) (Refused : Refusal → Type 0) : Type 0 where
  pub sizes : TableRefusals n m Refused
  -- "7. A polarity w is 2^n or more."
  pub polarity : TableSized n m → (w < 2 ^ n → ⊥) → Refused PolarityRange
  -- "8. A lent table, coefficient or block buffer has another length than its call states."
  pub lengths : TableSized n m → w < 2 ^ n → (Lengths n given lent → ⊥) → Refused BufferLength
  -- "9. A byte of a given table or of given coefficients has a bit at m or above set."
  pub bits : TableSized n m → w < 2 ^ n → Lengths n given lent → (WithinOutputs m given → ⊥) → Refused HighBit

-- when a call is refused and when it is carried out: "A refusal returns its number and the line", which is 0 "for calls without text"
pub record Judged (n m w : ℕ) (given lent : List ℕ) (r : Result (Unit {0}) Refused) : Type 0 where
  pub refusals : TransformRefusals n m w given lent (λ why. r ≡ Err (declined why 0))
  pub accepted : TableSized n m → w < 2 ^ n → Lengths n given lent → WithinOutputs m given → r ≡ Ok tt

-- "The forward call takes n, m, w and a table and fills coefficients."
pub record Forward (n m w : ℕ) (table before after : List ℕ) (r : Result (Unit {0}) Refused) : Type 0 where
  pub answer : r ≡ transformed (transform_refusal n m w table (length before))
  pub judged : Judged n m w table before r
  pub bytes : after ≡ unless_refused (transform_refusal n m w table (length before)) (tabulate (2 ^ n) (coefficient n w (at table))) before
  -- equation (1): the coefficients give the table at every point, all outputs together; "A point p is a number below 2^n"
  pub meaning : r ≡ Ok tt → (p : ℕ) → p < 2 ^ n → value n (λ t. w) (at after) p ≡ at table p
  -- "bits m to 7 zero"
  pub outputs : r ≡ Ok tt → (t : ℕ) → t < 2 ^ n → at after t < 2 ^ m

-- "The backward call takes the same and coefficients and fills a table."
pub record Backward (n m w : ℕ) (coefficients before after : List ℕ) (r : Result (Unit {0}) Refused) : Type 0 where
  pub answer : r ≡ transformed (transform_refusal n m w coefficients (length before))
  pub judged : Judged n m w coefficients before r
  -- equation (1): the table's byte at every point is the value of the coefficients there, all outputs together
  pub bytes : after ≡ unless_refused (transform_refusal n m w coefficients (length before)) (tabulate (2 ^ n) (value n (λ t. w) (at coefficients))) before
  -- and they are its coefficients: "Each is the inverse of the other under the same w."
  pub meaning : r ≡ Ok tt → (t : ℕ) → t < 2 ^ n → coefficient n w (at after) t ≡ at coefficients t
  pub outputs : r ≡ Ok tt → (p : ℕ) → p < 2 ^ n → at after p < 2 ^ m
