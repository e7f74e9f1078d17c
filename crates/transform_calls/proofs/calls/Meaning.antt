-- What the calls promise, from the transforms' bytes: `forward-done`, `backward-done`, and the refusals.
use mathlib.Core.Path.{◌≡◌, sym, ap, ◌∙◌}
use mathlib.Core.List.{List}
use Prim.Native.Nat.{ℕ, ◌+◌, ◌^◌, ◌<◌}
use native.Mathlib.Nat.{zero-add}
use native.Mathlib.Omega.{arith}
use lib.ListN.{length}
use lib.Pow.{pow_pos}
use Rattle.std.specs.Prelude.{Result, Ok, Err}
use Rattle.numbers.specs.Bytes.{at, tabulate}
use Rattle.numbers.specs.Refusals.{declined}
use Rattle.numbers.specs.declared.refusals.Refusal.{Refusal}
use Rattle.numbers.specs.declared.refusals.Refused.{Refused}
use Rattle.algebra.specs.Terms.{value}
use Rattle.algebra.specs.Coefficients.{coefficient}
use Rattle.algebra.specs.Transform.{coefficient_bytes, value_bytes}
use Rattle.transform_calls.specs.Calls.{transform_refusal, transformed, Forward, Backward}
use Rattle.numbers.proofs.Bytes.{at-tabulate, tabulate-ext}
use Rattle.algebra.proofs.Value.{value-ext}
use Rattle.algebra.proofs.Coefficients.{value-coefficient, coefficient-value, coefficient-ext, coefficient-lt, value-lt}
use Rattle.algebra.proofs.Lanes.{Fitting, fits-fitting, lanes-one}
use Rattle.transform_calls.proofs.calls.Judging.{Accepted, refusal-none}
use Rattle.transform_calls.proofs.calls.Words.{judged-words}
use Rattle.numbers.proofs.refusals.Outputs.{below_at}
use Rattle.numbers.proofs.refusals.Judging.{Passed, kept, refused_accepted}

-- ---- the transforms' bytes, where the call is carried out

accepted-fits : (n m w : ℕ) (given before : List ℕ) → Accepted n m w given (length before) → Fitting 0 n w (length given) (length before)
accepted-fits n m w given before a =
    let one : 2 ^ n ≡ 2 ^ (0 + n) = ap (λ (x : ℕ). 2 ^ x) (sym (zero-add n)) in
    record { lows = omega arith; inputs = a.sizes.inputs.1; polarity = a.polarity; given_long = a.given_long ∙ one; lent_long = a.lent_long ∙ one }

coefficients-one : (n m w : ℕ) (table before : List ℕ) → Accepted n m w table (length before) → coefficient_bytes 0 n w table before ≡ tabulate (2 ^ n) (coefficient n w (at table))
unfolding coefficient_bytes
coefficients-one n m w table before a =
    rw (fits-fitting 0 n w (length table) (length before) (accepted-fits n m w table before a), a.lent_long)
    (tabulate-ext (2 ^ n) _ _ (λ t h. lanes-one (coefficient n w) (at table) t))

values_one : (n m w : ℕ) (coefficients before : List ℕ) → Accepted n m w coefficients (length before)
    → value_bytes n w coefficients before ≡ tabulate (2 ^ n) (value n (λ t. w) (at coefficients))
unfolding value_bytes
values_one n m w coefficients before a = rw (fits-fitting 0 n w (length coefficients) (length before) (accepted-fits n m w coefficients before a))

-- ---- carried out

pub forward-done : (n m w : ℕ) (table before after : List ℕ) → Passed (transform_refusal n m w table (length before)) → after ≡ coefficient_bytes 0 n w table before
    → Forward n m w table before after (Ok tt)
forward-done n m w table before after e b =
    let answered : Ok tt ≡ transformed (transform_refusal n m w table (length before)) = rw e in
    record {
      answer = answered;
      judged = judged-words _ _ _ _ _ _ answered;
      bytes = rw e filled;
      meaning = λ r p h. value-ext n (λ t. w) (at after) (coefficient n w (at table)) p each ∙ value-coefficient n w (at table) a.polarity p h;
      outputs = λ r t h. rw (each t h) (coefficient-lt m n w (at table) a.polarity (λ p l. below_at (2 ^ m) table (pow_pos m) a.clean p) t);
    }
  where
    a : Accepted n m w table (length before)
    a = refusal-none n m w table (length before) e

    filled : after ≡ tabulate (2 ^ n) (coefficient n w (at table))
    filled = b ∙ coefficients-one n m w table before a

    each : (t : ℕ) → t < 2 ^ n → at after t ≡ coefficient n w (at table) t
    each t h = ap (λ (x : List ℕ). at x t) filled ∙ at-tabulate (2 ^ n) (coefficient n w (at table)) t h

pub backward-done : (n m w : ℕ) (coefficients before after : List ℕ) → Passed (transform_refusal n m w coefficients (length before)) → after ≡ value_bytes n w coefficients before
    → Backward n m w coefficients before after (Ok tt)
backward-done n m w coefficients before after e b =
    let answered : Ok tt ≡ transformed (transform_refusal n m w coefficients (length before)) = rw e in
    record {
      answer = answered;
      judged = judged-words _ _ _ _ _ _ answered;
      bytes = rw e filled;
      meaning = λ r t h. coefficient-ext n w (at after) (value n (λ s. w) (at coefficients)) a.polarity each t ∙ coefficient-value n w (at coefficients) t h;
      outputs = λ r p h. rw (each p h) (value-lt m n w (at coefficients) (λ t l. below_at (2 ^ m) coefficients (pow_pos m) a.clean t) p);
    }
  where
    a : Accepted n m w coefficients (length before)
    a = refusal-none n m w coefficients (length before) e

    filled : after ≡ tabulate (2 ^ n) (value n (λ t. w) (at coefficients))
    filled = b ∙ values_one n m w coefficients before a

    each : (p : ℕ) → p < 2 ^ n → at after p ≡ value n (λ t. w) (at coefficients) p
    each p h = ap (λ (x : List ℕ). at x p) filled ∙ at-tabulate (2 ^ n) (value n (λ t. w) (at coefficients)) p h

-- ---- declined

module _ (n m w : ℕ) (given before : List ℕ) (why : Refusal) (r : Result (Unit {0}) Refused) (e : transform_refusal n m w given (length before) ≡ Err why)
    (told : r ≡ Err (declined why 0)) where
  answered-refused : r ≡ transformed (transform_refusal n m w given (length before))
  answered-refused = rw (told, e)

  pub forward-refused : Forward n m w given before before r
  forward-refused =
      record {
        answer = answered-refused;
        judged = judged-words _ _ _ _ _ _ answered-refused;
        bytes = kept _ _ before why e;
        meaning = λ done. refused_accepted r _ _ told done;
        outputs = λ done. refused_accepted r _ _ told done;
      }

  pub backward-refused : Backward n m w given before before r
  backward-refused =
      record {
        answer = answered-refused;
        judged = judged-words _ _ _ _ _ _ answered-refused;
        bytes = kept _ _ before why e;
        meaning = λ done. refused_accepted r _ _ told done;
        outputs = λ done. refused_accepted r _ _ told done;
      }
