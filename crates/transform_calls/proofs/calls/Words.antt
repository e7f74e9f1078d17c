-- The refusals of a transform call, and when it is carried out, in document 01's words (`judged-words`).
use mathlib.Core.Path.{◌≡◌, ◌∙◌}
use mathlib.Core.Bool.{false, ◌&&◌}
use mathlib.Core.List.{List}
use Prim.Native.Nat.{ℕ, ◌^◌}
use borrow.Author.Tests.{lt-ltb, eq-eqb}
use lib.Dec.{ltb, eqb, ltb→lt, eqb→eq}
use lib.ListN.{length}
use lib.Pow.{pow_pos}
use Rattle.std.specs.Prelude.{Result}
use Rattle.numbers.specs.Bytes.{all_below}
use Rattle.numbers.specs.declared.refusals.Refused.{Refused}
use Rattle.numbers.proofs.Tests.{and_left, and_right}
use Rattle.numbers.proofs.refusals.Judging.{passes, fails, table-accepted, table-refusals}
use Rattle.numbers.proofs.refusals.Outputs.{below_at, below-from}
use Rattle.transform_calls.specs.Calls.{transform_refusal, transformed, Lengths, Judged}

lengths-fail : (n : ℕ) (given lent : List ℕ) → (Lengths n given lent → ⊥) → (eqb (length given) (2 ^ n) && eqb (length lent) (2 ^ n)) ≡ false
lengths-fail n given lent none =
    fails _
    (λ t.
    none (
      eqb→eq (length given) (2 ^ n) (and_left (eqb (length given) (2 ^ n)) (eqb (length lent) (2 ^ n)) t),
      eqb→eq (length lent) (2 ^ n) (and_right (eqb (length given) (2 ^ n)) (eqb (length lent) (2 ^ n)) t),
    ))

pub judged-words : (n m w : ℕ) (given lent : List ℕ) (r : Result (Unit {0}) Refused) → r ≡ transformed (transform_refusal n m w given (length lent)) → Judged n m w given lent r
unfolding transform_refusal
judged-words n m w given lent r answer =
    record {
      refusals = record {
        sizes = table-refusals n m _ (λ why h. answer ∙ rw h);
        polarity = λ s none. answer ∙ rw (table-accepted n m s, fails (ltb w (2 ^ n)) (λ t. none (ltb→lt w (2 ^ n) t)));
        lengths = λ s p none. answer ∙ rw (table-accepted n m s, lt-ltb w (2 ^ n) p, lengths-fail n given lent none);
        bits = λ s p h none.
            answer
            ∙ rw (
              table-accepted n m s,
              lt-ltb w (2 ^ n) p,
              eq-eqb (length given) (2 ^ n) h.0,
              eq-eqb (length lent) (2 ^ n) h.1,
              fails (all_below (2 ^ m) given) (λ t. none (below_at (2 ^ m) given (pow_pos m) t)),
            );
      };
      accepted = λ s p h b.
          answer
          ∙ rw (
            table-accepted n m s,
            lt-ltb w (2 ^ n) p,
            eq-eqb (length given) (2 ^ n) h.0,
            eq-eqb (length lent) (2 ^ n) h.1,
            passes (all_below (2 ^ m) given) (below-from (2 ^ m) given b),
          );
    }
