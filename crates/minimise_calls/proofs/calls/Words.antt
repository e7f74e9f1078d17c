-- The refusals of the minimising call in document 01's words: `refusal-words`, and `refusal-accepted` of the arguments that meet none.
use mathlib.Core.Path.{◌≡◌, ◌∙◌}
use mathlib.Core.Bool.{false, ◌&&◌}
use mathlib.Core.List.{List}
use Prim.Native.Nat.{ℕ, ◌-◌, ◌^◌}
use lib.Dec.{eqb, eqb→eq}
use lib.ListN.{length}
use lib.Pow.{pow_pos}
use Rattle.std.specs.Prelude.{Result, Ok, Err}
use Rattle.numbers.specs.Bytes.{all_below}
use Rattle.numbers.specs.declared.refusals.Refused.{Refused}
use Rattle.numbers.specs.Refusals.{declined, Sized, WithinOutputs}
use Rattle.numbers.proofs.Tests.{and_left, and_right}
use Rattle.numbers.proofs.refusals.Judging.{passes, fails, sizes-refusals, refused_accepted}
use Rattle.numbers.proofs.refusals.Outputs.{below_at, below-from}
use Rattle.search.specs.declared.expansion.Expansion.{Expansion}
use Rattle.minimise_calls.specs.Calls.{minimise_refusal, minimum_of, minimised, Lengths, MinimiseRefusals}
use Rattle.minimise_calls.specs.declared.calls.Minimum.{Minimum}
use Rattle.minimise_calls.proofs.calls.Judging.{refusal-lengths, refusal-bytes}

module _ (n m k : ℕ) (table c b : List ℕ) where
  lengths-fail : (Lengths n k table c b → ⊥) → (eqb (length table) (2 ^ n) && (eqb (length c) (2 ^ n) && eqb (length b) (2 ^ (n - k)))) ≡ false
  lengths-fail none =
      fails _
      (λ t.
      let lent = and_right (eqb (length table) (2 ^ n)) (eqb (length c) (2 ^ n) && eqb (length b) (2 ^ (n - k))) t in
      none (
        eqb→eq (length table) (2 ^ n) (and_left (eqb (length table) (2 ^ n)) _ t),
        eqb→eq (length c) (2 ^ n) (and_left (eqb (length c) (2 ^ n)) (eqb (length b) (2 ^ (n - k))) lent),
        eqb→eq (length b) (2 ^ (n - k)) (and_right (eqb (length c) (2 ^ n)) (eqb (length b) (2 ^ (n - k))) lent),
      ))

  pub refusal-words : (r : Result Minimum Refused) (e : Expansion) → r ≡ minimised (minimise_refusal n m k table (length c) (length b)) e
      → MinimiseRefusals n m k table c b (λ why. r ≡ Err (declined why 0))
  unfolding minimise_refusal
  refusal-words r e answer =
      record {
        sizes = sizes-refusals n m 3 k _ (λ why h. answer ∙ rw h);
        lengths = λ s none. answer ∙ rw (refusal-lengths n m k table (length c) (length b) s, lengths-fail none);
        bits = λ s h none.
            answer ∙ rw (refusal-bytes n m k table (length c) (length b) s h.0 h.1 h.2, fails (all_below (2 ^ m) table) (λ t. none (below_at (2 ^ m) table (pow_pos m) t)));
      }

  pub refusal-accepted : (r : Result Minimum Refused) (e : Expansion) → r ≡ minimised (minimise_refusal n m k table (length c) (length b)) e
      → Sized n m 3 k → Lengths n k table c b → WithinOutputs m table → (refused : Refused) → r ≡ Err refused → ⊥
  refusal-accepted r e answer s h w refused told =
      let found : minimised (minimise_refusal n m k table (length c) (length b)) e ≡ Ok (minimum_of e) =
      rw (refusal-bytes n m k table (length c) (length b) s h.0 h.1 h.2, passes (all_below (2 ^ m) table) (below-from (2 ^ m) table w)) in
      refused_accepted r refused (minimum_of e) told (answer ∙ found)
