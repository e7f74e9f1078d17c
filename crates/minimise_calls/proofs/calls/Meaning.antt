-- What the minimising call promises, from the record that the search hands up: `minimise-found` where it is carried out, and
-- `minimise-refused` where it declines.
use mathlib.Core.Path.{◌≡◌, ap, ◌∙◌}
use mathlib.Core.List.{List}
use Prim.Native.Nat.{ℕ, ◌-◌, ◌^◌, ◌≤◌, ◌<◌}
use native.Mathlib.Omega.{arith}
use lib.ListN.{length, take}
use lib.Pow.{pow_pos, pow_mono}
use Rattle.std.specs.Prelude.{Result, Ok, Err}
use Rattle.std.proofs.lemmas.List.{length-take-le, get_or-take}
use Rattle.numbers.specs.Bytes.{at, tabulate}
use Rattle.numbers.specs.Refusals.{declined}
use Rattle.numbers.specs.declared.refusals.Refusal.{Refusal}
use Rattle.numbers.specs.declared.refusals.Refused.{Refused}
use Rattle.numbers.proofs.Bytes.{is-table, length-tabulate}
use Rattle.numbers.proofs.refusals.Outputs.{below_at}
use Rattle.numbers.proofs.refusals.Judging.{Passed, kept, refused_accepted}
use Rattle.expansions.specs.declared.kinds.Class.TheVariants.{Block}
use Rattle.expansions.specs.declared.families.Family.TheVariants.{One}
use Rattle.expansions.specs.Answers.{Minimal}
use Rattle.expansions.specs.Inner.Answer.{answer_choice, answer_coefficient}
use Rattle.search.specs.Inner.Answer.{answer_expansion}
use Rattle.minimise_calls.specs.Calls.{minimise_refusal, minimum_of, minimised, Minimise}
use Rattle.search.specs.declared.expansion.Expansion.{Expansion}
use Rattle.minimise_calls.specs.declared.calls.Minimum.{Minimum}
use Rattle.expansions.proofs.Answers.{answer-minimal, answer-coefficient-lt}
use Rattle.search.proofs.expansion.Answer.{at-coefficients, at-blocks, expansion-coefficients, expansion-blocks, expansion-inverted-lt}
use Rattle.minimise_calls.proofs.calls.Judging.{Accepted, refusal-none, accepted-room}
use Rattle.minimise_calls.proofs.calls.Words.{refusal-words, refusal-accepted}

-- ---- carried out

-- the first places of an array are the table of what they hold
taken : (N : ℕ) (g : ℕ → ℕ) (places : List ℕ) → N ≤ length places → ((t : ℕ) → at places t ≡ g t) → take N places ≡ tabulate N g
taken N g places room each = is-table N g _ (length-take-le N places room) (λ t h. get_or-take N places t 0 h ∙ each t)

module _ (n m k : ℕ) (table c b : List ℕ) (a : Accepted n m k table (length c) (length b)) where
  abbrev filled_coefficients : List ℕ
  filled_coefficients = tabulate (2 ^ n) (answer_coefficient Block One n k (at table))

  abbrev filled_blocks : List ℕ
  filled_blocks = tabulate (2 ^ (n - k)) (answer_choice Block One n k (at table))

  copied-coefficients : take (length c) (answer_expansion Block One n k (at table)).coefficients ≡ filled_coefficients
  unfolding answer_expansion
  copied-coefficients =
      rw (← a.coefficients_long)
      (taken (length c) _ _ (rw (length-tabulate 256) (accepted-room n m k table (length c) (length b) a).0) (λ t. expansion-coefficients Block One n k (at table) a.sized.inputs.1 t))

  copied-blocks : take (length b) (answer_expansion Block One n k (at table)).blocks ≡ filled_blocks
  unfolding answer_expansion
  copied-blocks =
      rw (← a.blocks_long)
      (taken (length b) _ _ (rw (length-tabulate 256) (accepted-room n m k table (length c) (length b) a).1) (λ j. expansion-blocks Block One n k (at table) a.sized.inputs.1 j))

  outputs : (p : ℕ) → p < 2 ^ n → at table p < 2 ^ m
  outputs p l = below_at (2 ^ m) table (pow_pos m) a.clean p

  filled-minimal : let e = answer_expansion Block One n k (at table) in
      Minimal Block One n k (at table) e.inverted e.mixed e.fixed (at filled_blocks) (at filled_coefficients) e.products e.literals
  unfolding answer_expansion
  filled-minimal =
      rw (at-coefficients Block One n k (at table) (2 ^ n) (omega arith), at-blocks Block One n k (at table) (2 ^ (n - k)) (omega arith))
      (answer-minimal Block One n k (at table) a.sized.inputs.1 a.sized.mixed.1 (λ p l. omega (arith, outputs p l, pow_mono {i = m} {j = 8} a.sized.outputs.1)))

  filled-outputs : (t : ℕ) → at filled_coefficients t < 2 ^ m
  filled-outputs t =
      rw (ap (λ (g : ℕ → ℕ). g t) (at-coefficients Block One n k (at table) (2 ^ n) (omega arith)))
      (answer-coefficient-lt Block One n k (at table) a.sized.mixed.1 m outputs t)

  mask-outputs : (answer_expansion Block One n k (at table)).inverted < 2 ^ m
  mask-outputs = expansion-inverted-lt Block One n k (at table) a.sized.inputs.1 m a.sized.mixed.1 outputs

pub minimise-found : (n m k : ℕ) (table c c' b b' : List ℕ) (e : Expansion) → Passed (minimise_refusal n m k table (length c) (length b))
    → e ≡ answer_expansion Block One n k (at table) → c' ≡ take (length c) e.coefficients → b' ≡ take (length b) e.blocks
    → Minimise n m k table c c' b b' (Ok (minimum_of e))
minimise-found n m k table c c' b b' e none is copied-c copied-b =
    let expansion = answer_expansion Block One n k (at table) in
    record {
      answer = answered;
      coefficients = rw none full-c;
      blocks = rw none full-b;
      refusals = refusal-words n m k table c b _ expansion answered;
      accepted = refusal-accepted n m k table c b _ expansion answered;
      meaning = λ found r. rw (← named found r) minimal;
      outputs = λ found r. (rw (← named found r) mask, λ t h. rw full-c (filled-outputs n m k table c b a t));
    }
  where
    answered : Ok (minimum_of e) ≡ minimised (minimise_refusal n m k table (length c) (length b)) (answer_expansion Block One n k (at table))
    answered = rw (none, is)

    a : Accepted n m k table (length c) (length b)
    a = refusal-none n m k table (length c) (length b) none

    full-c : c' ≡ tabulate (2 ^ n) (answer_coefficient Block One n k (at table))
    full-c = copied-c ∙ rw is (copied-coefficients n m k table c b a)

    full-b : b' ≡ tabulate (2 ^ (n - k)) (answer_choice Block One n k (at table))
    full-b = copied-b ∙ rw is (copied-blocks n m k table c b a)

    minimal : Minimal Block One n k (at table) e.inverted e.mixed e.fixed (at b') (at c') e.products e.literals
    minimal = rw (full-c, full-b, is) (filled-minimal n m k table c b a)

    mask : e.inverted < 2 ^ m
    mask = rw is (mask-outputs n m k table c b a)

    -- the returned numbers are the record's
    named : (found : Minimum) → ◌≡◌ {A = Result Minimum Refused} (Ok (minimum_of e)) (Ok found) → minimum_of e ≡ found
    named found r = cc

-- ---- declined

pub minimise-refused : (n m k : ℕ) (table c b : List ℕ) (why : Refusal) (r : Result Minimum Refused) → minimise_refusal n m k table (length c) (length b) ≡ Err why
    → r ≡ Err (declined why 0) → Minimise n m k table c c b b r
minimise-refused n m k table c b why r e told =
    let expansion = answer_expansion Block One n k (at table) in
    let answered : r ≡ minimised (minimise_refusal n m k table (length c) (length b)) expansion = rw (told, e) in
    record {
      answer = answered;
      coefficients = kept _ _ c why e;
      blocks = kept _ _ b why e;
      refusals = refusal-words n m k table c b _ expansion answered;
      accepted = refusal-accepted n m k table c b _ expansion answered;
      meaning = λ found done. refused_accepted r _ found told done;
      outputs = λ found done. refused_accepted r _ found told done;
    }
