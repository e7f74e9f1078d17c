-- What the half steps of the transforms leave, one input after the other. Cited by the contracts of private functions alone.
use Rattle.std.specs.Prelude.{cond, List, ◌≡◌, ℕ, zero, suc, ◌+◌, ◌^◌, ◌≤◌, ◌<◌, eqb, length}
use Rattle.std.specs.Int.Bits.{bit_xor}
use Rattle.numbers.specs.Bits.{bit}
use Rattle.numbers.specs.Bytes.{at}

-- The half step for input s: each place where the input is d takes up the byte of the place that differs in that input only. Where d is 1
-- it is a step of the transform, where d is 0 it turns the input of the polarity over.
unfoldable pub half_step : ℕ → ℕ → (ℕ → ℕ) → ℕ → ℕ
half_step d s g t = cond (eqb (bit s t) d) (bit_xor (g t) (g (bit_xor t (2 ^ s)))) (g t)

-- the half step that turns the input s of the polarity over, where the digit is 1, and none where it is 0
unfoldable pub turned_where : ℕ → ℕ → (ℕ → ℕ) → ℕ → ℕ
turned_where zero s g = g
turned_where (suc d) s g = half_step 0 s g

-- the steps for the inputs 0 to n - 1, one after the other
unfoldable pub all_steps : (ℕ → (ℕ → ℕ) → ℕ → ℕ) → ℕ → (ℕ → ℕ) → ℕ → ℕ
all_steps step zero g = g
all_steps step (suc n) g = step n (all_steps step n g)

-- the first N bytes from `to` on, each joined with the byte as far from `from`, and every other byte as it was
pub record RunJoined (to from N : ℕ) (before after : List ℕ) : Type 0 where
  pub long : length after ≡ length before
  pub below : (x : ℕ) → x < to → at after x ≡ at before x
  pub within : (i : ℕ) → i < N → at after (to + i) ≡ bit_xor (at before (to + i)) (at before (from + i))
  pub above : (x : ℕ) → to + N ≤ x → at after x ≡ at before x

-- runs of N bytes from a and from b on have no byte in common
pub data Apart (a b N : ℕ) : Type 0 where
  ahead : a + N ≤ b → Apart a b N
  behind : b + N ≤ a → Apart a b N

-- runs of N bytes from `to` and from `from` on lie within `long` bytes and have no byte in common
pub record RunRoom (to from N long : ℕ) : Type 0 where
  pub taking : to + N ≤ long
  pub taken : from + N ≤ long
  pub apart : Apart to from N
