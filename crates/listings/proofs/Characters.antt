-- The characters of numbers, cubes and outputs: how many there are, and which stands at each place.
use mathlib.Core.Bool.{Bool, true, false, cond}
use mathlib.Core.List.{[], ◌∷◌}
use mathlib.Core.Path.{◌≡◌, refl, ap, ap₂, ◌∙◌}
use Prim.Native.Nat.{ℕ, zero, suc, ◌+◌, ◌-◌, ◌/◌, ◌%◌, ◌^◌, ◌≤◌, ◌<◌}
use native.Mathlib.Nat.{not-suc-le-zero, le_of_suc-le-suc}
use native.Mathlib.Omega.{arith}
use lib.Dec.{ltb}
use lib.ListN.{length}
use Rattle.numbers.specs.Bytes.{at}
use Rattle.numbers.specs.Bits.{bit}
use Rattle.numbers.proofs.Bytes.{length-tabulate, at-tabulate}
use Rattle.listings.specs.Listing.{descending, digit_count, decimal, cube_byte, cube, output_bytes}

-- ---- the highest first

pub length-descending : (N : ℕ) (g : ℕ → ℕ) → length (descending N g) ≡ N
unfolding descending
length-descending zero g = refl
length-descending (suc N) g = ap suc (length-descending N g)

pub at-descending : (N : ℕ) (g : ℕ → ℕ) (k : ℕ) → k < N → at (descending N g) k ≡ g (N - 1 - k)
unfolding descending
at-descending zero g k h = absurd (not-suc-le-zero h)
at-descending (suc N) g zero h = ap g (omega arith)
at-descending (suc N) g (suc k) h = at-descending N g k (le_of_suc-le-suc h) ∙ ap g (omega arith)

pub descending-ext : (N : ℕ) (g h : ℕ → ℕ) → ((i : ℕ) → i < N → g i ≡ h i) → descending N g ≡ descending N h
unfolding descending
descending-ext zero g h e = refl
descending-ext (suc N) g h e = ap₂ ◌∷◌ (e N (omega arith)) (descending-ext N g h (λ i l. e i (omega arith)))

-- ---- numbers

pub digit_count-in : (x : ℕ) → (1 ≤ digit_count x) × (digit_count x ≤ 4)
unfolding digit_count
digit_count-in x = go (ltb x 10) (ltb x 100) (ltb x 1000) where
  go : (a b c : Bool) → (1 ≤ cond a 1 (cond b 2 (cond c 3 4))) × (cond a 1 (cond b 2 (cond c 3 4)) ≤ 4)
  go true b c = (omega arith, omega arith)
  go false true c = (omega arith, omega arith)
  go false false true = (omega arith, omega arith)
  go false false false = (omega arith, omega arith)

-- the powers of ten that digits stand for
pub unit-power : (i : ℕ) → i < 4 → at (1 ∷ 10 ∷ 100 ∷ 1000 ∷ []) i ≡ 10 ^ i
unit-power zero h = refl
unit-power (suc zero) h = refl
unit-power (suc (suc zero)) h = refl
unit-power (suc (suc (suc zero))) h = refl
unit-power (suc (suc (suc (suc i)))) h = absurd (omega arith)

pub length-decimal : (x : ℕ) → length (decimal x) ≡ digit_count x
unfolding decimal
length-decimal x = length-descending (digit_count x) (λ i. 48 + x / 10 ^ i % 10)

pub at-decimal : (x k : ℕ) → k < digit_count x → at (decimal x) k ≡ 48 + x / 10 ^ (digit_count x - 1 - k) % 10
unfolding decimal
at-decimal x k h = at-descending (digit_count x) (λ i. 48 + x / 10 ^ i % 10) k h

-- ---- cubes

pub length-cube : (n t w : ℕ) → length (cube n t w) ≡ n
unfolding cube
length-cube n t w = length-descending n (λ i. cube_byte (bit i t) (bit i w))

pub at-cube : (n t w k : ℕ) → k < n → at (cube n t w) k ≡ cube_byte (bit (n - 1 - k) t) (bit (n - 1 - k) w)
unfolding cube
at-cube n t w k h = at-descending n (λ i. cube_byte (bit i t) (bit i w)) k h

pub cube_byte-plain : (t w : ℕ) → (t ≡ 0 → ⊥) → w ≡ 0 → 49 ≡ cube_byte t w
unfolding cube_byte
cube_byte-plain zero w h e = absurd (h refl)
cube_byte-plain (suc t) w h e = rw e

pub cube_byte-complemented : (t w : ℕ) → (t ≡ 0 → ⊥) → (w ≡ 0 → ⊥) → 48 ≡ cube_byte t w
unfolding cube_byte
cube_byte-complemented zero w h g = absurd (h refl)
cube_byte-complemented (suc t) zero h g = absurd (g refl)
cube_byte-complemented (suc t) (suc w) h g = refl

-- ---- outputs

pub length-outputs : (m c : ℕ) → length (output_bytes m c) ≡ m
unfolding output_bytes
length-outputs m c = length-tabulate m (λ o. 48 + bit o c)

pub at-outputs : (m c k : ℕ) → k < m → at (output_bytes m c) k ≡ 48 + bit k c
unfolding output_bytes
at-outputs m c k h = at-tabulate m (λ o. 48 + bit o c) k h
