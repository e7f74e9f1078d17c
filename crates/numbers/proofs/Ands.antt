-- Laws of AND and OR of numbers that the kit's lib.Bits lacks: AND by the lowest bit and the rest, through OR and through exclusive OR, and
-- what it means for `inside`. Each of the numbers joined by OR is inside the whole (`inside-ors`).
use mathlib.Core.Path.{◌≡◌, refl, sym, ap, ◌∙◌}
use Prim.Native.Nat.{ℕ, zero, suc, ◌/◌, ◌%◌, ◌^◌, ◌<◌, min, max}
use native.Mathlib.Decide.{ℕ_discrete}
use native.Mathlib.Nat.{not-suc-le-zero, zero-min}
use native.Mathlib.Omega.{arith}
use lib.Arith.{bin_ind}
use lib.Bits.{bit_and, bit_or, bit_xor, differ, and_step, or_step, xor_step, and_shr, and_self, and_comm}
use lib.Dec.{T, eqb→eq}
use Rattle.numbers.specs.Bits.{bit, inside}
use Rattle.numbers.specs.Sums.{fold_below}
use Rattle.numbers.proofs.Tests.{eqb_of}
use Rattle.numbers.proofs.Xor.{low-lt, xor-half, xor_low}
use Rattle.numbers.proofs.Bits.{bit-lt, inside-to, inside-from}
use Rattle.numbers.proofs.Pack.{bit-or}

-- ---- by the lowest bit and the rest

pub and-half : (a b : ℕ) → bit_and a b / 2 ≡ bit_and (a / 2) (b / 2)
and-half a b = omega (arith, and_step a b)

pub and_low : (a b : ℕ) → bit_and a b % 2 ≡ min (a % 2) (b % 2)
and_low a b = omega (arith, and_step a b)

or-half : (a b : ℕ) → bit_or a b / 2 ≡ bit_or (a / 2) (b / 2)
or-half a b = omega (arith, or_step a b)

or-low : (a b : ℕ) → bit_or a b % 2 ≡ max (a % 2) (b % 2)
or-low a b = omega (arith, or_step a b)

pub bit-and : (i a b : ℕ) → bit i (bit_and a b) ≡ min (bit i a) (bit i b)
bit-and i a b = ap (λ (x : ℕ). x % 2) (and_shr a b i) ∙ and_low (a / 2 ^ i) (b / 2 ^ i)

-- ---- AND of an OR, of an exclusive OR, and of an AND

min-max : (x y z : ℕ) → min x (max y z) ≡ max (min x y) (min x z)
min-max x y z = omega arith

min_assoc : (x y z : ℕ) → min (min x y) z ≡ min x (min y z)
min_assoc x y z = omega arith

min-differ : (x y z : ℕ) → x < 2 → y < 2 → z < 2 → min x (differ y z) ≡ differ (min x y) (min x z)
min-differ zero y z hx hy hz = simp zero-min
min-differ (suc zero) zero z hx hy hz = refl
min-differ (suc zero) (suc zero) zero hx hy hz = refl
min-differ (suc zero) (suc zero) (suc zero) hx hy hz = refl
min-differ (suc zero) (suc zero) (suc (suc z)) hx hy hz = absurd (omega arith)
min-differ (suc zero) (suc (suc y)) z hx hy hz = absurd (omega arith)
min-differ (suc (suc x)) y z hx hy hz = absurd (omega arith)

pub and-or : (a b c : ℕ) → bit_and a (bit_or b c) ≡ bit_or (bit_and a b) (bit_and a c)
and-or =
    bin_ind (λ (a : ℕ). (b c : ℕ) → bit_and a (bit_or b c) ≡ bit_or (bit_and a b) (bit_and a c)) (λ b c. refl)
    (λ a ih b c.
    cc (
      and_step a (bit_or b c),
      or-half b c,
      or-low b c,
      ih (b / 2) (c / 2),
      min-max (a % 2) (b % 2) (c % 2),
      or_step (bit_and a b) (bit_and a c),
      and-half a b,
      and-half a c,
      and_low a b,
      and_low a c,
    ))

pub and_xor : (a b c : ℕ) → bit_and a (bit_xor b c) ≡ bit_xor (bit_and a b) (bit_and a c)
and_xor =
    bin_ind (λ (a : ℕ). (b c : ℕ) → bit_and a (bit_xor b c) ≡ bit_xor (bit_and a b) (bit_and a c)) (λ b c. refl)
    (λ a ih b c.
    cc (
      and_step a (bit_xor b c),
      xor-half b c,
      xor_low b c,
      ih (b / 2) (c / 2),
      min-differ (a % 2) (b % 2) (c % 2) (low-lt a) (low-lt b) (low-lt c),
      xor_step (bit_and a b) (bit_and a c),
      and-half a b,
      and-half a c,
      and_low a b,
      and_low a c,
    ))

pub and_assoc : (a b c : ℕ) → bit_and (bit_and a b) c ≡ bit_and a (bit_and b c)
and_assoc =
    bin_ind (λ (a : ℕ). (b c : ℕ) → bit_and (bit_and a b) c ≡ bit_and a (bit_and b c)) (λ b c. refl)
    (λ a ih b c.
    cc (
      and_step (bit_and a b) c,
      and-half a b,
      and_low a b,
      ih (b / 2) (c / 2),
      min_assoc (a % 2) (b % 2) (c % 2),
      and_step a (bit_and b c),
      and-half b c,
      and_low b c,
    ))

max_assoc : (x y z : ℕ) → max (max x y) z ≡ max x (max y z)
max_assoc x y z = omega arith

pub or_assoc : (a b c : ℕ) → bit_or (bit_or a b) c ≡ bit_or a (bit_or b c)
or_assoc =
    bin_ind (λ (a : ℕ). (b c : ℕ) → bit_or (bit_or a b) c ≡ bit_or a (bit_or b c)) (λ b c. refl)
    (λ a ih b c.
    cc (
      or_step (bit_or a b) c,
      or-half a b,
      or-low a b,
      ih (b / 2) (c / 2),
      max_assoc (a % 2) (b % 2) (c % 2),
      or_step a (bit_or b c),
      or-half b c,
      or-low b c,
    ))

pub and_again : (a b : ℕ) → bit_and a (bit_and a b) ≡ bit_and a b
and_again a b = sym (and_assoc a a b) ∙ ap (λ (x : ℕ). bit_and x b) (and_self a)

-- ---- inside

pub inside-and : (a b : ℕ) → T (inside a b) → bit_and a b ≡ a
unfolding inside
inside-and a b h = eqb→eq (bit_and a b) a h

pub inside_of : (a b : ℕ) → bit_and a b ≡ a → T (inside a b)
unfolding inside
inside_of a b e = eqb_of (bit_and a b) a e

pub and-inside : (a b : ℕ) → T (inside (bit_and a b) a)
and-inside a b = inside_of (bit_and a b) a (and_comm (bit_and a b) a ∙ and_again a b)

inside-trans : (a b c : ℕ) → T (inside a b) → T (inside b c) → T (inside a c)
inside-trans a b c h k = inside-from a c (λ i e. inside-to b c k i (inside-to a b h i e))

inside-or-left : (a b : ℕ) → T (inside a (bit_or a b))
inside-or-left a b = inside-from a (bit_or a b) (λ i e. bit-or i a b ∙ omega (arith, bit-lt i b))

inside-or-right : (a b : ℕ) → T (inside b (bit_or a b))
inside-or-right a b = inside-from b (bit_or a b) (λ i e. bit-or i a b ∙ omega (arith, bit-lt i a))

pub inside-ors : (N : ℕ) (g : ℕ → ℕ) (t : ℕ) → t < N → T (inside (g t) (fold_below bit_or N g))
unfolding fold_below
inside-ors zero g t h = absurd (not-suc-le-zero h)
inside-ors (suc N) g t h = go (ℕ_discrete t N) (inside-ors N g t) where
  whole : ℕ
  whole = fold_below bit_or N g

  go : Dec (t ≡ N) → (t < N → T (inside (g t) whole)) → T (inside (g t) (bit_or whole (g N)))
  go (yes e) ih = rw e (inside-or-right whole (g N))
  go (no e) ih = inside-trans (g t) whole (bit_or whole (g N)) (ih (omega arith)) (inside-or-left whole (g N))
