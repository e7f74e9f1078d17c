-- Masks as code computes them: the inputs outside M as a difference (`outside-difference`), and gather and spread one input at a time, from
-- the lowest (`gather-next`, `spread-next`). When M and i are a pair (`valid-from`, `valid-size`, `valid-clear`).
use mathlib.Core.Path.{◌≡◌, refl, sym, ap, ◌∙◌}
use Prim.Native.Nat.{ℕ, zero, suc, ◌+◌, ◌-◌, ◌*◌, ◌/◌, ◌%◌, ◌^◌, ◌≤◌, ◌<◌}
use native.Mathlib.Nat.{not-suc-le-zero, zero-add, mul-one, mul_comm, mul_assoc, pow-suc}
use native.Mathlib.Omega.{arith}
use native.Mathlib.Numerals.{one-add}
use lib.Count.{ones_in}
use lib.Pow.{pow_pos, pow-add}
use lib.Dec.{T, eqb, eqb→eq, eqb_refl}
use Rattle.numbers.specs.Bits.{bit}
use Rattle.numbers.proofs.Xor.{low-lt}
use Rattle.numbers.proofs.Bits.{bit-zero, bit-suc}
use Rattle.numbers.proofs.Tests.{and_intro, and_left, and_right}
use Rattle.expansions.specs.Split.{put_digit, low_digit, drop_digit, gather, spread, outside}
use Rattle.expansions.specs.Inner.Answer.{valid_pair}

-- ---- the inputs outside M

pub outside-difference : (n M : ℕ) → M < 2 ^ n → outside n M ≡ 2 ^ n - 1 - M
unfolding outside
outside-difference zero M h = omega arith
outside-difference (suc n) M h = omega (arith, outside-difference n (M / 2) (omega arith))

-- ---- the k lowest inputs

pub ones-lowest : (n k : ℕ) → k ≤ n → ones_in n (2 ^ k - 1) ≡ k
unfolding ones_in
ones-lowest zero zero h = refl
ones-lowest zero (suc k) h = absurd (not-suc-le-zero h)
ones-lowest (suc n) zero h = zero-add (ones_in n 0) ∙ ones-lowest n 0 (omega arith)
ones-lowest (suc n) (suc k) h =
    let o : (2 ^ suc k - 1) % 2 ≡ 1 = omega (arith, pow_pos k) in
    let r : (2 ^ suc k - 1) / 2 ≡ 2 ^ k - 1 = omega (arith, pow_pos k) in
    rw (o, r) (omega (arith, ones-lowest n k (omega arith)))

-- no mask of as many inputs is less
pub ones-least : (n M : ℕ) → 2 ^ ones_in n M ≤ suc M
unfolding ones_in
ones-least zero M = omega arith
ones-least (suc n) M = go (M % 2) refl (ones-least n (M / 2)) where
  go : (b : ℕ) → M % 2 ≡ b → 2 ^ ones_in n (M / 2) ≤ suc (M / 2) → 2 ^ (b + ones_in n (M / 2)) ≤ suc M
  go zero e h = let same : 0 + ones_in n (M / 2) ≡ ones_in n (M / 2) = omega arith in rw same (omega arith)
  go (suc zero) e h = let more : 1 + ones_in n (M / 2) ≡ suc (ones_in n (M / 2)) = omega arith in rw more (omega arith)
  go (suc (suc b)) e h = absurd (omega arith)

-- ---- valid pairs

pub valid-from : (n k M i : ℕ) → ones_in n M ≡ k → gather n M i ≡ 0 → T (valid_pair n k M i)
unfolding valid_pair
valid-from n k M i size clear = rw (size, clear) (and_intro (eqb k k) (eqb 0 0) (eqb_refl k) (eqb_refl 0))

pub valid-size : (n k M i : ℕ) → T (valid_pair n k M i) → ones_in n M ≡ k
unfolding valid_pair
valid-size n k M i t = eqb→eq (ones_in n M) k (and_left (eqb (ones_in n M) k) (eqb (gather n M i) 0) t)

pub valid-clear : (n k M i : ℕ) → T (valid_pair n k M i) → gather n M i ≡ 0
unfolding valid_pair
valid-clear n k M i t = eqb→eq (gather n M i) 0 (and_right (eqb (ones_in n M) k) (eqb (gather n M i) 0) t)

-- ---- one input more, from the lowest

pub ones-next : (s M : ℕ) → ones_in (suc s) M ≡ ones_in s M + bit s M
unfolding ones_in
ones-next zero M = omega (arith, bit-zero M)
ones-next (suc s) M = omega (arith, ones-next s (M / 2), bit-suc s M)

scaled : (a b p q : ℕ) → a * (b * p) * q ≡ a * (b * (p * q))
scaled a b p q = mul_assoc a (b * p) q ∙ ap (λ (x : ℕ). a * x) (mul_assoc b p q)

put_digit-add : (m x y b : ℕ) → m < 2 → put_digit m (x + y) b ≡ put_digit m x b + y * 2 ^ m
unfolding put_digit
put_digit-add zero x y b h = omega arith
put_digit-add (suc zero) x y b h = omega arith
put_digit-add (suc (suc m)) x y b h = absurd (omega arith)

put_digit-first : (m b : ℕ) → m < 2 → put_digit m 0 b ≡ m * b
unfolding put_digit
put_digit-first zero b h = omega arith
put_digit-first (suc zero) b h = omega arith
put_digit-first (suc (suc m)) b h = absurd (omega arith)

-- the next bit of x goes above those gathered, where M has the input s
pub gather-next : (s M x : ℕ) → gather (suc s) M x ≡ gather s M x + bit s M * (bit s x * 2 ^ ones_in s M)
unfolding gather ones_in
gather-next zero M x = rw (bit-zero M, bit-zero x) (simp (zero-add, mul-one) (put_digit-first (M % 2) (x % 2) (low-lt M)))
gather-next (suc s) M x =
    rw (
      gather-next s (M / 2) (x / 2),
      bit-suc s M,
      bit-suc s x,
      pow-add 2 (M % 2) (ones_in s (M / 2)),
      mul_comm (2 ^ (M % 2)),
      ← (scaled (bit s (M / 2)) (bit s (x / 2))),
    )
    (put_digit-add (M % 2) _ _ (x % 2) (low-lt M))

pub drop_digit-bit : (m o y : ℕ) → m < 2 → bit o (drop_digit m y) ≡ bit (m + o) y
unfolding drop_digit
drop_digit-bit zero o y h = rw (zero-add o)
drop_digit-bit (suc zero) o y h = rw (one-add o) (sym (bit-suc o y))
drop_digit-bit (suc (suc m)) o y h = absurd (omega arith)

pub low_digit-first : (m y : ℕ) → m < 2 → low_digit m y ≡ m * (y % 2)
unfolding low_digit
low_digit-first zero y h = omega arith
low_digit-first (suc zero) y h = omega arith
low_digit-first (suc (suc m)) y h = absurd (omega arith)

-- the next bit of y goes to the input s, where M has it
pub spread-next : (s M y : ℕ) → spread (suc s) M y ≡ spread s M y + bit s M * (bit (ones_in s M) y * 2 ^ s)
unfolding spread ones_in
spread-next zero M y = rw (bit-zero M, bit-zero y) (simp (zero-add, mul-one) (low_digit-first (M % 2) y (low-lt M)))
spread-next (suc s) M y =
    rw (
      spread-next s (M / 2) (drop_digit (M % 2) y),
      bit-suc s M,
      drop_digit-bit (M % 2) (ones_in s (M / 2)) y (low-lt M),
      pow-suc 2 s,
      ← (scaled (bit s (M / 2)) (bit (M % 2 + ones_in s (M / 2)) y) (2 ^ s) 2),
    )
    (omega arith)
