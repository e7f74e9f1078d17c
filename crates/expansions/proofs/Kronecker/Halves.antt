-- Numbers below 2 ^ (n + 1) by their highest bit: d * 2 ^ n + s. Here are that bit, the number with one bit cleared, and that a sum over all of
-- them is a sum over each half (`fold-halves`).
use mathlib.Core.Path.{◌≡◌, sym, subst}
use Prim.Native.Nat.{ℕ, zero, suc, ◌+◌, ◌*◌, ◌/◌, ◌%◌, ◌^◌, ◌≤◌, ◌<◌}
use native.Mathlib.Nat.{add-zero, zero-add, mul-le-mul_right, div-add-mod', mod-lt, div-lt_iff_lt-mul}
use native.Mathlib.Omega.{arith}
use lib.Pow.{pow_pos, high}
use Rattle.numbers.specs.Sums.{fold_below}
use Rattle.numbers.specs.Bits.{bit}
use Rattle.numbers.proofs.Bits.{bit_below}
use Rattle.expansions.specs.Kronecker.Steps.{without}

-- ---- bits

pub bit-top : (n d s : ℕ) → d < 2 → s < 2 ^ n → bit n (d * 2 ^ n + s) ≡ d
bit-top n d s h l = rw (high d n l) (omega arith)

pub bit-place : (i s : ℕ) → bit i s * 2 ^ i ≤ s
bit-place i s =
    let h : bit i s ≤ s / 2 ^ i = omega arith in
    omega (arith, mul-le-mul_right (2 ^ i) h, div-add-mod' s (2 ^ i))

-- clearing a low bit
pub without-low : (n i d s : ℕ) → i < n → without i (d * 2 ^ n + s) ≡ d * 2 ^ n + without i s
unfolding without
without-low n i d s h = rw (bit_below i n d s h) (omega (arith, bit-place i s))

-- clearing the highest one
pub without-top : (n d s : ℕ) → d < 2 → s < 2 ^ n → without n (d * 2 ^ n + s) ≡ s
unfolding without
without-top n d s h l = rw (bit-top n d s h l) (omega arith)

-- ---- halves

-- a number below 2 ^ (n + 1) is in the lower half or in the upper
pub below-halves : (n : ℕ) (P : ℕ → Type 0) → ((d s : ℕ) → d < 2 → s < 2 ^ n → P (d * 2 ^ n + s)) → (t : ℕ) → t < 2 ^ suc n → P t
below-halves n P f t h =
    subst P (div-add-mod' t (2 ^ n)) (f (t / 2 ^ n) (t % 2 ^ n) ((div-lt_iff_lt-mul (pow_pos n)).1 (omega arith)) (mod-lt t (pow_pos n)))

pub half_lt : (n d s : ℕ) → d < 2 → s < 2 ^ n → d * 2 ^ n + s < 2 ^ suc n
half_lt n zero s h l = omega arith
half_lt n (suc zero) s h l = omega arith
half_lt n (suc (suc d)) s h l = absurd (omega arith)

module _ (op : ℕ → ℕ → ℕ) (assoc : (a b c : ℕ) → op (op a b) c ≡ op a (op b c)) (unit : (a : ℕ) → op a 0 ≡ a) where
  fold-append : (N M : ℕ) (g : ℕ → ℕ) → fold_below op (N + M) g ≡ op (fold_below op N g) (fold_below op M (λ s. g (N + s)))
  unfolding fold_below
  fold-append N zero g = rw (add-zero N) (sym (unit (fold_below op N g)))
  fold-append N (suc M) g =
      let e : N + suc M ≡ suc (N + M) = omega arith in
      rw (e, fold-append N M g) (assoc (fold_below op N g) (fold_below op M (λ s. g (N + s))) (g (N + M)))

  pub fold-halves : (n : ℕ) (g : ℕ → ℕ)
      → fold_below op (2 ^ suc n) g ≡ op (fold_below op (2 ^ n) (λ s. g (0 * 2 ^ n + s))) (fold_below op (2 ^ n) (λ s. g (1 * 2 ^ n + s)))
  fold-halves n g =
      let e : 2 ^ suc n ≡ 2 ^ n + 2 ^ n = omega arith in
      let zeroth : 0 * 2 ^ n ≡ 0 = omega arith in
      let first : 1 * 2 ^ n ≡ 2 ^ n = omega arith in
      rw (e, fold-append (2 ^ n) (2 ^ n) g) (simp (zeroth, first, zero-add))
