-- What one term counts: once, whatever outputs it has (`counted-bits`).
use mathlib.Core.Path.{◌≡◌, refl, sym, ap, ◌∙◌}
use Prim.Native.Nat.{ℕ, zero, suc, ◌+◌, ◌*◌, ◌%◌, ◌^◌, ◌≤◌, ◌<◌, max}
use native.Mathlib.Nat.{zero-mul, one-mul, mod-one}
use native.Mathlib.Numerals.{one-add}
use native.Mathlib.Omega.{arith}
use lib.Pow.{pow_pos, mod-pow-add}
use Rattle.numbers.specs.Sums.{fold_below}
use Rattle.numbers.specs.Bits.{bit}
use Rattle.expansions.specs.Costs.{counted}
use Rattle.numbers.proofs.Bits.{bit-lt}

-- ---- counted

pub counted_none : (c x : ℕ) → c ≡ 0 → counted c x ≡ 0
unfolding counted
counted_none c x e = rw e

pub counted-some : (c x : ℕ) → (c ≡ 0 → ⊥) → counted c x ≡ x
unfolding counted
counted-some zero x h = absurd (h refl)
counted-some (suc c) x h = refl

-- a map that keeps 0
pub counted-map : (h : ℕ → ℕ) → h 0 ≡ 0 → (c x : ℕ) → h (counted c x) ≡ counted c (h x)
unfolding counted
counted-map h z zero x = z
counted-map h z (suc c) x = refl

pub counted-le : (c a b : ℕ) → a ≤ b → counted c a ≤ b
unfolding counted
counted-le zero a b h = omega arith
counted-le (suc c) a b h = h

-- a map that keeps 0 counts nothing that was not counted
pub counted-fewer : (h : ℕ → ℕ) → h 0 ≡ 0 → (c x : ℕ) → counted (h c) x ≤ counted c x
unfolding counted
counted-fewer h z zero x = rw z (omega arith)
counted-fewer h z (suc c) x = counted-le (h (suc c)) x x (omega arith)

pub counted-mul : (c x : ℕ) → counted c x ≡ counted c 1 * x
unfolding counted
counted-mul zero x = sym (zero-mul x)
counted-mul (suc c) x = sym (one-mul x)

counted-digit : (m a b : ℕ) → a < 2 → max (counted b 1) a ≡ counted (a * 2 ^ m + b) 1
counted-digit m zero b h = let e : 0 * 2 ^ m + b ≡ b = omega arith in rw e (omega arith)
counted-digit m (suc zero) b h = omega (arith, counted-le b 1 1 (omega arith), counted-some (1 * 2 ^ m + b) 1 (omega (arith, pow_pos m)))
counted-digit m (suc (suc a)) b h = absurd (omega arith)

-- a number has a bit that is 1 exactly where it is not 0
pub counted-bits : (m x : ℕ) → fold_below max m (λ o. bit o x) ≡ counted (x % 2 ^ m) 1
unfolding fold_below counted
counted-bits zero x = sym (ap (λ (y : ℕ). counted y 1) (mod-one x))
counted-bits (suc m) x =
    ap (λ (y : ℕ). max y (bit m x)) (counted-bits m x) ∙ counted-digit m (bit m x) (x % 2 ^ m) (bit-lt m x)
    ∙ ap (λ (y : ℕ). counted y 1) (sym (mod-pow-add x 1 m)) ∙ ap (λ (y : ℕ). counted (x % 2 ^ y) 1) (one-add m)
