-- The lowest point at which two functions differ: none is found exactly where they agree at every point (`difference-none`, `none_differ`), and p
-- is found exactly where it is the lowest that differs (`difference-at`, `lowest-differs`).
use mathlib.Core.Bool.{Bool, not}
use mathlib.Core.Logic.{inr}
use mathlib.Core.Path.{◌≡◌, refl, ap, subst}
use Prim.Native.Nat.{ℕ, ◌^◌, ◌≤◌, ◌<◌}
use native.Mathlib.Decide.{ℕ_discrete, dec_lt}
use native.Mathlib.Omega.{arith}
use borrow.Author.Tests.{eq-eqb, ne_eqb}
use lib.Dec.{T, eqb}
use Rattle.expansions.specs.Least.{Best, nothing, best}
use Rattle.expansions.proofs.Least.{Found, first-unique, first_least-is, then-rest}
use Rattle.fitter.specs.Differences.{first_difference}

module _ (g f : ℕ → ℕ) where
  -- the test of one point
  abbrev differs : ℕ → Bool
  differs p = not (eqb (g p) (f p))

  differs-from : (p : ℕ) → (g p ≡ f p → ⊥) → T (differs p)
  differs-from p h = rw (ne_eqb (g p) (f p) h) tt

  differs-to : (p : ℕ) → T (differs p) → g p ≡ f p → ⊥
  differs-to p t e = rw (eq-eqb (g p) (f p) e) at t

  agrees : (p : ℕ) → (T (differs p) → ⊥) → g p ≡ f p
  agrees p h = go (ℕ_discrete (g p) (f p)) where
    go : Dec (g p ≡ f p) → g p ≡ f p
    go (yes e) = e
    go (no e) = absurd (h (differs-from p e))

  module _ (n : ℕ) where
    found : Found (2 ^ n) differs (λ p. 0) (first_difference n g f)
    unfolding first_difference
    found = first_least-is differs (λ p. 0) (2 ^ n)

    pub difference-none : first_difference n g f ≡ nothing → (p : ℕ) → p < 2 ^ n → g p ≡ f p
    difference-none e p h = agrees p (subst (Found (2 ^ n) differs (λ p. 0)) e found p h)

    pub none_differ : ((p : ℕ) → p < 2 ^ n → g p ≡ f p) → first_difference n g f ≡ nothing
    none_differ same = go (first_difference n g f) found where
      go : (b : Best) → Found (2 ^ n) differs (λ p. 0) b → b ≡ nothing
      go nothing l = refl
      go (best p) l = absurd (differs-to p l.fits (same p l.below))

    pub difference-at : (p : ℕ) → first_difference n g f ≡ best p → (p < 2 ^ n) × (g p ≡ f p → ⊥) × ((q : ℕ) → q < p → g q ≡ f q)
    difference-at p e =
        let l = subst (Found (2 ^ n) differs (λ p. 0)) e found in
        (l.below, differs-to p l.fits, λ q h. agrees q (λ t. omega (arith, then-rest 0 0 refl (l.first q (omega (arith, l.below)) t))))

    pub lowest-differs : (p : ℕ) → p < 2 ^ n → (g p ≡ f p → ⊥) → ((q : ℕ) → q < p → g q ≡ f q) → first_difference n g f ≡ best p
    lowest-differs p h d before = go (first_difference n g f) found where
      go : (b : Best) → Found (2 ^ n) differs (λ p. 0) b → b ≡ best p
      go nothing l = absurd (l p h (differs-from p d))
      go (best b) l = ap best (first-unique (2 ^ n) differs (λ p. 0) b p l (record { below = h; fits = differs-from p d; first = λ i l t. inr (refl, above i t) })) where
        above : (i : ℕ) → T (differs i) → p ≤ i
        above i t = by_order (dec_lt i p) where
          by_order : Dec (i < p) → p ≤ i
          by_order (yes l) = absurd (differs-to i t (before i l))
          by_order (no l) = omega arith
