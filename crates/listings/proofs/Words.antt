-- Two words compared byte by byte: what is left of the question after each byte, and that words pass exactly where they are one (`same-equal`,
-- `same_self`).
use mathlib.Core.Bool.{true, false, ◌&&◌, and-false, false≢true}
use mathlib.Core.List.{List, [], ◌∷◌}
use mathlib.Core.Path.{◌≡◌, refl, ap, ap₂}
use Prim.Native.Nat.{ℕ, suc, ◌+◌, ◌<◌, ◌≤◌}
use native.Mathlib.Numerals.{add-one}
use borrow.Author.Tests.{eqb-true, eq-eqb}
use lib.Dec.{eqb}
use lib.ListN.{length, get_or, drop, drop_of_length-le}
use lib.Seq.{drop-cons}
use Rattle.numbers.proofs.Tests.{both_left, both_right}
use Rattle.listings.specs.Parts.{same}

-- ---- words

pub same-lengths : (f w : List ℕ) → (length f ≡ length w → ⊥) → same f w ≡ false
unfolding same
same-lengths [] [] h = absurd (h refl)
same-lengths [] (w ∷ ws) h = refl
same-lengths (b ∷ f) [] h = refl
same-lengths (b ∷ f) (w ∷ ws) h = rw (same-lengths f ws (λ e. h (ap suc e))) (and-false (eqb b w))

pub same-equal : (f w : List ℕ) → same f w ≡ true → f ≡ w
unfolding same
same-equal [] [] e = refl
same-equal [] (w ∷ ws) e = absurd (false≢true e)
same-equal (b ∷ f) [] e = absurd (false≢true e)
same-equal (b ∷ f) (w ∷ ws) e =
    ap₂ ◌∷◌ (eqb-true b w (both_left (eqb b w) (same f ws) e)) (same-equal f ws (both_right (eqb b w) (same f ws) e))

pub same_self : (w : List ℕ) → same w w ≡ true
unfolding same
same_self [] = refl
same_self (w ∷ ws) = rw (eq-eqb w w refl, same_self ws)

pub same_step : (f w : List ℕ) (k : ℕ) → k < length f → k < length w
    → same (drop k f) (drop k w) ≡ (eqb (get_or f k 0) (get_or w k 0) && same (drop (k + 1) f) (drop (k + 1) w))
unfolding same
same_step f w k hf hw = rw (drop-cons f k 0 hf, drop-cons w k 0 hw, add-one)

pub same_end : (f w : List ℕ) (k : ℕ) → length f ≤ k → length w ≤ k → same (drop k f) (drop k w) ≡ true
unfolding same
same_end f w k hf hw = rw (drop_of_length-le f hf, drop_of_length-le w hw)
