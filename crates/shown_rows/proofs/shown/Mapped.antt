-- An array that `map` makes of 256 numbers by a function is the table of that function at the numbers.
use mathlib.Core.Path.{◌≡◌, refl, sym, ap, ◌∙◌}
use mathlib.Core.List.{List}
use Prim.Native.Nat.{ℕ, zero, suc, ◌+◌, ◌<◌}
use native.Mathlib.Nat.{add-zero, zero-add}
use native.Mathlib.Omega.{arith}
use denote.Param.Members.{Mut, Called}
use Rattle.std.specs.Array.{IsMapOf, MapsFrom}
use Rattle.numbers.specs.Bytes.{at, tabulate}
use Rattle.numbers.proofs.Bytes.{is-table}

-- each call of the closure f gives h of its argument, and leaves f as it was
module _ {F : Type 0} (g : Mut F (ℕ × Unit {0}) ℕ) (f : F) (h : ℕ → ℕ) (each : (x y : ℕ) (q : F) → Called g f (x, tt) y q → (y ≡ h x) × (q ≡ f)) where
  mapped : (n i : ℕ) (p : F) (xs ys : List ℕ) → p ≡ f → MapsFrom g p xs ys i n → (t : ℕ) → t < n → at ys (i + t) ≡ h (at xs (i + t))
  mapped zero i p xs ys e r = λ t l. absurd (omega arith)
  mapped (suc n) i p xs ys e (q, x, y, from, to, called, rest) =
      let both = each x y q (rw e at called) in elim [
        | zero ↦ λ l. rw add-zero (to.1 0 ∙ both.0 ∙ ap h (sym (from.1 0)))
        | suc t ↦ λ l. let s : i + suc t ≡ i + 1 + t = omega arith in rw s (mapped n (i + 1) q xs ys both.1 rest t (omega arith))
      ]

  pub mapped-table : (xs ys : List ℕ) (n : ℕ) → IsMapOf g f xs ys n → ys ≡ tabulate n (λ t. h (at xs t))
  mapped-table xs ys n r = is-table n (λ t. h (at xs t)) ys r.long (λ t l. rw zero-add at (mapped n 0 f xs ys refl r.each t l))
