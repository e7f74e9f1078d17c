-- An array that `array::from_fn` makes of a function of the index is the table of that function.
use mathlib.Core.Path.{◌≡◌, refl, ◌∙◌}
use mathlib.Core.List.{List}
use Prim.Native.Nat.{ℕ, zero, suc, ◌+◌, ◌<◌}
use native.Mathlib.Nat.{add-zero, zero-add}
use native.Mathlib.Omega.{arith}
use denote.Param.Members.{Mut, Called}
use Rattle.std.specs.Array.{IsFromFnResult, IsFromFnResultFrom}
use Rattle.numbers.specs.Bytes.{at, tabulate}
use Rattle.numbers.proofs.Bytes.{is-table}

-- each call of the closure f gives h of its index, and leaves f as it was
module _ {F : Type 0} (g : Mut F (ℕ × Unit {0}) ℕ) (f : F) (h : ℕ → ℕ) (each : (i y : ℕ) (q : F) → Called g f (i, tt) y q → (y ≡ h i) × (q ≡ f)) where
  made : (n i : ℕ) (p : F) (ys : List ℕ) → p ≡ f → IsFromFnResultFrom g p ys i n → (t : ℕ) → t < n → at ys (i + t) ≡ h (i + t)
  made zero i p ys e r = λ t l. absurd (omega arith)
  made (suc n) i p ys e (q, y, here, called, rest) =
      let both = each i y q (rw e at called) in elim [
        | zero ↦ λ l. rw add-zero (here.1 0 ∙ both.0)
        | suc t ↦ λ l. let s : i + suc t ≡ i + 1 + t = omega arith in rw s (made n (i + 1) q ys both.1 rest t (omega arith))
      ]

  pub made-table : (ys : List ℕ) (n : ℕ) → IsFromFnResult g f ys n → ys ≡ tabulate n h
  made-table ys n r = is-table n h ys r.long (λ t l. rw zero-add at (made n 0 f ys refl r.each t l))
