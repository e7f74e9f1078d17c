-- The rows of the lines that are written for terms show the coefficients and the complemented inputs of the terms (`row-coefficient`,
-- `row-complemented`).
use mathlib.Core.List.{List}
use mathlib.Core.Path.{◌≡◌, refl, ap, ◌∙◌}
use Prim.Native.Nat.{ℕ, zero, suc, ◌+◌, ◌*◌, ◌/◌, ◌%◌, ◌^◌, ◌≤◌, ◌<◌}
use native.Mathlib.Omega.{arith}
use borrow.Author.Tests.{lt-ltb}
use lib.Bits.{bit_and}
use lib.Dec.{ltb}
use Rattle.numbers.specs.Bytes.{at, tabulate}
use Rattle.numbers.specs.Tests.{only}
use Rattle.numbers.proofs.Bytes.{at-tabulate}
use Rattle.numbers.proofs.Shifts.{points-le}
use Rattle.expansions.specs.Costs.{counted}
use Rattle.shown_rows.specs.Rows.{coefficient_in, complemented_in}

-- the rows of the lines that are written for terms
unfoldable pub written_rows : ℕ → (w c : ℕ → ℕ) → List ℕ
written_rows n w c = tabulate 256 (λ t. only (ltb t (2 ^ n)) (counted (c t) (bit_and t (w t) * 256 + c t)))

module _ (n : ℕ) (w c : ℕ → ℕ) (few : n ≤ 8) (small : (t : ℕ) → t < 2 ^ n → c t < 256) where
  row_at : (t : ℕ) → t < 2 ^ n → at (written_rows n w c) t ≡ counted (c t) (bit_and t (w t) * 256 + c t)
  unfolding written_rows only
  row_at t h = at-tabulate 256 _ t (omega (arith, points-le n few)) ∙ rw (lt-ltb t (2 ^ n) h)

  -- the outputs of a row are the coefficient, and its complemented inputs those of the term's polarity where it is a product
  pub row-coefficient : (t : ℕ) → t < 2 ^ n → coefficient_in (written_rows n w c) t ≡ c t
  unfolding counted
  row-coefficient t h = ap (λ (x : ℕ). x % 256) (row_at t h) ∙ go (c t) (small t h) where
    go : (x : ℕ) → x < 256 → counted x (bit_and t (w t) * 256 + x) % 256 ≡ x
    go zero l = refl
    go (suc x) l = omega arith

  pub row-complemented : (t : ℕ) → t < 2 ^ n → complemented_in (written_rows n w c) t ≡ counted (c t) (bit_and t (w t))
  unfolding counted
  row-complemented t h = ap (λ (x : ℕ). x / 256) (row_at t h) ∙ go (c t) (small t h) where
    go : (x : ℕ) → x < 256 → counted x (bit_and t (w t) * 256 + x) / 256 ≡ counted x (bit_and t (w t))
    go zero l = refl
    go (suc x) l = omega arith
