-- The laws of the classes: a block has a choice (`choices-some`), the polarities under it are over M (`place-over`), and with the coefficients of its places
-- a block gives its function (`place-gives`), with no bit that the function has not (`place-coefficient-lt`). All else is argued from these, for any class.
-- And the choices of two mixed inputs whose places choose apart, as numbers: they are ordered as the polarities of the places are, one place after the other
-- (`own_mono`, `own-order`).
use mathlib.Core.Path.{◌≡◌, refl, sym, subst}
use mathlib.Core.Bool.{Bool, true, false, cond}
use Prim.Native.Nat.{ℕ, zero, suc, ◌/◌, ◌^◌, ◌≤◌, ◌<◌}
use native.Mathlib.Nat.{div-div-eq-div-mul}
use native.Mathlib.Omega.{arith}
use borrow.Author.Tests.{eqb-true}
use lib.Bits.{bit_and}
use lib.Dec.{T, eqb, lit<, leb→le}
use lib.Pow.{pow_pos, pow_mono}
use Rattle.numbers.specs.Tests.{every}
use Rattle.numbers.proofs.Tests.{every-to}
use Rattle.algebra.specs.Terms.{value}
use Rattle.algebra.specs.Coefficients.{coefficient}
use Rattle.algebra.specs.Expand.{expand}
use Rattle.algebra.proofs.Coefficients.{value-coefficient, coefficient-lt}
use Rattle.algebra.proofs.Expand.{expand-gives, expand-lt}
use Rattle.expansions.specs.declared.kinds.Class.{Class}
use Rattle.expansions.specs.declared.kinds.Class.TheVariants.{Block, Free}
use Rattle.expansions.specs.Classes.{apart, most_mixed, own_polarity, choices, place_polarity, place_coefficient}

pub choices-some : (C : Class) (k : ℕ) → 0 < choices C k
choices-some C k = go (apart C k)
  where
    go : (b : Bool) → 0 < cond b 16 (2 ^ k)
    go true = lit< tt
    go false = pow_pos k

-- the terms of a block choose apart where two inputs are mixed
pub apart-two : (C : Class) (k : ℕ) → apart C k ≡ true → 2 ≤ k
apart-two Block k e = absurd (subst T (sym e) tt)
apart-two Free k e = leb→le 2 k (subst T (sym e) tt)

pub most-three : (C : Class) → most_mixed C ≤ 3
most-three Block = omega arith
most-three Free = omega arith

-- and no more are
pub apart-most : (C : Class) (k : ℕ) → k ≤ most_mixed C → apart C k ≡ true → k ≡ 2
apart-most Block k h e = absurd (subst T (sym e) tt)
apart-most Free k h e = omega (arith, leb→le 2 k (subst T (sym e) tt))

pub own-lt : (x s : ℕ) → x < 16 → own_polarity x s < 4
unfolding own_polarity
own-lt x zero h = lit< tt
own-lt x (suc zero) h = omega arith
own-lt x (suc (suc zero)) h = omega arith
own-lt x (suc (suc (suc s))) h = omega arith

pub place-over : (C : Class) (k x s : ℕ) → x < choices C k → place_polarity C k x s < 2 ^ k
place-over C k x s = go (apart C k) refl
  where
    go : (b : Bool) → apart C k ≡ b → x < cond b 16 (2 ^ k) → cond b (own_polarity x s) x < 2 ^ k
    go true e h = omega (arith, own-lt x s h, pow_mono (apart-two C k e))
    go false e h = h

pub place-gives : (C : Class) (k x : ℕ) (g : ℕ → ℕ) → x < choices C k → (p : ℕ) → p < 2 ^ k → value k (place_polarity C k x) (place_coefficient C k x g) p ≡ g p
place-gives C k x g = go (apart C k)
  where
    go : (b : Bool) → x < cond b 16 (2 ^ k)
        → (p : ℕ) → p < 2 ^ k → value k (λ s. cond b (own_polarity x s) x) (λ s. cond b (expand k (own_polarity x) g s) (coefficient k x g s)) p ≡ g p
    go true h = expand-gives k (own_polarity x) g
    go false h = value-coefficient k x g h

pub place-coefficient-lt : (m : ℕ) (C : Class) (k x : ℕ) (g : ℕ → ℕ) → x < choices C k → ((p : ℕ) → p < 2 ^ k → g p < 2 ^ m)
    → (s : ℕ) → s < 2 ^ k → place_coefficient C k x g s < 2 ^ m
place-coefficient-lt m C k x g = go (apart C k)
  where
    go : (b : Bool) → x < cond b 16 (2 ^ k) → ((p : ℕ) → p < 2 ^ k → g p < 2 ^ m)
        → (s : ℕ) → s < 2 ^ k → cond b (expand k (own_polarity x) g s) (coefficient k x g s) < 2 ^ m
    go true h outputs s l = expand-lt m k (own_polarity x) g outputs s l
    go false h outputs s l = coefficient-lt m k x g h outputs s

-- ---- the choices of two mixed inputs whose places choose apart

-- a place has the bits of its own inputs only
unfoldable in_place : (x s : ℕ) → Bool
in_place x s = eqb (bit_and s (own_polarity x s)) (own_polarity x s)

in-place-all : every 16 (λ x. every 4 (λ s. in_place x s)) ≡ true
unfolding every in_place own_polarity
in-place-all = refl

pub own-in-place : (x s : ℕ) → x < 16 → s < 4 → bit_and s (own_polarity x s) ≡ own_polarity x s
unfolding in_place
own-in-place x s hx hs =
    eqb-true (bit_and s (own_polarity x s)) (own_polarity x s) (every-to 4 (λ s. in_place x s) (every-to 16 (λ x. every 4 (λ s. in_place x s)) in-place-all x hx) s hs)

-- omega takes a division by 8 as two
eighth : (x : ℕ) → x / 4 / 2 ≡ x / 8
eighth x = div-div-eq-div-mul x 4 2

-- where no place has a greater polarity, the choice is no greater
pub own_mono : (x y : ℕ) → x < 16 → y < 16 → ((s : ℕ) → s < 4 → own_polarity x s ≤ own_polarity y s) → x ≤ y
unfolding own_polarity
own_mono x y hx hy e = omega (arith, eighth x, eighth y, e 1 (lit< tt), e 2 (lit< tt), e 3 (lit< tt))

-- a choice that is no greater has no greater polarity at the first place where they differ
pub own-order : (x y : ℕ) → x < 16 → y < 16 → x ≤ y
    → (s : ℕ) → s < 4 → ((r : ℕ) → r < s → own_polarity x r ≡ own_polarity y r) → own_polarity x s ≤ own_polarity y s
unfolding own_polarity
own-order x y hx hy o zero l e = omega arith
own-order x y hx hy o (suc zero) l e = omega (arith, eighth x, eighth y)
own-order x y hx hy o (suc (suc zero)) l e = omega (arith, eighth x, eighth y, e 1 (lit< tt))
own-order x y hx hy o (suc (suc (suc zero))) l e = omega (arith, eighth x, eighth y, e 1 (lit< tt), e 2 (lit< tt))
own-order x y hx hy o (suc (suc (suc (suc s)))) l e = absurd (omega arith)
