-- first_least finds the first index of least charge: no valid index comes before it, by its charge, then by itself (`first_least-is`), and
-- no other index is so (`first-unique`). Only the charges below the bound count (`first_least-ext`), and a loop over the indices holds the
-- best so far (`Leading`). Beside it, the laws of LeastThen: how such orders add, chain, and split into digits.
use mathlib.Core.Path.{◌≡◌, refl, sym, ap, ap₂, ◌∙◌, subst}
use mathlib.Core.Bool.{Bool, true, false, not}
use mathlib.Core.Logic.{◌⊎◌, inl, inr}
use Prim.Native.Nat.{ℕ, zero, suc, ◌+◌, ◌*◌, ◌≤◌, ◌<◌}
use native.Mathlib.Nat.{eq-or-lt_of_le, le_of_suc-le-suc, not-suc-le-zero}
use native.Mathlib.Omega.{arith}
use borrow.Author.Tests.{lt-ltb, le-ltb}
use lib.Arith.{digits_lt}
use lib.Dec.{T, ltb, ltb→lt, nltb→le}
use Rattle.numbers.specs.Sums.{fold_below, sum_below}
use Rattle.expansions.specs.Least.{LeastThen, Best, nothing, best, better, first_least, chosen}
use Rattle.expansions.specs.Inner.Leading.{Leading}

-- below N + 1: below N, or N
pub below-one-more : (N : ℕ) (P : ℕ → Type 0) → ((i : ℕ) → i < N → P i) → P N → (i : ℕ) → i < suc N → P i
below-one-more N P f p i h = go (eq-or-lt_of_le (le_of_suc-le-suc h))
  where
    go : (i ≡ N) ⊎ (i < N) → P i
    go (inl e) = subst P (sym e) p
    go (inr l) = f i l

-- ---- orders

pub then-le : {P : Type 0} (a b : ℕ) → LeastThen a b P → a ≤ b
then-le a b (inl h) = omega arith
then-le a b (inr h) = omega (arith, h.0)

-- where the first numbers are equal the rest decides
pub then-rest : {P : Type 0} (a b : ℕ) → a ≡ b → LeastThen a b P → P
then-rest a b e (inl h) = absurd (omega arith)
then-rest a b e (inr h) = h.1

pub then-from : {P : Type 0} (a b : ℕ) → a ≤ b → (a ≡ b → P) → LeastThen a b P
then-from {P} a b h rest = go (eq-or-lt_of_le h)
  where
    go : (a ≡ b) ⊎ (a < b) → LeastThen a b P
    go (inl e) = inr (e, rest e)
    go (inr l) = inl l

pub then_map : {P Q : Type 0} (a b : ℕ) → (P → Q) → LeastThen a b P → LeastThen a b Q
then_map a b f (inl h) = inl h
then_map a b f (inr h) = inr (h.0, f h.1)

-- where the first numbers are equal, the rest may use it
pub then-given : {P Q : Type 0} (a b : ℕ) → (a ≡ b → P → Q) → LeastThen a b P → LeastThen a b Q
then-given a b f (inl h) = inl h
then-given a b f (inr h) = inr (h.0, f h.0 h.1)

-- each way round: the first numbers are equal, and the rest holds each way round
pub then-antisym : {P Q : Type 0} (a b : ℕ) → LeastThen a b P → LeastThen b a Q → (a ≡ b) × P × Q
then-antisym a b (inl h) y = absurd (omega (arith, then-le b a y))
then-antisym a b (inr h) (inl l) = absurd (omega (arith, h.0))
then-antisym a b (inr h) (inr l) = (h.0, h.1, l.1)

then-trans : {P Q : Type 0} (a b c : ℕ) → LeastThen a b P → LeastThen b c Q → LeastThen a c (P × Q)
then-trans a b c (inl h) y = inl (omega (arith, then-le b c y))
then-trans a b c (inr h) (inl l) = inl (omega (arith, h.0))
then-trans a b c (inr h) (inr l) = inr (h.0 ∙ l.0, (h.1, l.1))

then-add : {P Q : Type 0} (a b c d : ℕ) → LeastThen a b P → LeastThen c d Q → LeastThen (a + c) (b + d) (P × Q)
then-add a b c d (inl h) y = inl (omega (arith, then-le c d y))
then-add a b c d (inr h) (inl l) = inl (omega (arith, h.0))
then-add a b c d (inr h) (inr l) = inr (omega (arith, h.0, l.0), (h.1, l.1))

-- by a number of two digits: by the high one, then by the low one
pub then-digits : {P : Type 0} (B p l p' l' : ℕ) → l < B → l' < B → LeastThen (p * B + l) (p' * B + l') P → LeastThen p p' (LeastThen l l' P)
then-digits {P} B p l p' l' h h' x = go (eq-or-lt_of_le high)
  where
    high : p ≤ p'
    high = let no : ¬ (p' < p) = λ k. omega (arith, then-le (p * B + l) (p' * B + l') x, digits_lt {c = B} k h') in omega arith

    low : p * B ≡ p' * B → LeastThen (p * B + l) (p' * B + l') P → LeastThen l l' P
    low e (inl k) = inl (omega arith)
    low e (inr k) = inr (omega (arith, k.0), k.1)

    go : (p ≡ p') ⊎ (p < p') → LeastThen p p' (LeastThen l l' P)
    go (inl e) = inr (e, low (ap (λ (y : ℕ). y * B) e) x)
    go (inr k) = inl k

-- The least sum is the sum of the least, and it is reached only where each part is least: what then decides in each part decides in all.
pub then-sum : (N : ℕ) (a b : ℕ → ℕ) (P : ℕ → Type 0) → ((j : ℕ) → j < N → LeastThen (a j) (b j) (P j))
    → LeastThen (sum_below N a) (sum_below N b) ((j : ℕ) → j < N → P j)
unfolding fold_below
then-sum zero a b P h = inr (refl, λ j l. absurd (not-suc-le-zero l))
then-sum (suc N) a b P h =
    then_map _ _ (λ d. below-one-more N P d.0 d.1)
    (then-add (sum_below N a) (sum_below N b) (a N) (b N) (then-sum N a b P (λ j l. h j (omega arith))) (h N (omega arith)))

-- Two choices, one after the other: x and y are charged a and b where the rest is least, and c is the charge of y with another rest.
pub then-chain : (P : ℕ → Type 0) (a b c x y : ℕ) → LeastThen a b (x ≤ y) → LeastThen b c (P y) → LeastThen a c (LeastThen x y (P x))
then-chain P a b c x y f g = then_map a c (λ d. then-from x y d.0 (λ e. subst P (sym e) d.1)) (then-trans a b c f g)

-- An order that goes through one in between: b costs no more than c, and as much only where u is v.
pub then-through : {P : Type 0} (a b c m u v : ℕ) → LeastThen a b (LeastThen m u P) → LeastThen b c (u ≡ v) → LeastThen a c (LeastThen m v P)
then-through {P} a b c m u v f g = then_map a c (λ d. subst (λ (w : ℕ). LeastThen m w P) d.1 d.0) (then-trans a b c f g)

-- ---- the first least index

-- b is the first of the valid indices below N that have the least charge
pub record IsFirst (N : ℕ) (valid : ℕ → Bool) (charge : ℕ → ℕ) (b : ℕ) : Type 0 where
  pub below : b < N
  pub fits : T (valid b)
  pub first : (i : ℕ) → i < N → T (valid i) → LeastThen (charge b) (charge i) (b ≤ i)

pub first-unique : (N : ℕ) (valid : ℕ → Bool) (charge : ℕ → ℕ) (a b : ℕ) → IsFirst N valid charge a → IsFirst N valid charge b → a ≡ b
first-unique N valid charge a b x y =
    let d = then-antisym (charge a) (charge b) (x.first b y.below y.fits) (y.first a x.below x.fits) in omega (arith, d.1, d.2)

-- the first one stays first by other charges that order the indices alike
pub first_alike : (N : ℕ) (valid : ℕ → Bool) (charge other : ℕ → ℕ) (b : ℕ)
    → ((i j : ℕ) → i < N → j < N → charge i < charge j → other i < other j)
    → ((i j : ℕ) → i < N → j < N → charge i ≡ charge j → other i ≡ other j)
    → IsFirst N valid charge b → IsFirst N valid other b
first_alike N valid charge other b less equal x =
    record { below = x.below; fits = x.fits; first = λ i l t. go i l (x.first i l t) }
  where
    go : (i : ℕ) → i < N → LeastThen (charge b) (charge i) (b ≤ i) → LeastThen (other b) (other i) (b ≤ i)
    go i l (inl h) = inl (less b i x.below l h)
    go i l (inr h) = inr (equal b i x.below l h.0, h.1)

-- a first one, or no valid index
abbrev pub Found : ℕ → (ℕ → Bool) → (ℕ → ℕ) → Best → Type 0
Found N valid charge nothing = (i : ℕ) → i < N → T (valid i) → ⊥
Found N valid charge (best b) = IsFirst N valid charge b

module _ (valid : ℕ → Bool) (charge : ℕ → ℕ) where
  -- one more index: it is not valid
  skip : (N : ℕ) (r : Best) → (T (valid N) → ⊥) → Found N valid charge r → Found (suc N) valid charge r
  skip N nothing z l = below-one-more N (λ i. T (valid i) → ⊥) l z
  skip N (best b) z l =
      record {
        below = omega arith;
        fits = l.fits;
        first = below-one-more N (λ i. T (valid i) → LeastThen (charge b) (charge i) (b ≤ i)) l.first (λ t. absurd (z t));
      }

  -- it is no cheaper
  keep : (N b : ℕ) → charge b ≤ charge N → IsFirst N valid charge b → IsFirst (suc N) valid charge b
  keep N b h l =
      record {
        below = omega arith;
        fits = l.fits;
        first = below-one-more N (λ i. T (valid i) → LeastThen (charge b) (charge i) (b ≤ i)) l.first
            (λ t. then-from (charge b) (charge N) h (λ e. omega (arith, l.below)));
      }

  -- it is cheaper than every valid one below it
  take : (N : ℕ) → T (valid N) → ((i : ℕ) → i < N → T (valid i) → charge N < charge i) → IsFirst (suc N) valid charge N
  take N v f =
      record {
        below = omega arith;
        fits = v;
        first = below-one-more N (λ i. T (valid i) → LeastThen (charge N) (charge i) (N ≤ i)) (λ i l t. inl (f i l t)) (λ t. inr (refl, omega arith));
      }

  better-is : (N : ℕ) (v : Bool) (r : Best) → v ≡ valid N → Found N valid charge r → Found (suc N) valid charge (better charge v r N)
  unfolding better
  better-is N false r e l = skip N r (λ t. subst T (sym e) t) l
  better-is N true nothing e l = take N (subst T e tt) (λ i h t. absurd (l i h t))
  better-is N true (best b) e l = go (ltb (charge N) (charge b)) refl
    where
      go : (q : Bool) → ltb (charge N) (charge b) ≡ q → Found (suc N) valid charge (elim q [ true ↦ best N | false ↦ best b ])
      go true c =
          take N (subst T e tt)
          (λ i h t. omega (arith, then-le (charge b) (charge i) (l.first i h t), ltb→lt (charge N) (charge b) (subst T (sym c) tt)))
      go false c = keep N b (nltb→le (charge N) (charge b) (subst (λ (x : Bool). T (not x)) (sym c) tt)) l

  pub first_least-is : (N : ℕ) → Found N valid charge (first_least N valid charge)
  unfolding first_least
  first_least-is zero = λ i h t. not-suc-le-zero h
  first_least-is (suc N) = better-is N (valid N) (first_least N valid charge) refl (first_least-is N)

  -- where some index is valid, the chosen one is the first
  pub chosen_is : (N i : ℕ) → i < N → T (valid i) → IsFirst N valid charge (chosen (first_least N valid charge))
  unfolding chosen
  chosen_is N i h t = go (first_least N valid charge) (first_least-is N)
    where
      go : (r : Best) → Found N valid charge r → IsFirst N valid charge (chosen r)
      go nothing l = absurd (l i h t)
      go (best b) l = l

-- ---- only the charges below N count

better-ext : (charge other : ℕ → ℕ) (v : Bool) (r : Best) (N : ℕ) → charge N ≡ other N → ((b : ℕ) → r ≡ best b → charge b ≡ other b)
    → better charge v r N ≡ better other v r N
unfolding better
better-ext charge other false r N e f = refl
better-ext charge other true nothing N e f = refl
better-ext charge other true (best b) N e f = ap₂ (λ (x y : ℕ). elim (ltb x y) [ true ↦ best N | false ↦ best b ]) e (f b refl)

pub first_least-ext : (N : ℕ) (valid : ℕ → Bool) (charge other : ℕ → ℕ) → ((i : ℕ) → i < N → charge i ≡ other i)
    → first_least N valid charge ≡ first_least N valid other
unfolding first_least
first_least-ext zero valid charge other e = refl
first_least-ext (suc N) valid charge other e =
    better-ext charge other (valid N) (first_least N valid charge) N (e N (omega arith)) (λ b l. e b (omega (arith, found b l)))
    ∙ ap (λ (r : Best). better other (valid N) r N) (first_least-ext N valid charge other (λ i h. e i (omega arith)))
  where
    found : (b : ℕ) → first_least N valid charge ≡ best b → b < N
    found b l = (subst (Found N valid charge) l (first_least-is valid charge N)).below

-- ---- a loop that holds the first least index so far, and its charge

module _ (top : ℕ) (valid : ℕ → Bool) (charge : ℕ → ℕ) (N c i : ℕ) (leading : Leading top charge (first_least N valid charge) c i) where
  -- one more index that is not valid
  pub leading-skip : valid N ≡ false → Leading top charge (first_least (suc N) valid charge) c i
  unfolding first_least better
  leading-skip v = rw v leading

  -- one more valid index, of the charge x: it is cheaper
  pub leading-take : (x : ℕ) → valid N ≡ true → x ≡ charge N → x < c → Leading top charge (first_least (suc N) valid charge) x N
  unfolding first_least better
  leading-take x v e h = rw v (go (first_least N valid charge) leading)
    where
      go : (r : Best) → Leading top charge r c i → Leading top charge (better charge true r N) x N
      go nothing l = (refl, e)
      go (best b) l = rw (lt-ltb (charge N) (charge b) (omega (arith, l.1)), better) (refl, e)

  -- it is no cheaper
  pub leading-keep : (x : ℕ) → valid N ≡ true → x ≡ charge N → x < top → c ≤ x → Leading top charge (first_least (suc N) valid charge) c i
  unfolding first_least better
  leading-keep x v e t h = rw v (go (first_least N valid charge) leading)
    where
      go : (r : Best) → Leading top charge r c i → Leading top charge (better charge true r N) c i
      go nothing l = absurd (omega arith)
      go (best b) l = rw (le-ltb (charge N) (charge b) (omega (arith, l.1)), better) l

  -- where some index is valid, it is the chosen one
  pub leading-chosen : (j : ℕ) → j < N → T (valid j) → (i ≡ chosen (first_least N valid charge)) × (c ≡ charge (chosen (first_least N valid charge)))
  unfolding chosen
  leading-chosen j h t = go (first_least N valid charge) (first_least-is valid charge N) leading
    where
      go : (r : Best) → Found N valid charge r → Leading top charge r c i → (i ≡ chosen r) × (c ≡ charge (chosen r))
      go nothing f l = absurd (f j h t)
      go (best b) f l = l
