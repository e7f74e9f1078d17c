-- Scores lowered: one kind at a time (`lowered-one`), three lots of kinds one after the other (`lowered-three`), and all the kinds together,
-- of which the lowest score is the answer's (`lowered-answer`).
use mathlib.Core.Path.{◌≡◌, refl, sym, ap, ◌∙◌, subst}
use mathlib.Core.Bool.{true}
use mathlib.Core.Logic.{◌⊎◌, inl, inr}
use Prim.Native.Nat.{ℕ, ◌+◌, ◌*◌, ◌/◌, ◌%◌, ◌^◌, ◌≤◌, ◌<◌}
use native.Mathlib.Nat.{mod-one, pow-le-pow_right}
use native.Mathlib.Omega.{arith}
use lib.Arith.{digits_div, digits_mod}
use lib.Dec.{lit<}
use lib.Pow.{pow_mono}
use Rattle.expansions.proofs.Costs.{products-le}
use Rattle.expansions.proofs.Least.{then-le, then-from, then_map, then-digits, IsFirst, first-unique}
use Rattle.expansions.specs.Kronecker.Letters.{letters_of}
use Rattle.expansions.specs.Kronecker.Steps.{kronecker_coefficient}
use Rattle.expansions.specs.Inner.KroneckerAnswer.{kind_charge, answer_kind}
use Rattle.expansions.specs.Inner.KroneckerWalk.{score, Among, Lowered}
use Rattle.expansions.proofs.Kronecker.Letters.{three-pos}
use Rattle.expansions.proofs.Kronecker.Costs.{kronecker-charge-parts, kronecker-literals-lt}
use Rattle.expansions.proofs.Kronecker.Answers.{answer-first}

-- ---- composition

pub lowered-one : (score : ℕ → ℕ) (y best s r : ℕ) → s ≡ score y → (r ≤ best) × (r ≤ s) × ((r ≡ best) ⊎ (r ≡ s)) → Lowered score (λ x. x ≡ y) best r
lowered-one score y best s r e h =
    record { kept = h.0; least = λ x k. rw (k, ← e) h.1; reached = go h.2 }
  where
    go : (r ≡ best) ⊎ (r ≡ s) → (r ≡ best) ⊎ ((x : ℕ) × (x ≡ y) × (r ≡ score x))
    go (inl k) = inl k
    go (inr k) = inr (y, refl, k ∙ e)

module _ (score : ℕ → ℕ) (A B C D : ℕ → Type 0) (p q r s : ℕ) (a : Lowered score A p q) (b : Lowered score B q r) (c : Lowered score C r s)
    (parts : (x : ℕ) → D x → A x ⊎ (B x ⊎ C x)) (fromA : (x : ℕ) → A x → D x) (fromB : (x : ℕ) → B x → D x) (fromC : (x : ℕ) → C x → D x) where
  least-all : (x : ℕ) → A x ⊎ (B x ⊎ C x) → s ≤ score x
  least-all x (inl k) = omega (arith, a.least x k, b.kept, c.kept)
  least-all x (inr (inl k)) = omega (arith, b.least x k, c.kept)
  least-all x (inr (inr k)) = c.least x k

  Found : ℕ → Type 0
  Found v = (v ≡ p) ⊎ ((x : ℕ) × D x × (v ≡ score x))

  found-a : (q ≡ p) ⊎ ((x : ℕ) × A x × (q ≡ score x)) → Found q
  unfolding Found
  found-a (inl e) = inl e
  found-a (inr w) = inr (w.0, fromA w.0 w.1, w.2)

  found-b : (r ≡ q) ⊎ ((x : ℕ) × B x × (r ≡ score x)) → Found r
  unfolding Found
  found-b (inl e) = subst Found (sym e) (found-a a.reached)
  found-b (inr w) = inr (w.0, fromB w.0 w.1, w.2)

  found-c : (s ≡ r) ⊎ ((x : ℕ) × C x × (s ≡ score x)) → Found s
  unfolding Found
  found-c (inl e) = subst Found (sym e) (found-b b.reached)
  found-c (inr w) = inr (w.0, fromC w.0 w.1, w.2)

  pub lowered-three : Lowered score D p s
  unfolding Found
  lowered-three = record { kept = omega (arith, a.kept, b.kept, c.kept); least = λ x k. least-all x (parts x k); reached = found-c c.reached }

-- ---- the lowest score of all is the answer's

-- what a search starts from: above every score
pub top-score : (n : ℕ) (f : ℕ → ℕ) → n ≤ 8 → (x : ℕ) → x < 3 ^ n → (kind_charge n f x < 4194304) × (x < 8192)
unfolding kind_charge
top-score n f h x l =
    let c : ℕ → ℕ = kronecker_coefficient n (letters_of x) f in (
      omega (arith, kronecker-charge-parts n (letters_of x) c, kronecker-literals-lt n (letters_of x) c h, products-le n c, pow_mono h),
      (let k : 3 ^ n ≤ 3 ^ 8 = pow-le-pow_right (lit< tt) h in omega arith),
    )

module _ (n : ℕ) (f : ℕ → ℕ) (h : n ≤ 8) where
  lowest-first : (x : ℕ) → x < 3 ^ n → ((y : ℕ) → y < 3 ^ n → score n f x ≤ score n f y) → IsFirst (3 ^ n) (λ y. true) (kind_charge n f) x
  unfolding score
  lowest-first x l least =
      record {
        below = l;
        fits = tt;
        first = λ y k t.
            then_map _ _ (then-le x y)
            (then-digits {P = Unit} 8192 (kind_charge n f x) x (kind_charge n f y) y (top-score n f h x l).1 (top-score n f h y k).1
            (then-from _ _ (least y k) (λ e. tt)));
      }

  pub lowered-answer : (top r : ℕ) → 34368126976 ≤ top → Lowered (score n f) (Among n 0 0) top r
      → (r / 8192 ≡ kind_charge n f (answer_kind n f)) × (r % 8192 ≡ answer_kind n f)
  unfolding score
  lowered-answer top r big w = go w.reached
    where
      all : (y : ℕ) → y < 3 ^ n → Among n 0 0 y
      all y l = (l, mod-one y)

      zeroth : r < top
      zeroth = omega (arith, w.least 0 (all 0 (three-pos n)), (top-score n f h 0 (three-pos n)).0)

      at : (x : ℕ) → x < 3 ^ n → r ≡ kind_charge n f x * 8192 + x → x ≡ answer_kind n f
          → (r / 8192 ≡ kind_charge n f (answer_kind n f)) × (r % 8192 ≡ answer_kind n f)
      at x l e k =
          let d : r / 8192 ≡ kind_charge n f x = ap (λ (y : ℕ). y / 8192) e ∙ digits_div (kind_charge n f x) (top-score n f h x l).1 in
          let m : r % 8192 ≡ x = ap (λ (y : ℕ). y % 8192) e ∙ digits_mod (kind_charge n f x) (top-score n f h x l).1 in
          (d ∙ ap (kind_charge n f) k, m ∙ k)

      go : (r ≡ top) ⊎ ((x : ℕ) × Among n 0 0 x × (r ≡ score n f x)) → (r / 8192 ≡ kind_charge n f (answer_kind n f)) × (r % 8192 ≡ answer_kind n f)
      go (inl e) = absurd (omega (arith, zeroth))
      go (inr v) =
          at v.0 v.1.0 v.2
          (first-unique (3 ^ n) (λ y. true) (kind_charge n f) v.0 (answer_kind n f)
          (lowest-first v.0 v.1.0 (λ y k. rw (← v.2) (w.least y (all y k)))) (answer-first n f))
