-- What is listed for the numbers below N at which a function is not 0: it follows from the function and the lists below N
-- (`over_nonzero-ext`), and numbers at which the function is 0 add nothing (`over_nonzero-zero`). Where one thing is listed for each number, and
-- things of two numbers differ, the list tells at which numbers the function is not 0, and what is listed for them (`over_nonzero-same`).
use mathlib.Core.List.{List, [], ◌∷◌, ◌++◌, append_assoc, append-nil}
use mathlib.Core.List.Memᴰ
use mathlib.Core.List.{Memᴰ}
use mathlib.Core.Logic.{⊎_elim}
use mathlib.Core.Path.{◌≡◌, refl, sym, ap, ap₂, ◌∙◌, subst}
use Prim.Native.Nat.{ℕ, zero, suc, ◌≤◌, ◌<◌}
use native.Mathlib.Decide.{ℕ_discrete}
use native.Mathlib.Nat.{not-suc-le-zero}
use native.Mathlib.Omega.{arith}
use Rattle.numbers.specs.Nonzero.{if_nonzero, over_nonzero}

-- ---- one number

pub nonzero-none : {A : Type 0} (c : ℕ) (xs : List A) → c ≡ 0 → if_nonzero c xs ≡ []
unfolding if_nonzero
nonzero-none c xs e = rw e

pub nonzero-some : {A : Type 0} (c : ℕ) (xs : List A) → (c ≡ 0 → ⊥) → if_nonzero c xs ≡ xs
unfolding if_nonzero
nonzero-some zero xs h = absurd (h refl)
nonzero-some (suc c) xs h = refl

pub nonzero-ext : {A : Type 0} (c : ℕ) (xs ys : List A) → ((c ≡ 0 → ⊥) → xs ≡ ys) → if_nonzero c xs ≡ if_nonzero c ys
unfolding if_nonzero
nonzero-ext zero xs ys h = refl
nonzero-ext (suc c) xs ys h = h (omega arith)

-- two numbers that are 0 together ask for the same
pub nonzero-same : {A : Type 0} (c d : ℕ) (xs : List A) → (c ≡ 0 → d ≡ 0) → (d ≡ 0 → c ≡ 0) → if_nonzero c xs ≡ if_nonzero d xs
unfolding if_nonzero
nonzero-same zero zero xs f g = refl
nonzero-same zero (suc d) xs f g = absurd (omega (arith, f refl))
nonzero-same (suc c) zero xs f g = absurd (omega (arith, g refl))
nonzero-same (suc c) (suc d) xs f g = refl

-- ---- the numbers below N

pub over_nonzero-more : {A : Type 0} (g : ℕ → List A) (c : ℕ → ℕ) (N : ℕ) (s : List A)
    → over_nonzero g c (suc N) ++ s ≡ over_nonzero g c N ++ (if_nonzero (c N) (g N) ++ s)
unfolding over_nonzero
over_nonzero-more g c N s = append_assoc (over_nonzero g c N) (if_nonzero (c N) (g N)) s

-- the lists are asked for only where the function is not 0
pub over_nonzero-ext : {A : Type 0} (g h : ℕ → List A) (c d : ℕ → ℕ) (N : ℕ) → ((t : ℕ) → t < N → if_nonzero (c t) (g t) ≡ if_nonzero (d t) (h t))
    → over_nonzero g c N ≡ over_nonzero h d N
unfolding over_nonzero
over_nonzero-ext g h c d zero e = refl
over_nonzero-ext g h c d (suc N) e = ap₂ ◌++◌ (over_nonzero-ext g h c d N (λ t l. e t (omega arith))) (e N (omega arith))

pub over_nonzero-zero : {A : Type 0} (g : ℕ → List A) (c : ℕ → ℕ) (t N : ℕ) → ((u : ℕ) → t ≤ u → c u ≡ 0) → t ≤ N → over_nonzero g c N ≡ over_nonzero g c t
unfolding over_nonzero
over_nonzero-zero g c t zero z h = let e : t ≡ 0 = omega arith in rw e
over_nonzero-zero g c t (suc N) z h = go (ℕ_discrete t (suc N)) (over_nonzero-zero g c t N z) where
  go : Dec (t ≡ suc N) → (t ≤ N → over_nonzero g c N ≡ over_nonzero g c t) → over_nonzero g c (suc N) ≡ over_nonzero g c t
  go (yes e) ih = rw e
  go (no e) ih =
      let l : t ≤ N = omega arith in
      ap₂ ◌++◌ (ih l) (nonzero-none (c N) (g N) (z N l)) ∙ append-nil (over_nonzero g c t)

-- ---- one thing for each number

module _ {A : Type 0} (g : ℕ → A) (c : ℕ → ℕ) where
  abbrev listed : ℕ → List A
  listed N = over_nonzero (λ t. g t ∷ []) c N

  listed-from : (N t : ℕ) → t < N → (c t ≡ 0 → ⊥) → Memᴰ (g t) (listed N)
  unfolding over_nonzero
  listed-from zero t h u = absurd (not-suc-le-zero h)
  listed-from (suc N) t h u = go (ℕ_discrete t N) (λ l. listed-from N t l u) where
    go : Dec (t ≡ N) → (t < N → Memᴰ (g t) (listed N)) → Memᴰ (g t) (listed N ++ if_nonzero (c N) (g N ∷ []))
    go (yes e) ih =
        Memᴰ.append_right (listed N)
        (subst (λ (x : ℕ). Memᴰ (g t) (if_nonzero (c x) (g x ∷ []))) e (rw (nonzero-some (c t) (g t ∷ []) u) (Memᴰ.head refl)))
    go (no e) ih = Memᴰ.append_left (if_nonzero (c N) (g N ∷ [])) (ih (omega arith))

  nonzero-to : (x : ℕ) (a b : A) → Memᴰ b (if_nonzero x (a ∷ [])) → (x ≡ 0 → ⊥) × (b ≡ a)
  unfolding if_nonzero
  nonzero-to zero a b m = absurd (Memᴰ.not-nil m)
  nonzero-to (suc x) a b m = (omega arith, Memᴰ.eq_of_singleton m)

  listed-to : (N : ℕ) (b : A) → Memᴰ b (listed N) → (t : ℕ) × (t < N) × (c t ≡ 0 → ⊥) × (b ≡ g t)
  unfolding over_nonzero
  listed-to zero b m = absurd (Memᴰ.not-nil m)
  listed-to (suc N) b m =
      ⊎_elim (λ early. later (listed-to N b early)) (λ late. last (nonzero-to (c N) (g N) b late)) (Memᴰ.append_cases (listed N) m)
    where
      later : ((t : ℕ) × (t < N) × (c t ≡ 0 → ⊥) × (b ≡ g t)) → (t : ℕ) × (t < suc N) × (c t ≡ 0 → ⊥) × (b ≡ g t)
      later p = (p.0, omega arith, p.2, p.3)

      last : ((c N ≡ 0 → ⊥) × (b ≡ g N)) → (t : ℕ) × (t < suc N) × (c t ≡ 0 → ⊥) × (b ≡ g t)
      last p = (N, omega arith, p.0, p.1)

module _ {A : Type 0} (g h : ℕ → A) (c d : ℕ → ℕ) (N : ℕ) (apart : (s t : ℕ) → s < N → t < N → g s ≡ h t → s ≡ t)
    (e : over_nonzero (λ t. g t ∷ []) c N ≡ over_nonzero (λ t. h t ∷ []) d N) where
  pub over_nonzero-same : (t : ℕ) → t < N → (c t ≡ 0 → ⊥) → (d t ≡ 0 → ⊥) × (g t ≡ h t)
  over_nonzero-same t l u =
      let found = listed-to h d N (g t) (subst (Memᴰ (g t)) e (listed-from g c N t l u)) in
      let same : t ≡ found.0 = apart t found.0 l found.1 found.3 in
      ((λ z. found.2 (ap d (sym same) ∙ z)), found.3 ∙ ap h (sym same))
