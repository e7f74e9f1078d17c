-- Laws of xor_inside, the exclusive OR over the numbers inside a number: by the lowest bit and the rest (`inside-even`, `inside-odd`), and
-- its own inverse (`inside-twice`). The rest follows from these.
use mathlib.Core.Path.{◌≡◌, refl, sym, ap, ap₂, ◌∙◌}
use mathlib.Core.Bool.{Bool}
use Prim.Native.Nat.{ℕ, zero, suc, ◌+◌, ◌*◌, ◌/◌, ◌%◌, ◌^◌, ◌≤◌, ◌<◌}
use native.Mathlib.Nat.{add-zero, zero-add, suc-add, mod-one}
use native.Mathlib.Omega.{arith}
use lib.Arith.{lt-one, digits_div}
use lib.Bits.{bit_xor, xor_self, xor_zero_r}
use Rattle.numbers.specs.Sums.{fold_below}
use Rattle.numbers.specs.Bits.{inside}
use Rattle.numbers.specs.Tests.{only}
use Rattle.algebra.specs.Coefficients.{xor_inside}
use Rattle.numbers.proofs.Xor.{low-lt, xor-cancel-l}
use Rattle.numbers.proofs.Bits.{mod-digits, covered, inside-digits}
use Rattle.numbers.proofs.Sums.{fold-ext, fold-map, fold-closed, xor-op, xor-split, below_split}
use Rattle.numbers.proofs.Tests.{only-map, only-closed, only-xor}

-- a function at the even numbers, and at the odd ones
abbrev pub evens : (ℕ → ℕ) → ℕ → ℕ
evens g r = g (r * 2)

abbrev pub odds : (ℕ → ℕ) → ℕ → ℕ
odds g r = g (r * 2 + 1)

-- ---- by the lowest bit and the rest

pub inside-none : (g : ℕ → ℕ) (t : ℕ) → xor_inside 0 g t ≡ g 0
unfolding xor_inside fold_below only inside
inside-none g t = refl

-- whether 2 r, and 2 r + 1, lie inside 2 s + b
test-even : (r s b : ℕ) → b < 2 → inside (r * 2) (s * 2 + b) ≡ inside r s
unfolding covered
test-even r s b h = ap (λ (x : ℕ). inside x (s * 2 + b)) (sym (add-zero (r * 2))) ∙ inside-digits r 0 (s * 2 + b) (omega arith) ∙ rw (digits_div s h)

test-odd-even : (r s c : ℕ) → only (inside (r * 2 + 1) (s * 2 + 0)) c ≡ 0
unfolding covered only
test-odd-even r s c =
    let e : (s * 2 + 0) % 2 ≡ 0 = omega arith in
    ap (λ (b : Bool). only b c) (inside-digits r 1 (s * 2 + 0) (omega arith)) ∙ rw e

test-odd-odd : (r s : ℕ) → inside (r * 2 + 1) (s * 2 + 1) ≡ inside r s
unfolding covered
test-odd-odd r s =
    let e : (s * 2 + 1) % 2 ≡ 1 = omega arith in
    let d : (s * 2 + 1) / 2 ≡ s = omega arith in
    inside-digits r 1 (s * 2 + 1) (omega arith) ∙ rw (e, d)

-- inside an even number lie even numbers only
pub inside-even : (n : ℕ) (g : ℕ → ℕ) (s : ℕ) → xor_inside (suc n) g (s * 2) ≡ xor_inside n (evens g) s
unfolding xor_inside
inside-even n g s =
    let e : s * 2 ≡ s * 2 + 0 = omega arith in
    rw e (xor-split n _ ∙ sym (xor-op (2 ^ n) _ _)
    ∙ fold-ext bit_xor (2 ^ n) _ _ (λ r l.
    let even = ap (λ (b : Bool). only b (g (r * 2))) (test-even r s 0 (omega arith)) in
    ap₂ bit_xor even (test-odd-even r s (g (r * 2 + 1))) ∙ xor_zero_r (only (inside r s) (g (r * 2)))))

pub inside-odd : (n : ℕ) (g : ℕ → ℕ) (s : ℕ) → xor_inside (suc n) g (s * 2 + 1) ≡ bit_xor (xor_inside n (evens g) s) (xor_inside n (odds g) s)
unfolding xor_inside
inside-odd n g s =
    xor-split n _
    ∙ ap₂ bit_xor (fold-ext bit_xor (2 ^ n) _ _ (λ r l. ap (λ (b : Bool). only b (g (r * 2))) (test-even r s 1 (omega arith))))
    (fold-ext bit_xor (2 ^ n) _ _ (λ r l. ap (λ (b : Bool). only b (g (r * 2 + 1))) (test-odd-odd r s)))

-- ---- as a sum

-- only the numbers below 2 ^ n count
pub inside-ext : (n : ℕ) (g h : ℕ → ℕ) (t : ℕ) → ((q : ℕ) → q < 2 ^ n → g q ≡ h q) → xor_inside n g t ≡ xor_inside n h t
unfolding xor_inside
inside-ext n g h t e = fold-ext bit_xor (2 ^ n) _ _ (λ q l. ap (only (inside q t)) (e q l))

pub inside-xor : (n : ℕ) (g h : ℕ → ℕ) (t : ℕ) → xor_inside n (λ q. bit_xor (g q) (h q)) t ≡ bit_xor (xor_inside n g t) (xor_inside n h t)
unfolding xor_inside
inside-xor n g h t = simp only-xor (xor-op (2 ^ n) _ _)

-- a map that passes through exclusive OR, and keeps 0
pub inside-map : (h : ℕ → ℕ) → h 0 ≡ 0 → ((a b : ℕ) → h (bit_xor a b) ≡ bit_xor (h a) (h b))
    → (n : ℕ) (g : ℕ → ℕ) (t : ℕ) → h (xor_inside n g t) ≡ xor_inside n (λ q. h (g q)) t
unfolding xor_inside
inside-map h z x n g t = fold-map bit_xor h z x (2 ^ n) _ ∙ fold-ext bit_xor (2 ^ n) _ _ (λ q l. only-map h z (inside q t) (g q))

-- what exclusive OR keeps
pub inside-closed : (P : ℕ → Type 0) → P 0 → ((a b : ℕ) → P a → P b → P (bit_xor a b))
    → (n : ℕ) (g : ℕ → ℕ) (t : ℕ) → ((q : ℕ) → q < 2 ^ n → P (g q)) → P (xor_inside n g t)
unfolding xor_inside
inside-closed P z k n g t h = fold-closed bit_xor P z k (2 ^ n) _ (λ q l. only-closed P z (inside q t) (g q) (h q l))

-- ---- its own inverse

pub inside-twice : (n : ℕ) (g : ℕ → ℕ) (t : ℕ) → t < 2 ^ n → xor_inside n (xor_inside n g) t ≡ g t
inside-twice zero g = λ t h. inside-none (xor_inside 0 g) t ∙ inside-none g 0 ∙ ap g (sym (lt-one h))
inside-twice (suc n) g =
    let even : (s : ℕ) → s < 2 ^ n → xor_inside n (xor_inside n (evens g)) s ≡ g (s * 2) = inside-twice n (evens g) in
    let odd : (s : ℕ) → s < 2 ^ n → xor_inside n (xor_inside n (odds g)) s ≡ g (s * 2 + 1) = inside-twice n (odds g) in
    below_split n (λ t. xor_inside (suc n) (xor_inside (suc n) g) t ≡ g t)
    (λ s l. inside-even n (xor_inside (suc n) g) s ∙ inside-ext n _ _ s (λ r k. inside-even n g r) ∙ even s l)
    (λ s l.
    inside-odd n (xor_inside (suc n) g) s
    ∙ ap₂ bit_xor (inside-ext n _ _ s (λ r k. inside-even n g r))
    (inside-ext n _ _ s (λ r k. inside-odd n g r) ∙ inside-xor n (xor_inside n (evens g)) (xor_inside n (odds g)) s)
    ∙ xor-cancel-l (xor_inside n (xor_inside n (evens g)) s) (xor_inside n (xor_inside n (odds g)) s) ∙ odd s l)

-- ---- bits that do not matter

-- below 2 ^ k no number of 2 ^ k or more lies inside
pub inside-smaller : (k m : ℕ) (g : ℕ → ℕ) (t : ℕ) → t < 2 ^ k → xor_inside (k + m) g t ≡ xor_inside k g t
inside-smaller zero zero g = λ t h. refl
inside-smaller zero (suc m) g =
    let low : xor_inside m (evens g) 0 ≡ xor_inside 0 (evens g) 0 = ap (λ (n : ℕ). xor_inside n (evens g) 0) (sym (zero-add m)) ∙ inside-smaller zero m (evens g) 0 (omega arith) in
    λ t h. rw (lt-one h, zero-add) (inside-even m g 0 ∙ low ∙ inside-none (evens g) 0 ∙ sym (inside-none g 0))
inside-smaller (suc k) m g =
    let even = inside-smaller k m (evens g) in
    let odd = inside-smaller k m (odds g) in
    below_split k (λ t. xor_inside (suc k + m) g t ≡ xor_inside (suc k) g t)
    (λ s l. rw suc-add (inside-even (k + m) g s ∙ even s l ∙ sym (inside-even k g s)))
    (λ s l. rw suc-add (inside-odd (k + m) g s ∙ ap₂ bit_xor (even s l) (odd s l) ∙ sym (inside-odd k g s)))

-- nothing at the even numbers, nothing at the odd ones: nothing
inside_both : (n : ℕ) (g : ℕ → ℕ) (t : ℕ) → xor_inside n (evens g) (t / 2) ≡ 0 → xor_inside n (odds g) (t / 2) ≡ 0 → xor_inside (suc n) g t ≡ 0
inside_both n g t a b = go (t % 2) (low-lt t) (omega arith)
  where
    go : (d : ℕ) → d < 2 → t ≡ t / 2 * 2 + d → xor_inside (suc n) g t ≡ 0
    go zero h e = ap (xor_inside (suc n) g) (e ∙ add-zero (t / 2 * 2)) ∙ inside-even n g (t / 2) ∙ a
    go (suc zero) h e = ap (xor_inside (suc n) g) e ∙ inside-odd n g (t / 2) ∙ ap₂ bit_xor a b
    go (suc (suc d)) h e = absurd (omega arith)

-- ---- a function of the k lowest bits

mod-even : (k r : ℕ) → r * 2 % 2 ^ suc k ≡ r % 2 ^ k * 2
mod-even k r = ap (λ (x : ℕ). x % 2 ^ suc k) (sym (add-zero (r * 2))) ∙ mod-digits k r 0 (omega arith) ∙ add-zero (r % 2 ^ k * 2)

constant : (m x t : ℕ) → 0 < t → t < 2 ^ m → xor_inside m (λ q. x) t ≡ 0
constant zero x t l h = absurd (omega arith)
constant (suc m) x t l h = go (λ p. constant m x (t / 2) p (omega arith)) (t % 2) (low-lt t) (omega arith)
  where
    go : (0 < t / 2 → xor_inside m (λ q. x) (t / 2) ≡ 0) → (d : ℕ) → d < 2 → t ≡ t / 2 * 2 + d → xor_inside (suc m) (λ q. x) t ≡ 0
    go ih zero k e = ap (xor_inside (suc m) (λ q. x)) (e ∙ add-zero (t / 2 * 2)) ∙ inside-even m (λ q. x) (t / 2) ∙ ih (omega arith)
    go ih (suc zero) k e = ap (xor_inside (suc m) (λ q. x)) e ∙ inside-odd m (λ q. x) (t / 2) ∙ xor_self (xor_inside m (λ q. x) (t / 2))
    go ih (suc (suc d)) k e = absurd (omega arith)

-- has nothing at a number with a higher bit
pub inside-missing : (k m : ℕ) (g : ℕ → ℕ) (t : ℕ) → 2 ^ k ≤ t → t < 2 ^ (k + m) → xor_inside (k + m) (λ q. g (q % 2 ^ k)) t ≡ 0
inside-missing zero m g t l h =
    let h' : t < 2 ^ m = rw zero-add at h in
    rw (zero-add m) (simp mod-one (constant m (g 0) t l h'))
inside-missing (suc k) m g t l h =
    let h' : t < 2 ^ suc (k + m) = rw suc-add at h in
    rw suc-add
    (inside_both (k + m) (λ q. g (q % 2 ^ suc k)) t
    (inside-ext (k + m) _ _ (t / 2) (λ r k'. ap g (mod-even k r)) ∙ inside-missing k m (evens g) (t / 2) (omega arith) (omega arith))
    (inside-ext (k + m) _ _ (t / 2) (λ r k'. ap g (mod-digits k r 1 (omega arith))) ∙ inside-missing k m (odds g) (t / 2) (omega arith) (omega arith)))
