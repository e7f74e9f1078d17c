-- Laws of fold_below. Those that need it are stated once for every associative, commutative operation with unit 0:
-- exclusive OR and addition are two.
use mathlib.Core.Path.{◌≡◌, refl, sym, ap, ap₂, ◌∙◌, subst}
use mathlib.Core.Bool.{Bool}
use Prim.Native.Nat.{ℕ, zero, suc, ◌+◌, ◌*◌, ◌/◌, ◌%◌, ◌^◌, ◌<◌}
use native.Mathlib.Nat.{pow-suc, add-zero}
use native.Mathlib.Omega.{arith}
use native.Mathlib.Numerals.{add-one}
use lib.Bits.{bit_xor, xor_comm, xor_zero_r}
use Rattle.numbers.specs.Sums.{fold_below, xor_below}
use Rattle.numbers.specs.Tests.{only}
use Rattle.numbers.proofs.Tests.{only-map}
use Rattle.numbers.proofs.Xor.{xor_assoc}

-- equal at each index
pub fold-ext : (op : ℕ → ℕ → ℕ) (N : ℕ) (g h : ℕ → ℕ) → ((i : ℕ) → i < N → g i ≡ h i) → fold_below op N g ≡ fold_below op N h
unfolding fold_below
fold-ext op zero g h e = refl
fold-ext op (suc N) g h e = ap₂ op (fold-ext op N g h (λ i l. e i (omega arith))) (e N (omega arith))

-- a map that passes through op, and keeps 0, passes through the whole
pub fold-map : (op : ℕ → ℕ → ℕ) (h : ℕ → ℕ) → h 0 ≡ 0 → ((a b : ℕ) → h (op a b) ≡ op (h a) (h b))
    → (N : ℕ) (g : ℕ → ℕ) → h (fold_below op N g) ≡ fold_below op N (λ i. h (g i))
unfolding fold_below
fold-map op h z e zero g = z
fold-map op h z e (suc N) g = e (fold_below op N g) (g N) ∙ ap (λ (x : ℕ). op x (h (g N))) (fold-map op h z e N g)

-- what holds of 0 and of every index's value, and is kept by op, holds of the whole
pub fold-closed : (op : ℕ → ℕ → ℕ) (P : ℕ → Type 0) → P 0 → ((a b : ℕ) → P a → P b → P (op a b))
    → (N : ℕ) (g : ℕ → ℕ) → ((i : ℕ) → i < N → P (g i)) → P (fold_below op N g)
unfolding fold_below
fold-closed op P z k zero g h = z
fold-closed op P z k (suc N) g h = k (fold_below op N g) (g N) (fold-closed op P z k N g (λ i l. h i (omega arith))) (h N (omega arith))

module _ (op : ℕ → ℕ → ℕ) (assoc : (a b c : ℕ) → op (op a b) c ≡ op a (op b c)) (comm : (a b : ℕ) → op a b ≡ op b a)
    (unit : (a : ℕ) → op a 0 ≡ a) where
  left_comm : (a b c : ℕ) → op a (op b c) ≡ op b (op a c)
  left_comm a b c = sym (assoc a b c) ∙ ap (λ (x : ℕ). op x c) (comm a b) ∙ assoc b a c

  pub op-swap : (a b c d : ℕ) → op (op a b) (op c d) ≡ op (op a c) (op b d)
  op-swap a b c d = simp (assoc, left_comm)

  pub fold-zero : (N : ℕ) → fold_below op N (λ i. 0) ≡ 0
  unfolding fold_below
  fold-zero zero = refl
  fold-zero (suc N) = unit (fold_below op N (λ i. 0)) ∙ fold-zero N

  pub fold-op : (N : ℕ) (g h : ℕ → ℕ) → fold_below op N (λ i. op (g i) (h i)) ≡ op (fold_below op N g) (fold_below op N h)
  unfolding fold_below
  fold-op zero g h = sym (unit 0)
  fold-op (suc N) g h = ap (λ (x : ℕ). op x (op (g N) (h N))) (fold-op N g h) ∙ op-swap (fold_below op N g) (fold_below op N h) (g N) (h N)

  -- twice as many: the even indices and the odd ones
  fold-double : (N : ℕ) (g : ℕ → ℕ) → fold_below op (N * 2) g ≡ op (fold_below op N (λ s. g (s * 2))) (fold_below op N (λ s. g (s * 2 + 1)))
  unfolding fold_below
  fold-double zero g = sym (unit 0)
  fold-double (suc N) g =
      let e : suc N * 2 ≡ suc (suc (N * 2)) = omega arith in
      rw (e, add-one (N * 2), fold-double N g, assoc) (op-swap _ _ _ _)

  pub fold-split : (n : ℕ) (g : ℕ → ℕ)
      → fold_below op (2 ^ suc n) g ≡ op (fold_below op (2 ^ n) (λ s. g (s * 2))) (fold_below op (2 ^ n) (λ s. g (s * 2 + 1)))
  fold-split n g = rw pow-suc (fold-double (2 ^ n) g)

-- ---- the exclusive OR

pub xor-swap : (a b c d : ℕ) → bit_xor (bit_xor a b) (bit_xor c d) ≡ bit_xor (bit_xor a c) (bit_xor b d)
xor-swap = op-swap bit_xor xor_assoc xor_comm xor_zero_r

pub xor-zero : (N : ℕ) → xor_below N (λ i. 0) ≡ 0
xor-zero = fold-zero bit_xor xor_assoc xor_comm xor_zero_r

pub xor-op : (N : ℕ) (g h : ℕ → ℕ) → xor_below N (λ i. bit_xor (g i) (h i)) ≡ bit_xor (xor_below N g) (xor_below N h)
xor-op = fold-op bit_xor xor_assoc xor_comm xor_zero_r

pub xor-split : (n : ℕ) (g : ℕ → ℕ) → xor_below (2 ^ suc n) g ≡ bit_xor (xor_below (2 ^ n) (λ s. g (s * 2))) (xor_below (2 ^ n) (λ s. g (s * 2 + 1)))
xor-split = fold-split bit_xor xor_assoc xor_comm xor_zero_r

-- a map that passes through the exclusive OR, as taking some of the bits, passes through that of the numbers that a test lets in
pub xor-only-map : (h : ℕ → ℕ) → h 0 ≡ 0 → ((a b : ℕ) → h (bit_xor a b) ≡ bit_xor (h a) (h b)) → (N : ℕ) (test : ℕ → Bool) (c : ℕ → ℕ)
    → h (xor_below N (λ i. only (test i) (c i))) ≡ xor_below N (λ i. only (test i) (h (c i)))
xor-only-map h z x N test c = fold-map bit_xor h z x N _ ∙ fold-ext bit_xor N _ _ (λ i l. only-map h z (test i) (c i))

-- ---- numbers below a bound

-- a number below 2 ^ (n + 1) is twice one below 2 ^ n, or one more
pub below_split : (n : ℕ) (P : ℕ → Type 0) → ((s : ℕ) → s < 2 ^ n → P (s * 2)) → ((s : ℕ) → s < 2 ^ n → P (s * 2 + 1)) → (t : ℕ) → t < 2 ^ suc n → P t
below_split n P even odd t h = go (t % 2) (omega arith) (omega arith)
  where
    go : (b : ℕ) → b < 2 → t ≡ t / 2 * 2 + b → P t
    go zero l e = rw e (subst P (sym (add-zero (t / 2 * 2))) (even (t / 2) (omega arith)))
    go (suc zero) l e = rw e (odd (t / 2) (omega arith))
    go (suc (suc b)) l e = absurd (omega arith)
