-- The coefficients under a polarity with one input turned over are a half step of those before (`coefficient-turned`), and so on for all the
-- inputs in which two polarities differ (`coefficient-changed`). All the steps of the transform are the exclusive OR over the numbers inside
-- each (`steps-inside`).
use mathlib.Core.Path.{◌≡◌, sym, ap, ap₂, ◌∙◌, fun_ext}
use Prim.Native.Nat.{ℕ, zero, suc, ◌+◌, ◌*◌, ◌/◌, ◌%◌, ◌^◌, ◌≤◌, ◌<◌}
use native.Mathlib.Nat.{add-zero, zero-mul, one-mul, mod-one, div-add-mod'}
use native.Mathlib.Omega.{arith}
use lib.Arith.{lt-one}
use lib.Bits.{bit_xor, xor_comm, xor_zero_r}
use Rattle.numbers.specs.Bits.{bit}
use Rattle.numbers.proofs.Bits.{bit-zero, bit-lt}
use Rattle.numbers.proofs.Flips.{flip_up, flip-lowest, mod-bit, xor-around}
use Rattle.numbers.proofs.Xor.{low-lt, xor_assoc, xor-cancel-l}
use Rattle.algebra.specs.Coefficients.{xor_inside, coefficient}
use Rattle.algebra.specs.Transform.{lane}
use Rattle.algebra.specs.Inner.Steps.{half_step, turned_where, all_steps}
use Rattle.algebra.proofs.Inside.{inside-none, inside-even, inside-odd, inside-ext, inside-xor, evens, odds}
use Rattle.algebra.proofs.HalfSteps.{half_up, half-lowest, half-moved, steps-lane, steps_first}

-- ---- the exclusive OR inside 2 q + b

even-zero : (n : ℕ) (g : ℕ → ℕ) (q : ℕ) → xor_inside (suc n) g (q * 2 + 0) ≡ xor_inside n (evens g) q
even-zero n g q = ap (xor_inside (suc n) g) (add-zero (q * 2)) ∙ inside-even n g q

inside-up : (n : ℕ) (g : ℕ → ℕ) (q b : ℕ) → b < 2 → xor_inside (suc n) g (q * 2 + b) ≡ xor_inside n (lane 1 (half_step 1 0 g) b) q
inside-up n g q zero h =
    even-zero n g q ∙ inside-ext n _ _ q (λ r l. ap g (sym (add-zero (r * 2))) ∙ sym (half-lowest 1 g r 0 (omega arith)))
inside-up n g q (suc zero) h =
    inside-odd n g q ∙ xor_comm (xor_inside n (evens g) q) (xor_inside n (odds g) q) ∙ sym (inside-xor n (odds g) (evens g) q)
    ∙ inside-ext n _ _ q (λ r l. ap (λ (x : ℕ). bit_xor (g (r * 2 + 1)) (g x)) (sym (add-zero (r * 2))) ∙ sym (half-lowest 1 g r 1 (omega arith)))
inside-up n g q (suc (suc b)) h = absurd (omega arith)

-- ---- all the steps

digits : (t : ℕ) → t / 2 * 2 + t % 2 ≡ t
digits t = div-add-mod' t 2

pub steps-inside : (n : ℕ) (g : ℕ → ℕ) (t : ℕ) → t < 2 ^ n → all_steps (half_step 1) n g t ≡ xor_inside n g t
unfolding all_steps
steps-inside zero g t h = ap g (lt-one h) ∙ sym (inside-none g t)
steps-inside (suc n) g t h =
    let b = t % 2 in
    let first = half_step 1 0 g in
    let up : all_steps (λ s. half_step 1 (suc s)) n first (t / 2 * 2 + b) ≡ all_steps (half_step 1) n (lane 1 first b) (t / 2) =
    steps-lane 1 (λ s. half_step 1 (suc s)) (half_step 1) b (λ s f q. half_up 1 s f q b (low-lt t)) n first (t / 2) in
    ap (λ (f : ℕ → ℕ). f t) (steps_first (half_step 1) n g) ∙ ap (all_steps (λ s. half_step 1 (suc s)) n first) (sym (digits t)) ∙ up
    ∙ steps-inside n (lane 1 first b) (t / 2) (omega arith) ∙ sym (inside-up n g (t / 2) b (low-lt t)) ∙ ap (xor_inside (suc n) g) (digits t)

-- ---- one bit of the points inverted

turned-lowest : (n : ℕ) (g : ℕ → ℕ) (r b : ℕ) → b < 2 → xor_inside (suc n) (λ q. g (bit_xor q 1)) (r * 2 + b) ≡ half_step 0 0 (xor_inside (suc n) g) (r * 2 + b)
turned-lowest n g r zero h =
    even-zero n (λ q. g (bit_xor q 1)) r
    ∙ inside-ext n _ (odds g) r (λ q l. ap (λ (x : ℕ). g (bit_xor x 1)) (sym (add-zero (q * 2))) ∙ ap g (flip-lowest q 0 (omega arith)))
    ∙ sym (xor-cancel-l (xor_inside n (evens g) r) (xor_inside n (odds g) r))
    ∙ sym (half-lowest 0 (xor_inside (suc n) g) r 0 (omega arith) ∙ ap₂ bit_xor (even-zero n g r) (inside-odd n g r))
turned-lowest n g r (suc zero) h =
    inside-odd n (λ q. g (bit_xor q 1)) r
    ∙ ap₂ bit_xor (inside-ext n _ (odds g) r (λ q l. ap (λ (x : ℕ). g (bit_xor x 1)) (sym (add-zero (q * 2))) ∙ ap g (flip-lowest q 0 (omega arith))))
    (inside-ext n _ (evens g) r (λ q l. ap g (flip-lowest q 1 (omega arith) ∙ add-zero (q * 2))))
    ∙ xor_comm (xor_inside n (odds g) r) (xor_inside n (evens g) r) ∙ sym (inside-odd n g r) ∙ sym (half-lowest 0 (xor_inside (suc n) g) r 1 (omega arith))
turned-lowest n g r (suc (suc b)) h = absurd (omega arith)

turned_up : (n s : ℕ) (g : ℕ → ℕ) (r b : ℕ) → b < 2
    → ((f : ℕ → ℕ) → xor_inside n (λ q. f (bit_xor q (2 ^ s))) r ≡ half_step 0 s (xor_inside n f) r)
    → xor_inside (suc n) (λ q. g (bit_xor q (2 ^ suc s))) (r * 2 + b) ≡ half_step 0 (suc s) (xor_inside (suc n) g) (r * 2 + b)
turned_up n s g r b h ih =
    let even : bit 0 (2 ^ suc s) ≡ 0 = bit-zero (2 ^ suc s) ∙ omega arith in
    inside-up n (λ q. g (bit_xor q (2 ^ suc s))) r b h
    ∙ inside-ext n _ (λ q. lane 1 (half_step 1 0 g) b (bit_xor q (2 ^ s))) r (λ q l. half-moved 1 0 (2 ^ suc s) g (q * 2 + b) even ∙ ap (half_step 1 0 g) (flip_up s q b h))
    ∙ ih (lane 1 (half_step 1 0 g) b) ∙ ap (λ (f : ℕ → ℕ). half_step 0 s f r) (fun_ext (λ x. sym (inside-up n g x b h)))
    ∙ sym (half_up 0 s (xor_inside (suc n) g) r b h)

pub inside-turned : (n s : ℕ) (g : ℕ → ℕ) (t : ℕ) → s < n → xor_inside n (λ q. g (bit_xor q (2 ^ s))) t ≡ half_step 0 s (xor_inside n g) t
inside-turned zero s g t h = absurd (omega arith)
inside-turned (suc n) zero g t h = let l = turned-lowest n g (t / 2) (t % 2) (low-lt t) in rw (digits t) at l
inside-turned (suc n) (suc s) g t h =
    let l = turned_up n s g (t / 2) (t % 2) (low-lt t) (λ f. inside-turned n s f (t / 2) (omega arith)) in
    rw (digits t) at l

-- ---- the coefficients

-- under w with the input s turned over: the ones under w, and each at a term without s joined with the one at the term with s added
pub coefficient-turned : (n w s : ℕ) (f : ℕ → ℕ) (t : ℕ) → s < n → coefficient n (bit_xor w (2 ^ s)) f t ≡ half_step 0 s (coefficient n w f) t
unfolding coefficient
coefficient-turned n w s f t h =
    inside-ext n _ _ t (λ q l. ap f (sym (xor_assoc q w (2 ^ s)) ∙ xor-around q w (2 ^ s))) ∙ inside-turned n s (λ q. f (bit_xor q w)) t h

turned-where : (n w s d : ℕ) (f : ℕ → ℕ) (t : ℕ) → s < n → d < 2 → turned_where d s (coefficient n w f) t ≡ coefficient n (bit_xor w (d * 2 ^ s)) f t
unfolding turned_where
turned-where n w s zero f t h l = ap (λ (x : ℕ). coefficient n x f t) (sym (ap (bit_xor w) (zero-mul (2 ^ s)) ∙ xor_zero_r w))
turned-where n w s (suc zero) f t h l = sym (coefficient-turned n w s f t h) ∙ ap (λ (x : ℕ). coefficient n (bit_xor w x) f t) (sym (one-mul (2 ^ s)))
turned-where n w s (suc (suc d)) f t h l = absurd (omega arith)

-- the inputs below k that are bits of x turned over
pub coefficient-changed : (n v x k : ℕ) (f : ℕ → ℕ) (t : ℕ) → k ≤ n → all_steps (λ s. turned_where (bit s x) s) k (coefficient n v f) t ≡ coefficient n (bit_xor v (x % 2 ^ k)) f t
unfolding all_steps
coefficient-changed n v x zero f t h = ap (λ (y : ℕ). coefficient n y f t) (sym (ap (bit_xor v) (mod-one x) ∙ xor_zero_r v))
coefficient-changed n v x (suc k) f t h =
    ap (λ (c : ℕ → ℕ). turned_where (bit k x) k c t) (fun_ext (λ u. coefficient-changed n v x k f u (omega arith)))
    ∙ turned-where n (bit_xor v (x % 2 ^ k)) k (bit k x) f t h (bit-lt k x)
    ∙ ap (λ (y : ℕ). coefficient n y f t) (xor_assoc v (x % 2 ^ k) (bit k x * 2 ^ k) ∙ ap (bit_xor v) (mod-bit k x))
