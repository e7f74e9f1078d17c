-- The coefficients of a table in a kind. They give the table (`kronecker-gives`) and are the only ones that do (`kronecker-coefficient-unique`).
-- They depend on the table's points alone (`kronecker-coefficient-ext`), and stay within the outputs (`kronecker-coefficient-lt`).
use mathlib.Core.Path.{◌≡◌, refl, sym, ap, ap₂, ◌∙◌, fun_ext}
use Prim.Native.Nat.{ℕ, zero, suc, ◌+◌, ◌-◌, ◌*◌, ◌/◌, ◌%◌, ◌^◌, ◌≤◌, ◌<◌}
use native.Mathlib.Omega.{arith}
use native.Mathlib.Decide.{dec_lt}
use native.Mathlib.Nat.{add_assoc, div-add-mod', div-lt_iff_lt-mul, mod-lt, mul-le-mul_right, suc-mul}
use lib.Arith.{lt-one}
use lib.Bits.{bit_xor, xor_zero_r, xor_comm, xor_lt}
use lib.Dec.{ltb}
use lib.Pow.{pow_pos, pow-add, mod-pow-add}
use Rattle.numbers.specs.Bits.{bit}
use Rattle.numbers.specs.Tests.{only}
use Rattle.numbers.proofs.Bits.{bit-lt, bit_below}
use Rattle.numbers.proofs.Xor.{xor-cancel-l, xor-cancel-r}
use Rattle.numbers.proofs.Tests.{only_below, only_above}
use Rattle.expansions.specs.Kronecker.Letters.{literal_of, literal_true, kronecker_value, KroneckerGives}
use Rattle.expansions.specs.Kronecker.Steps.{step_value, without, kronecker_step, kronecker_coefficient}
use Rattle.expansions.proofs.Kronecker.Halves.{bit-place, bit-top, without-top, without-low, below-halves}
use Rattle.expansions.proofs.Kronecker.Values.{kronecker-value-ext, kronecker-value-xor, kronecker-value-none}
use Rattle.expansions.proofs.Kronecker.Values.{at_literal, kronecker-value-top, kronecker-unique}

-- ---- one step

-- the step for the highest input, in either half
pub step-top : (n letter : ℕ) (g : ℕ → ℕ) (d s : ℕ) → d < 2 → s < 2 ^ n
    → kronecker_step n letter g (d * 2 ^ n + s) ≡ step_value letter d (g (0 * 2 ^ n + s)) (g (1 * 2 ^ n + s))
unfolding kronecker_step
step-top n letter g d s hd hs =
    rw (bit-top n d s hd hs, without-top n d s hd hs) (ap₂ (λ (x y : ℕ). step_value letter d (g x) (g y)) (omega arith) (omega arith))

-- a step for another input keeps to its half
step-low : (n i letter : ℕ) (g : ℕ → ℕ) (d s : ℕ) → i < n → kronecker_step i letter g (d * 2 ^ n + s) ≡ kronecker_step i letter (λ x. g (d * 2 ^ n + x)) s
unfolding kronecker_step
step-low n i letter g d s h = rw (bit_below i n d s h, without-low n i d s h, add_assoc (d * 2 ^ n) (without i s) (2 ^ i))

steps_low : (n m : ℕ) (letters f : ℕ → ℕ) (d : ℕ) → m ≤ n
    → (λ (s : ℕ). kronecker_coefficient m letters f (d * 2 ^ n + s)) ≡ kronecker_coefficient m letters (λ x. f (d * 2 ^ n + x))
unfolding kronecker_coefficient
steps_low n zero letters f d h = refl
steps_low n (suc m) letters f d h =
    let ih = steps_low n m letters f d (omega arith) in
    fun_ext (λ s. step-low n m (letters m) (kronecker_coefficient m letters f) d s h) ∙ ap (kronecker_step m (letters m)) ih

-- the value of what a step leaves is the step of the values
value-step : (n : ℕ) (letters : ℕ → ℕ) (letter d : ℕ) (u v : ℕ → ℕ) (q : ℕ)
    → kronecker_value n letters (λ s. step_value letter d (u s) (v s)) q ≡ step_value letter d (kronecker_value n letters u q) (kronecker_value n letters v q)
unfolding step_value
value-step n letters zero zero u v q = refl
value-step n letters zero (suc d) u v q = refl
value-step n letters (suc zero) zero u v q = refl
value-step n letters (suc zero) (suc d) u v q = kronecker-value-xor n letters u v q
value-step n letters (suc (suc letter)) zero u v q = refl
value-step n letters (suc (suc letter)) (suc d) u v q = kronecker-value-xor n letters u v q

-- the two parts that a step makes give back the value at 0 and at 1
parts-back : (letter : ℕ) (v : ℕ → ℕ) (a : ℕ) → a < 2
    → bit_xor (at_literal letter 0 a (step_value letter 0 (v 0) (v 1))) (at_literal letter 1 a (step_value letter 1 (v 0) (v 1))) ≡ v a
unfolding at_literal only literal_true literal_of step_value
parts-back zero v zero h = xor_zero_r (v 0)
parts-back zero v (suc zero) h = refl
parts-back (suc zero) v zero h = xor_zero_r (v 0)
parts-back (suc zero) v (suc zero) h = xor-cancel-l (v 0) (v 1)
parts-back (suc (suc letter)) v zero h = xor_comm (v 1) (bit_xor (v 0) (v 1)) ∙ xor-cancel-r (v 0) (v 1)
parts-back (suc (suc letter)) v (suc zero) h = xor_zero_r (v 1)
parts-back letter v (suc (suc a)) h = absurd (omega arith)

-- ---- existence

-- the coefficients of f in any kind give f
pub kronecker-gives : (n : ℕ) (letters f : ℕ → ℕ) → KroneckerGives n letters (kronecker_coefficient n letters f) f
unfolding kronecker_coefficient
kronecker-gives zero letters f = λ p h. rw (lt-one h) (kronecker-value-none letters f 0)
kronecker-gives (suc n) letters f =
    let ih : (d q : ℕ) → q < 2 ^ n → kronecker_value n letters (λ s. kronecker_coefficient n letters f (d * 2 ^ n + s)) q ≡ f (d * 2 ^ n + q) =
    λ d q hq.
    ap (λ (c : ℕ → ℕ). kronecker_value n letters c q) (steps_low n n letters f d (omega arith)) ∙ kronecker-gives n letters (λ x. f (d * 2 ^ n + x)) q hq in
    below-halves n (λ p. kronecker_value (suc n) letters (kronecker_step n (letters n) (kronecker_coefficient n letters f)) p ≡ f p)
    (λ a q ha hq.
    let part : (d : ℕ) → d < 2
    → kronecker_value n letters (λ s. kronecker_step n (letters n) (kronecker_coefficient n letters f) (d * 2 ^ n + s)) q
    ≡ step_value (letters n) d (f (0 * 2 ^ n + q)) (f (1 * 2 ^ n + q)) =
    λ d hd.
    kronecker-value-ext n letters _ _ q (λ s hs. step-top n (letters n) (kronecker_coefficient n letters f) d s hd hs)
    ∙ value-step n letters (letters n) d (λ s. kronecker_coefficient n letters f (0 * 2 ^ n + s)) (λ s. kronecker_coefficient n letters f (1 * 2 ^ n + s)) q
    ∙ ap₂ (step_value (letters n) d) (ih 0 q hq) (ih 1 q hq) in
    kronecker-value-top n letters (kronecker_step n (letters n) (kronecker_coefficient n letters f)) a q ha hq
    ∙ ap₂ (λ (x y : ℕ). bit_xor (at_literal (letters n) 0 a x) (at_literal (letters n) 1 a y)) (part 0 (omega arith)) (part 1 (omega arith))
    ∙ parts-back (letters n) (λ b. f (b * 2 ^ n + q)) a ha)

-- and are the only ones that do
pub kronecker-coefficient-unique : (n : ℕ) (letters f c : ℕ → ℕ) → KroneckerGives n letters c f → (t : ℕ) → t < 2 ^ n → c t ≡ kronecker_coefficient n letters f t
kronecker-coefficient-unique n letters f c g =
    kronecker-unique n letters c (kronecker_coefficient n letters f) (λ p l. g p l ∙ sym (kronecker-gives n letters f p l))

-- the coefficients of an expansion's values are the expansion's
pub kronecker-coefficient-value : (n : ℕ) (letters c : ℕ → ℕ) (t : ℕ) → t < 2 ^ n → kronecker_coefficient n letters (kronecker_value n letters c) t ≡ c t
kronecker-coefficient-value n letters c t h = sym (kronecker-coefficient-unique n letters (kronecker_value n letters c) c (λ p l. refl) t h)

-- only the points below 2 ^ n count
pub kronecker-coefficient-ext : (n : ℕ) (letters f g : ℕ → ℕ) → ((p : ℕ) → p < 2 ^ n → f p ≡ g p)
    → (t : ℕ) → t < 2 ^ n → kronecker_coefficient n letters f t ≡ kronecker_coefficient n letters g t
kronecker-coefficient-ext n letters f g e =
    kronecker-coefficient-unique n letters g (kronecker_coefficient n letters f) (λ p l. kronecker-gives n letters f p l ∙ e p l)

-- only the letters of the n inputs count
pub kronecker-coefficient-letters : (n : ℕ) (a b f : ℕ → ℕ) → ((i : ℕ) → i < n → a i ≡ b i) → kronecker_coefficient n a f ≡ kronecker_coefficient n b f
unfolding kronecker_coefficient
kronecker-coefficient-letters zero a b f e = refl
kronecker-coefficient-letters (suc n) a b f e =
    let ih = kronecker-coefficient-letters n a b f (λ i l. e i (omega arith)) in
    ap (λ (x : ℕ). kronecker_step n x (kronecker_coefficient n a f)) (e n (omega arith)) ∙ ap (kronecker_step n (b n)) ih

-- a step stays below 2 ^ n
pub without-lt : (n i t : ℕ) → i < n → t < 2 ^ n → without i t + 2 ^ i < 2 ^ n
unfolding without
without-lt n i t h l =
    let j : ℕ = n - i - 1 in
    let e : n ≡ j + (1 + i) = omega arith in
    let w : 2 ^ n ≡ 2 ^ j * 2 ^ (1 + i) = ap (λ (x : ℕ). 2 ^ x) e ∙ pow-add 2 j (1 + i) in
    let q : ℕ = t / 2 ^ (1 + i) in
    let high : q < 2 ^ j = (div-lt_iff_lt-mul (pow_pos (1 + i))).1 (omega (arith, w)) in
    let low : t % 2 ^ (1 + i) ≡ bit i t * 2 ^ i + t % 2 ^ i = mod-pow-add t 1 i in
    let two : 2 ^ (1 + i) ≡ 2 * 2 ^ i = pow-add 2 1 i in
    omega (arith, div-add-mod' t (2 ^ (1 + i)), low, mod-lt t (pow_pos i), two, mul-le-mul_right (2 ^ (1 + i)) high, suc-mul q (2 ^ (1 + i)), w)

pub kronecker-step-ext : (n i letter : ℕ) (g h : ℕ → ℕ) → i < n → ((t : ℕ) → t < 2 ^ n → g t ≡ h t)
    → (t : ℕ) → t < 2 ^ n → kronecker_step i letter g t ≡ kronecker_step i letter h t
unfolding kronecker_step
kronecker-step-ext n i letter g h l e t k =
    ap₂ (step_value letter (bit i t)) (e (without i t) (omega (arith, without-lt n i t l k))) (e (without i t + 2 ^ i) (without-lt n i t l k))

-- the Shannon step keeps every value
pub kronecker-step-shannon : (i : ℕ) (g : ℕ → ℕ) (t : ℕ) → kronecker_step i 0 g t ≡ g t
unfolding kronecker_step without step_value
kronecker-step-shannon i g t = go (bit i t) (bit-lt i t) (bit-place i t)
  where
    go : (b : ℕ) → b < 2 → b * 2 ^ i ≤ t → step_value 0 b (g (t - b * 2 ^ i)) (g (t - b * 2 ^ i + 2 ^ i)) ≡ g t
    go zero h l = ap g (omega arith)
    go (suc zero) h l = ap g (omega arith)
    go (suc (suc b)) h l = absurd (omega arith)

-- ---- bits m and above stay 0

step-lt : (m letter d x y : ℕ) → x < 2 ^ m → y < 2 ^ m → step_value letter d x y < 2 ^ m
unfolding step_value
step-lt m zero zero x y hx hy = hx
step-lt m zero (suc d) x y hx hy = hy
step-lt m (suc zero) zero x y hx hy = hx
step-lt m (suc zero) (suc d) x y hx hy = xor_lt m x y hx hy
step-lt m (suc (suc letter)) zero x y hx hy = hy
step-lt m (suc (suc letter)) (suc d) x y hx hy = xor_lt m x y hx hy

pub steps-lt : (m n : ℕ) (letters f : ℕ → ℕ) → ((p : ℕ) → f p < 2 ^ m) → (t : ℕ) → kronecker_coefficient n letters f t < 2 ^ m
unfolding kronecker_coefficient kronecker_step
steps-lt m zero letters f b = b
steps-lt m (suc n) letters f b = λ t.
    step-lt m (letters n) (bit n t) _ _ (steps-lt m n letters f b (without n t)) (steps-lt m n letters f b (without n t + 2 ^ n))

pub kronecker-coefficient-lt : (m n : ℕ) (letters f : ℕ → ℕ) → ((p : ℕ) → p < 2 ^ n → f p < 2 ^ m)
    → (t : ℕ) → t < 2 ^ n → kronecker_coefficient n letters f t < 2 ^ m
kronecker-coefficient-lt m n letters f b t h =
    rw (kronecker-coefficient-ext n letters f (λ p. only (ltb p (2 ^ n)) (f p)) (λ p l. sym (only_below p (2 ^ n) (f p) l)) t h)
    (steps-lt m n letters (λ p. only (ltb p (2 ^ n)) (f p)) (λ p. within p) t)
  where
    within : (p : ℕ) → only (ltb p (2 ^ n)) (f p) < 2 ^ m
    within p = go (dec_lt p (2 ^ n))
      where
        go : Dec (p < 2 ^ n) → only (ltb p (2 ^ n)) (f p) < 2 ^ m
        go (yes l) = rw (only_below p (2 ^ n) (f p) l) (b p l)
        go (no l) = rw (only_above p (2 ^ n) (f p) (omega arith)) (pow_pos m)
