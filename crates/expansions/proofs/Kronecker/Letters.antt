-- The 3 ^ n kinds: each is the digits of one number below 3 ^ n (`kind-lt`, `letters-of-kind`), and the order of the numbers is that of the
-- letters from xn down (`letters-order`).
use mathlib.Core.Path.{◌≡◌, refl, sym, ap, ap₂, ◌∙◌}
use mathlib.Core.Logic.{inl, inr}
use Prim.Native.Nat.{ℕ, zero, suc, ◌+◌, ◌-◌, ◌*◌, ◌/◌, ◌%◌, ◌^◌, ◌≤◌, ◌<◌}
use native.Mathlib.Nat.{add-mul-div_right, mod-lt, mod-eq_of_lt, pow-suc, mul_comm, mul_assoc, pow-le-pow_right, div-eq_of_lt}
use native.Mathlib.Omega.{arith}
use lib.Arith.{digits_lt, digits_div, mod-mul}
use lib.Dec.{lit<}
use lib.Pow.{pow-add}
use Rattle.expansions.specs.Least.{LeastThen}
use Rattle.expansions.proofs.Least.{below-one-more, then-digits, then-from, then_map, then-antisym}
use Rattle.expansions.specs.Kronecker.Letters.{IsKind, letters_of, kind_number}
use Rattle.expansions.specs.Kronecker.Answers.{LettersNotAfter}

pub three-pos : (n : ℕ) → 0 < 3 ^ n
three-pos zero = omega arith
three-pos (suc n) = rw (pow-suc 3 n) (omega (arith, three-pos n))

pub letter-lt : (x i : ℕ) → letters_of x i < 3
unfolding letters_of
letter-lt x i = mod-lt (x / 3 ^ i) (lit< tt)

-- there is no letter past the last input
pub letters-zero : (n x i : ℕ) → x < 3 ^ n → n ≤ i → letters_of x i ≡ 0
unfolding letters_of
letters-zero n x i h l =
    let most : 3 ^ n ≤ 3 ^ i = pow-le-pow_right (lit< tt) l in
    let none : x / 3 ^ i ≡ 0 = div-eq_of_lt (omega arith) in
    ap (λ (y : ℕ). y % 3) none

-- ---- the number of a kind

pub kind-lt : (n : ℕ) (letters : ℕ → ℕ) → IsKind n letters → kind_number n letters < 3 ^ n
unfolding kind_number
kind-lt zero letters k = omega arith
kind-lt (suc n) letters k = rw (pow-suc 3 n, mul_comm (3 ^ n) 3) (digits_lt (k n (omega arith)) (kind-lt n letters (λ i l. k i (omega arith))))

-- the digit of a lower input
pub digit_low : (n i d s : ℕ) → i < n → letters_of (d * 3 ^ n + s) i ≡ letters_of s i
unfolding letters_of
digit_low n i d s h =
    let j : ℕ = n - i - 1 in
    let e : n ≡ j + 1 + i = omega arith in
    let w : 3 ^ n ≡ 3 ^ j * 3 * 3 ^ i = ap (λ (x : ℕ). 3 ^ x) e ∙ pow-add 3 (j + 1) i ∙ ap (λ (x : ℕ). x * 3 ^ i) (pow-add 3 j 1) in
    let a : d * 3 ^ n + s ≡ s + d * (3 ^ j * 3) * 3 ^ i = omega (arith, ap (λ (x : ℕ). d * x) w ∙ sym (mul_assoc d (3 ^ j * 3) (3 ^ i))) in
    let b : d * (3 ^ j * 3) ≡ d * 3 ^ j * 3 = sym (mul_assoc d (3 ^ j) 3) in
    rw (a, add-mul-div_right s (d * (3 ^ j * 3)) (three-pos i), b) (omega arith)

pub digit-top : (n d s : ℕ) → d < 3 → s < 3 ^ n → letters_of (d * 3 ^ n + s) n ≡ d
unfolding letters_of
digit-top n d s h l = rw (digits_div d l) (mod-eq_of_lt h)

-- the letters of a kind's number are the kind's
pub letters-of-kind : (n : ℕ) (letters : ℕ → ℕ) → IsKind n letters → (i : ℕ) → i < n → letters_of (kind_number n letters) i ≡ letters i
unfolding kind_number
letters-of-kind zero letters k = λ i h. absurd (omega arith)
letters-of-kind (suc n) letters k =
    let k' : IsKind n letters = λ i l. k i (omega arith) in
    let ih = letters-of-kind n letters k' in
    below-one-more n (λ i. letters_of (letters n * 3 ^ n + kind_number n letters) i ≡ letters i)
    (λ i l. digit_low n i (letters n) (kind_number n letters) l ∙ ih i l)
    (digit-top n (letters n) (kind_number n letters) (k n (omega arith)) (kind-lt n letters k'))

-- and the number of a number's letters is the number
pub kind-of-letters : (n x : ℕ) → x < 3 ^ n → kind_number n (letters_of x) ≡ x
unfolding kind_number letters_of
kind-of-letters n x h = whole n ∙ mod-eq_of_lt h
  where
    whole : (n : ℕ) → kind_number n (letters_of x) ≡ x % 3 ^ n
    whole zero = omega arith
    whole (suc n) =
        ap (λ (y : ℕ). x / 3 ^ n % 3 * 3 ^ n + y) (whole n) ∙ sym (mod-mul x (lit< tt) (three-pos n))
        ∙ ap (λ (y : ℕ). x % y) (mul_comm 3 (3 ^ n) ∙ sym (pow-suc 3 n))

pub kind-ext : (n : ℕ) (a b : ℕ → ℕ) → ((i : ℕ) → i < n → a i ≡ b i) → kind_number n a ≡ kind_number n b
unfolding kind_number
kind-ext zero a b e = refl
kind-ext (suc n) a b e = ap₂ (λ (x y : ℕ). x * 3 ^ n + y) (e n (omega arith)) (kind-ext n a b (λ i l. e i (omega arith)))

-- ---- the order

-- the least number has the letters that come first
pub letters-order : (n : ℕ) (a b : ℕ → ℕ) → IsKind n a → IsKind n b → kind_number n a ≤ kind_number n b → LettersNotAfter n a b
unfolding kind_number LettersNotAfter
letters-order zero a b ka kb h = tt
letters-order (suc n) a b ka kb h =
    let ka' : IsKind n a = λ i l. ka i (omega arith) in
    let kb' : IsKind n b = λ i l. kb i (omega arith) in
    let ih = letters-order n a b ka' kb' in
    then_map (a n) (b n) (λ o. ih (low o))
    (then-digits (3 ^ n) (a n) (kind_number n a) (b n) (kind_number n b) (kind-lt n a ka') (kind-lt n b kb') (then-from _ _ h (λ e. tt)))
  where
    low : LeastThen (kind_number n a) (kind_number n b) Unit → kind_number n a ≤ kind_number n b
    low (inl l) = omega arith
    low (inr e) = omega (arith, e.0)

-- letters that come first each way round are the same
pub letters-antisym : (n : ℕ) (a b : ℕ → ℕ) → LettersNotAfter n a b → LettersNotAfter n b a → (i : ℕ) → i < n → a i ≡ b i
unfolding LettersNotAfter
letters-antisym zero a b x y = λ i h. absurd (omega arith)
letters-antisym (suc n) a b x y =
    let d = then-antisym (a n) (b n) x y in
    below-one-more n (λ i. a i ≡ b i) (letters-antisym n a b d.1 d.2) d.0
