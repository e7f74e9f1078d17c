-- What the fields of a printed line say. A cube is true where its term's literals are (`cube-holds`) and has the term's literals
-- (`cube-literals`), it shows of a polarity the bits at its term (`cube-masked`), outputs say the coefficient (`outputs-said`), and a number's digits say the number (`decimal-said`).
use mathlib.Core.Bool.{Bool, true, false, cond, ◌&&◌}
use mathlib.Core.List.{[], ◌∷◌}
use mathlib.Core.Path.{◌≡◌, refl, ap, ap₂, ◌∙◌}
use Prim.Native.Nat.{ℕ, zero, suc, ◌+◌, ◌-◌, ◌*◌, ◌/◌, ◌%◌, ◌^◌, ◌<◌, min}
use native.Mathlib.Decide.{ℕ_discrete}
use native.Mathlib.Nat.{not-suc-le-zero, pow-suc, div-eq_of_lt, div-div-eq-div-mul, div-one}
use native.Mathlib.Omega.{arith}
use borrow.Author.Tests.{ltb-true, ltb-false}
use lib.Bits.{bit_and}
use lib.Count.{ones}
use lib.Dec.{T, eqb, ltb, eqb→eq}
use lib.Pow.{pow_mono}
use Rattle.numbers.specs.Bytes.{tabulate}
use Rattle.numbers.specs.Sums.{fold_below, sum_below}
use Rattle.numbers.specs.Bits.{bit}
use Rattle.algebra.specs.Terms.{literal, LiteralsTrue, holds}
use Rattle.numbers.proofs.Bytes.{tabulate-ext}
use Rattle.numbers.proofs.Tests.{same_test, and_intro, and_left, and_right}
use Rattle.algebra.proofs.Terms.{holds-words}
use Rattle.numbers.proofs.Xor.{low-lt}
use Rattle.numbers.proofs.Ands.{bit-and}
use Rattle.numbers.proofs.Bits.{bit-zero, bit-suc, bit_le, bit-lt}
use Rattle.numbers.proofs.Pack.{ones-bits}
use Rattle.listings.specs.Listing.{descending, digit_count, decimal, cube_byte, cube, output_bytes}
use Rattle.listings.specs.Meaning.{allows, cube_true, literals_in, outputs_said, number_said}
use Rattle.listings.proofs.Characters.{length-cube}

-- ---- one character of a cube

allows-to : (t w x : ℕ) → t < 2 → w < 2 → T (allows (cube_byte t w) x) → t ≡ 1 → literal w x ≡ 1
unfolding allows cube_byte literal
allows-to zero w x ht hw h e = absurd (omega arith)
allows-to (suc t) zero x ht hw h e = eqb→eq x 1 h
allows-to (suc t) (suc w) x ht hw h e = let z : x ≡ 0 = eqb→eq x 0 h in omega arith

allows-from : (t w x : ℕ) → t < 2 → x < 2 → (t ≡ 1 → literal w x ≡ 1) → T (allows (cube_byte t w) x)
unfolding allows cube_byte literal
allows-from zero w x ht hx f = tt
allows-from (suc t) zero x ht hx f = rw (f (omega arith)) tt
allows-from (suc t) (suc w) x ht hx f = let z : 1 - x ≡ 1 = f (omega arith) in let y : x ≡ 0 = omega arith in rw y tt

pub character-literal : (t w : ℕ) → t < 2 → cond (eqb (cube_byte t w) 45) 0 1 ≡ t
unfolding cube_byte
character-literal zero w h = refl
character-literal (suc zero) zero h = refl
character-literal (suc zero) (suc w) h = refl
character-literal (suc (suc t)) w h = absurd (omega arith)

-- ---- the cube of a term

cube-step : (n t w p : ℕ) → cube_true (cube (suc n) t w) p ≡ (allows (cube_byte (bit n t) (bit n w)) (bit n p) && cube_true (cube n t w) p)
unfolding cube cube_true descending
cube-step n t w p = ap (λ (k : ℕ). allows (cube_byte (bit n t) (bit n w)) (bit k p) && cube_true (cube n t w) p) (length-cube n t w)

cube-to : (n t w p : ℕ) → T (cube_true (cube n t w) p) → (i : ℕ) → i < n → bit i t ≡ 1 → literal (bit i w) (bit i p) ≡ 1
cube-to zero t w p h i l e = absurd (not-suc-le-zero l)
cube-to (suc n) t w p h i l e = go (ℕ_discrete i n) (cube-to n t w p (and_right first (cube_true (cube n t w) p) both) i) where
  first : Bool
  first = allows (cube_byte (bit n t) (bit n w)) (bit n p)

  both : T (first && cube_true (cube n t w) p)
  both = rw (cube-step n t w p) at h

  go : Dec (i ≡ n) → (i < n → bit i t ≡ 1 → literal (bit i w) (bit i p) ≡ 1) → literal (bit i w) (bit i p) ≡ 1
  go (yes z) ih = rw z (allows-to (bit n t) (bit n w) (bit n p) (low-lt (t / 2 ^ n)) (low-lt (w / 2 ^ n)) (and_left first (cube_true (cube n t w) p) both) (rw z at e))
  go (no z) ih = ih (omega arith) e

cube-from : (n t w p : ℕ) → ((i : ℕ) → i < n → bit i t ≡ 1 → literal (bit i w) (bit i p) ≡ 1) → T (cube_true (cube n t w) p)
unfolding cube cube_true descending
cube-from zero t w p f = tt
cube-from (suc n) t w p f =
    rw (cube-step n t w p)
    (and_intro (allows (cube_byte (bit n t) (bit n w)) (bit n p)) (cube_true (cube n t w) p)
    (allows-from (bit n t) (bit n w) (bit n p) (low-lt (t / 2 ^ n)) (low-lt (p / 2 ^ n)) (f n (omega arith)))
    (cube-from n t w p (λ i l. f i (omega arith))))

pub cube-holds : (n t w p : ℕ) → t < 2 ^ n → cube_true (cube n t w) p ≡ holds t w p
unfolding LiteralsTrue
cube-holds n t w p h =
    same_test (cube_true (cube n t w) p) (holds t w p)
    (λ true-there. (holds-words t w p).1 (λ i e. cube-to n t w p true-there i (present i e) e))
    (λ held. cube-from n t w p (λ i l e. (holds-words t w p).0 held i e))
  where
    present : (i : ℕ) → bit i t ≡ 1 → i < n
    present i e = go (ltb i n) refl where
      go : (b : Bool) → ltb i n ≡ b → i < n
      go true l = ltb-true i n l
      go false l = absurd (omega (arith, bit_le i t e, pow_mono (ltb-false i n l)))

cube-bits : (n t w : ℕ) → literals_in (cube n t w) ≡ sum_below n (λ i. bit i t)
unfolding literals_in cube descending fold_below
cube-bits zero t w = refl
cube-bits (suc n) t w = omega (arith, character-literal (bit n t) (bit n w) (low-lt (t / 2 ^ n)), cube-bits n t w)

pub cube-literals : (n t w : ℕ) → t < 2 ^ n → literals_in (cube n t w) ≡ ones t
cube-literals n t w h = cube-bits n t w ∙ ones-bits n t h

-- ---- of a polarity a cube shows the bits at its term, and no others

character-shown : (t w : ℕ) → t < 2 → w < 2 → cube_byte t (min t w) ≡ cube_byte t w
unfolding cube_byte
character-shown zero w ht hw = refl
character-shown (suc zero) zero ht hw = refl
character-shown (suc zero) (suc zero) ht hw = refl
character-shown (suc zero) (suc (suc w)) ht hw = absurd (omega arith)
character-shown (suc (suc t)) w ht hw = absurd (omega arith)

pub cube-masked : (n t w : ℕ) → cube n t (bit_and t w) ≡ cube n t w
unfolding cube descending
cube-masked zero t w = refl
cube-masked (suc n) t w =
    ap₂ ◌∷◌ (ap (cube_byte (bit n t)) (bit-and n t w) ∙ character-shown (bit n t) (bit n w) (bit-lt n t) (bit-lt n w)) (cube-masked n t w)

-- ---- outputs

pub outputs-none : (c : ℕ) → output_bytes 0 c ≡ []
unfolding output_bytes tabulate
outputs-none c = refl

-- the first character is the lowest bit, and the others are those of the other bits
pub outputs-cons : (m c : ℕ) → output_bytes (suc m) c ≡ (48 + c % 2) ∷ output_bytes m (c / 2)
unfolding output_bytes tabulate
outputs-cons m c =
    let rest : tabulate m (λ i. 48 + bit (suc i) c) ≡ output_bytes m (c / 2) = tabulate-ext m _ _ (λ i l. ap (λ (x : ℕ). 48 + x) (bit-suc i c)) in
    rw (rest, bit-zero c)

pub outputs-said : (m c : ℕ) → c < 2 ^ m → outputs_said (output_bytes m c) ≡ c
unfolding outputs_said
outputs-said zero c h = ap outputs_said (outputs-none c) ∙ omega arith
outputs-said (suc m) c h = ap outputs_said (outputs-cons m c) ∙ rw (outputs-said m (c / 2) (omega arith)) (omega arith)

-- ---- numbers

-- a number without its d lowest digits, by the digits before the next one and that one
pub digits-next : (d x : ℕ) → x / 10 ^ suc d * 10 + x / 10 ^ d % 10 ≡ x / 10 ^ d
digits-next d x =
    let high : x / 10 ^ d / 10 ≡ x / 10 ^ suc d = div-div-eq-div-mul x (10 ^ d) 10 ∙ rw pow-suc in
    omega (arith, high)

digits-said : (d x : ℕ) → number_said (x / 10 ^ d) (descending d (λ i. 48 + x / 10 ^ i % 10)) ≡ x
unfolding number_said descending
digits-said zero x = div-one x
digits-said (suc d) x =
    let e : x / 10 ^ suc d * 10 + (48 + x / 10 ^ d % 10 - 48) ≡ x / 10 ^ d = omega (arith, digits-next d x) in
    ap (λ (v : ℕ). number_said v (descending d (λ i. 48 + x / 10 ^ i % 10))) e ∙ digits-said d x

pub digit_count-bound : (x : ℕ) → x < 10000 → x < 10 ^ digit_count x
unfolding digit_count
digit_count-bound x h = go (ltb x 10) (ltb x 100) (ltb x 1000) refl refl refl where
  go : (a b c : Bool) → ltb x 10 ≡ a → ltb x 100 ≡ b → ltb x 1000 ≡ c → x < 10 ^ cond a 1 (cond b 2 (cond c 3 4))
  go true b c p q r = ltb-true x 10 p
  go false true c p q r = ltb-true x 100 q
  go false false true p q r = ltb-true x 1000 r
  go false false false p q r = h

pub decimal-said : (x : ℕ) → x < 10000 → number_said 0 (decimal x) ≡ x
unfolding decimal
decimal-said x h = rw (div-eq_of_lt (digit_count-bound x h)) at (digits-said (digit_count x) x)
