-- How many digits a number has, against the powers of ten: `digit_count-of` from the number's bounds, `digit_count-least` and `digit_count-le` to them.
use mathlib.Core.Bool.{Bool, true, false, cond}
use mathlib.Core.Path.{◌≡◌, refl}
use Prim.Native.Nat.{ℕ, zero, suc, ◌-◌, ◌/◌, ◌^◌, ◌≤◌, ◌<◌, zero-le}
use native.Mathlib.Decide.{dec_le}
use native.Mathlib.Nat.{pow-le-pow_right, div-lt_iff_lt-mul, le-div_iff_mul-le}
use native.Mathlib.Omega.{arith}
use borrow.Author.Tests.{lt-ltb, le-ltb, ltb-false}
use lib.Dec.{ltb, lit<}
use Rattle.listings.specs.Listing.{digit_count}

-- ---- a number against a power of ten, by what is left of it without so many digits

ten-pos : (k : ℕ) → 0 < 10 ^ k
ten-pos k = pow-le-pow_right {n = 10} (lit< tt) {i = 0} {j = k} zero-le

pub ten-below : (k x : ℕ) → x / 10 ^ k ≡ 0 → x < 10 ^ k
ten-below k x e = omega (arith, (div-lt_iff_lt-mul {k = 10 ^ k} {x = x} {y = 1} (ten-pos k)).0 (omega arith))

pub ten-least : (k x : ℕ) → 1 ≤ x / 10 ^ k → 10 ^ k ≤ x
ten-least k x h = omega (arith, (le-div_iff_mul-le {k = 10 ^ k} {x = 1} {y = x} (ten-pos k)).0 h)

pub ten-some : (k x : ℕ) → 10 ^ k ≤ x → 1 ≤ x / 10 ^ k
ten-some k x h = (le-div_iff_mul-le {k = 10 ^ k} {x = 1} {y = x} (ten-pos k)).1 (omega arith)

-- ---- how many digits

pub digit_count-of : (k x : ℕ) → k < 4 → x < 10 ^ suc k → ((k ≡ 0 → ⊥) → 10 ^ k ≤ x) → digit_count x ≡ suc k
unfolding digit_count
digit_count-of zero x l h g = rw (lt-ltb x 10 h)
digit_count-of (suc zero) x l h g = let least : 10 ≤ x = g (λ e. omega arith) in rw (le-ltb x 10 least, lt-ltb x 100 h)
digit_count-of (suc (suc zero)) x l h g =
    let least : 100 ≤ x = g (λ e. omega arith) in
    let ten : 10 ≤ x = omega arith in
    rw (le-ltb x 10 ten, le-ltb x 100 least, lt-ltb x 1000 h)
digit_count-of (suc (suc (suc zero))) x l h g =
    let least : 1000 ≤ x = g (λ e. omega arith) in
    let ten : 10 ≤ x = omega arith in
    let hundred : 100 ≤ x = omega arith in
    rw (le-ltb x 10 ten, le-ltb x 100 hundred, le-ltb x 1000 least)
digit_count-of (suc (suc (suc (suc k)))) x l h g = absurd (omega arith)

pub digit_count-least : (x : ℕ) → (digit_count x ≡ 1 → ⊥) → 10 ^ (digit_count x - 1) ≤ x
unfolding digit_count
digit_count-least x = go (ltb x 10) (ltb x 100) (ltb x 1000) refl refl refl where
  go : (a b c : Bool) → ltb x 10 ≡ a → ltb x 100 ≡ b → ltb x 1000 ≡ c
      → (◌≡◌ {A = ℕ} (cond a 1 (cond b 2 (cond c 3 4))) 1 → ⊥) → 10 ^ (cond a 1 (cond b 2 (cond c 3 4)) - 1) ≤ x
  go true b c p q r many = absurd (many refl)
  go false true c p q r many = ltb-false x 10 p
  go false false true p q r many = ltb-false x 100 q
  go false false false p q r many = ltb-false x 1000 r

pub digit_count-le : (most x : ℕ) → 1 ≤ most → x < 10 ^ most → digit_count x ≤ most
digit_count-le most x some h = go (dec_le (digit_count x) most) where
  go : Dec (digit_count x ≤ most) → digit_count x ≤ most
  go (yes l) = l
  go (no l) =
      let more : most ≤ digit_count x - 1 = omega arith in
      absurd (omega (arith, digit_count-least x (λ e. omega arith), pow-le-pow_right {n = 10} (lit< tt) more))
