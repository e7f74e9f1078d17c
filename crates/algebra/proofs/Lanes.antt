-- What the transforms leave, lane by lane: the bytes where the arguments fit (`coefficients-lanes`), and from the coefficients of any functions
-- under one polarity to those under another (`changed-coefficients`).
use mathlib.Core.Path.{◌≡◌, ap, ◌∙◌, fun_ext}
use mathlib.Core.Bool.{true}
use mathlib.Core.List.{List}
use Prim.Native.Nat.{ℕ, ◌+◌, ◌*◌, ◌/◌, ◌%◌, ◌^◌, ◌≤◌, ◌<◌}
use native.Mathlib.Nat.{add_comm, mul_comm, mod-lt, mod-one, div-one}
use native.Mathlib.Omega.{arith}
use borrow.Author.Tests.{le-leb, lt-ltb, eq-eqb}
use lib.Arith.{digits_lt}
use lib.Dec.{leb, ltb, eqb, leb→le, ltb→lt, eqb→eq}
use lib.Pow.{pow_pos, pow-add, shr_lt, high, low}
use lib.ListN.{length}
use Rattle.numbers.specs.Bytes.{at, tabulate}
use Rattle.numbers.proofs.Bytes.{length-tabulate, at-tabulate, tabulate-ext}
use Rattle.numbers.proofs.Tests.{both_left, both_right}
use Rattle.algebra.specs.Coefficients.{coefficient}
use Rattle.algebra.specs.Transform.{lane, in_lanes, fits, coefficient_bytes, changed_bytes}
use Rattle.algebra.proofs.Value.{value-ext}
use Rattle.algebra.proofs.Coefficients.{value-coefficient, coefficient-ext}

-- ---- places in lanes

pub place-lt : (k n q o : ℕ) → q < 2 ^ n → o < 2 ^ k → q * 2 ^ k + o < 2 ^ (k + n)
place-lt k n q o h l = rw (pow-add 2 k n ∙ mul_comm (2 ^ k) (2 ^ n)) (digits_lt h l)

pub point-lt : (k n x : ℕ) → x < 2 ^ (k + n) → x / 2 ^ k < 2 ^ n
point-lt k n x h = shr_lt n k (rw (add_comm n k) h)

-- one function alone is in its lane
pub lanes-one : (h : (ℕ → ℕ) → ℕ → ℕ) (g : ℕ → ℕ) (x : ℕ) → in_lanes 0 h g x ≡ h g x
unfolding in_lanes
lanes-one h g x =
    let e : lane 0 g (x % 2 ^ 0) ≡ g = fun_ext (λ q. ap g (omega (arith, mod-one x))) in
    rw (div-one x) (ap (λ (f : ℕ → ℕ). h f x) e)

-- ---- the arguments fit

pub record Fitting (k n w given lent : ℕ) : Type 0 where
  pub lows : k ≤ 8
  pub inputs : n ≤ 8
  pub polarity : w < 2 ^ n
  pub given_long : given ≡ 2 ^ (k + n)
  pub lent_long : lent ≡ 2 ^ (k + n)

pub fits-true : (k n w given lent : ℕ) → fits k n w given lent ≡ true → Fitting k n w given lent
unfolding fits
fits-true k n w given lent e =
    let a = both_right (leb k 8) _ e in
    let b = both_right (leb n 8) _ a in
    let c = both_right (ltb w (2 ^ n)) _ b in
    record {
      lows = leb→le k 8 (rw (both_left (leb k 8) _ e) tt);
      inputs = leb→le n 8 (rw (both_left (leb n 8) _ a) tt);
      polarity = ltb→lt w (2 ^ n) (rw (both_left (ltb w (2 ^ n)) _ b) tt);
      given_long = eqb→eq given (2 ^ (k + n)) (rw (both_left (eqb given (2 ^ (k + n))) _ c) tt);
      lent_long = eqb→eq lent (2 ^ (k + n)) (rw (both_right (eqb given (2 ^ (k + n))) _ c) tt);
    }

pub fits-fitting : (k n w given lent : ℕ) → Fitting k n w given lent → fits k n w given lent ≡ true
unfolding fits
fits-fitting k n w given lent f =
    rw (le-leb k 8 f.lows, le-leb n 8 f.inputs, lt-ltb w (2 ^ n) f.polarity, eq-eqb given (2 ^ (k + n)) f.given_long, eq-eqb lent (2 ^ (k + n)) f.lent_long)

-- ---- the bytes

pub coefficients-lanes : (k n w : ℕ) (tables before : List ℕ) → Fitting k n w (length tables) (length before)
    → coefficient_bytes k n w tables before ≡ tabulate (2 ^ (k + n)) (λ x. coefficient n w (lane k (at tables) (x % 2 ^ k)) (x / 2 ^ k))
unfolding coefficient_bytes in_lanes
coefficients-lanes k n w tables before f = rw (fits-fitting k n w (length tables) (length before) f, f.lent_long)

-- the values of the coefficients of f are f, and so are their coefficients under another polarity
pub changed-coefficients : (k n v w : ℕ) (f : ℕ → ℕ → ℕ) (before : List ℕ) → k ≤ 8 → n ≤ 8 → v < 2 ^ n → w < 2 ^ n
    → before ≡ tabulate (2 ^ (k + n)) (λ x. coefficient n v (f (x % 2 ^ k)) (x / 2 ^ k))
    → changed_bytes k n v w before ≡ tabulate (2 ^ (k + n)) (λ x. coefficient n w (f (x % 2 ^ k)) (x / 2 ^ k))
unfolding changed_bytes in_lanes
changed-coefficients k n v w f before hk hn hv hw e =
    rw (fits-fitting k n v (length before) (length before) (record { lows = hk; inputs = hn; polarity = hv; given_long = long; lent_long = long }), lt-ltb w (2 ^ n) hw, long)
    (tabulate-ext (2 ^ (k + n)) _ _ (λ x h. coefficient-ext n w _ (f (x % 2 ^ k)) hw (λ p l.
    value-ext n (λ t. v) _ (coefficient n v (f (x % 2 ^ k))) p (λ t m. each t (x % 2 ^ k) m (mod-lt x (pow_pos k))) ∙ value-coefficient n v (f (x % 2 ^ k)) hv p l) (x / 2 ^ k)))
  where
    long : length before ≡ 2 ^ (k + n)
    long = ap length e ∙ length-tabulate (2 ^ (k + n)) _

    each : (t o : ℕ) → t < 2 ^ n → o < 2 ^ k → at before (t * 2 ^ k + o) ≡ coefficient n v (f o) t
    each t o h l =
        let p = at-tabulate (2 ^ (k + n)) (λ x. coefficient n v (f (x % 2 ^ k)) (x / 2 ^ k)) (t * 2 ^ k + o) (place-lt k n t o h l) in
        ap (λ (b : List ℕ). at b (t * 2 ^ k + o)) e ∙ p ∙ rw (high t k l, low t k l)
