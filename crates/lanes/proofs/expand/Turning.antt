-- The transforms of the crate `algebra` on eight lanes: what the forward one leaves (`lanes-expanded`), and from the coefficients under w to
-- those under w + 1, of functions that are known (`lanes_next`) and of any bytes (`lanes-turned`).
use mathlib.Core.Path.{◌≡◌, refl, sym, ap, ◌∙◌}
use mathlib.Core.Bool.{Bool, true, false, cond, ◌&&◌}
use mathlib.Core.List.{List}
use Prim.Native.Nat.{ℕ, suc, ◌+◌, ◌*◌, ◌/◌, ◌%◌, ◌^◌, ◌≤◌, ◌<◌}
use native.Mathlib.Numerals.{add-one}
use native.Mathlib.Omega.{arith}
use borrow.Author.Tests.{le-ltb}
use lib.ListN.{length}
use lib.Pow.{pow-add}
use Rattle.numbers.specs.Bytes.{at, tabulate}
use Rattle.numbers.proofs.Bytes.{is-table}
use Rattle.algebra.specs.Coefficients.{coefficient}
use Rattle.algebra.specs.Terms.{value}
use Rattle.algebra.specs.Transform.{fits, coefficient_bytes, changed_bytes}
use Rattle.algebra.proofs.Coefficients.{coefficient-value}
use Rattle.algebra.proofs.Lanes.{coefficients-lanes, changed-coefficients}
use Rattle.lanes.specs.Inner.Lanes.{lanes_under, NextLanes}

-- eight lanes are three low bits
lanes-three : (r w : ℕ) (f : ℕ → ℕ → ℕ) → tabulate (2 ^ (3 + r)) (λ x. coefficient r w (f (x % 8)) (x / 8)) ≡ lanes_under r w f
unfolding lanes_under
lanes-three r w f = ap (λ (N : ℕ). tabulate N (λ x. coefficient r w (f (x % 8)) (x / 8))) (pow-add 2 3 r)

pub lanes-expanded : (r w : ℕ) (laid lanes : List ℕ) → r ≤ 8 → w < 2 ^ r → length laid ≡ 8 * 2 ^ r → length lanes ≡ 8 * 2 ^ r
    → coefficient_bytes 3 r w laid lanes ≡ lanes_under r w (λ o q. at laid (q * 8 + o))
lanes-expanded r w laid lanes inputs polarity long room =
    coefficients-lanes 3 r w laid lanes
    (record { lows = omega arith; inputs = inputs; polarity = polarity; given_long = long ∙ sym (pow-add 2 3 r); lent_long = room ∙ sym (pow-add 2 3 r) })
    ∙ lanes-three r w (λ o q. at laid (q * 8 + o))

pub lanes_next : (r w : ℕ) (f : ℕ → ℕ → ℕ) (lanes : List ℕ) → r ≤ 8 → suc w < 2 ^ r → lanes ≡ lanes_under r w f
    → changed_bytes 3 r w (w + 1) lanes ≡ lanes_under r (suc w) f
lanes_next r w f lanes inputs next e =
    rw add-one (changed-coefficients 3 r w (suc w) f lanes (omega arith) inputs (omega arith) next (e ∙ sym (lanes-three r w f)) ∙ lanes-three r (suc w) f)

-- whatever bytes are lent, they are coefficients: of the functions whose values they give
lanes-of-values : (r w : ℕ) (lanes : List ℕ) → length lanes ≡ 8 * 2 ^ r → lanes ≡ lanes_under r w (λ o. value r (λ t. w) (λ q. at lanes (8 * q + o)))
unfolding lanes_under
lanes-of-values r w lanes long =
    is-table (8 * 2 ^ r) _ lanes long
    (λ x h. let byte : x ≡ 8 * (x / 8) + x % 8 = omega arith in
    ap (at lanes) byte ∙ sym (coefficient-value r w (λ q. at lanes (8 * q + x % 8)) (x / 8) (omega arith)))

lanes-last : (r w : ℕ) (lanes : List ℕ) → suc w ≡ 2 ^ r → changed_bytes 3 r w (w + 1) lanes ≡ lanes
unfolding changed_bytes
lanes-last r w lanes e = rw (le-ltb (w + 1) (2 ^ r) (omega arith)) (neither (fits 3 r w (length lanes) (length lanes)) _ lanes)
  where
    neither : (b : Bool) (x y : List ℕ) → cond (b && false) x y ≡ y
    neither true x y = refl
    neither false x y = refl

pub lanes-turned : (r w : ℕ) (before after : List ℕ) → r ≤ 8 → length before ≡ 8 * 2 ^ r → after ≡ changed_bytes 3 r w (w + 1) before
    → ((f : ℕ → ℕ → ℕ) → suc w < 2 ^ r → before ≡ lanes_under r w f → after ≡ lanes_under r (suc w) f) × NextLanes r w before after
lanes-turned r w before after inputs long e = (next, record { next = λ h. next _ h (lanes-of-values r w before long); last = λ h. e ∙ lanes-last r w before h })
  where
    next : (f : ℕ → ℕ → ℕ) → suc w < 2 ^ r → before ≡ lanes_under r w f → after ≡ lanes_under r (suc w) f
    next f h held = e ∙ lanes_next r w f before inputs h held
