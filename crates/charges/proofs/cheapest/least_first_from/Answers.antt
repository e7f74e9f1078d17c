-- The bytes that are compared are the small sums of block 0 without the constant, and its masks.
use mathlib.Core.Path.{ap₂}
use Prim.Native.Nat.{ℕ, ◌+◌, ◌*◌, ◌/◌, ◌<◌}
use native.Mathlib.Omega.{arith}
use Rattle.numbers.specs.Bytes.{at}
use Rattle.expansions.proofs.BlockTable.{half-held}
use Rattle.charges.specs.Inner.Charges.{used_at}
use Rattle.lanes.specs.Inner.Terms.{coefficient_in}
use Rattle.charges.proofs.cheapest.Used.{used_at-lt, coefficient_in-lt}
use Rattle.charges.proofs.cheapest.SumsRead.{byte-read, sums-read, kept_read}
use Rattle.charges.proofs.cheapest.Choices.{least-ext}
use Rattle.charges.proofs.cheapest.least_first_from.Goals as goal

pub returns : goal.returns
returns c C k held h =
    let a = c.args in
    let used : ℕ → ℕ = λ q. used_at C k (at a.lanes.now) 0 (a.half * 8 + q) in
    let small : (q : ℕ) → q < 8 → used q < 256 = λ q b. used_at-lt C k (at a.lanes.now) 0 (a.half * 8 + q) (half-held C k a.half q h b) in
    let masks : ℕ → ℕ = λ q. coefficient_in C k (at a.lanes.now) 0 0 (a.half * 8 + q) in
    let kept = kept_read _ used small (c.used_terms.ensures C k held h) _ c.without_constants-used.ensures in
    least-ext a.count c.requires.1 _ _ _
    (λ q l.
    let eight : q < 8 = omega (arith, c.requires.2) in
    ap₂ (λ (x y : ℕ). x * 256 + y)
    (sums-read _ (λ r. used r / 2 * 2) (λ r b. omega (arith, small r b)) kept _ c.small_sums.ensures q eight)
    (byte-read _ masks (λ r b. coefficient_in-lt C k (at a.lanes.now) 0 0 (a.half * 8 + r)) (c.constants.ensures C k held h) q eight))
    c.least_sum.ensures
