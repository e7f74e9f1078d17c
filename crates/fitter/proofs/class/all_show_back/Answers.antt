-- `all_show_back` meets its contract: either each term below 2^n passes, or some term fails.
use borrow.Author.Rules.{rules}
use mathlib.Core.Bool.{Bool, true, false}
use mathlib.Core.Path.{◌≡◌, refl, sym, ap, ◌∙◌}
use Prim.Native.Nat.{ℕ, ◌<◌, ◌^◌, ◌*◌, ◌%◌}
use native.Mathlib.Omega.{arith}
use Rattle.std.proofs.iter.runs.Sources.{ranges}
use Rattle.numbers.specs.Bytes.{at}
use Rattle.numbers.specs.Tests.{every}
use Rattle.numbers.proofs.Shifts.{one_shifted}
use Rattle.numbers.proofs.Tests.{every-from, every-fails}
use Rattle.membership.specs.Class.{shows_back}
use Rattle.fitter.proofs.class.all_show_back.Goals as goal

-- a test of all the numbers below N, by what it says
by-test : (N : ℕ) (test : ℕ → Bool) (b : Bool) → (b ≡ true → (t : ℕ) → t < N → test t ≡ true) → (b ≡ false → (t : ℕ) × ((t < N) × (test t ≡ false)))
    → b ≡ every N test
by-test N test true passes fails = sym (every-from N test (passes refl))
by-test N test false passes fails = let x = fails refl in sym (every-fails N test x.0 x.1.0 x.1.1)

pub returns : goal.returns
unfolding shows_back
returns c =
    let a = c.args in
    let test = shows_back a.sizes.class a.sizes.n a.sizes.k a.mixed a.fixed (at a.blocks.now) (at a.complements.now) (at a.coefficients.now) in
    let size = one_shifted a.sizes.n (omega (arith, c.requires.0)) in
    let passes : c.all.result ≡ true → (t : ℕ) → t < 1 * 2 ^ a.sizes.n % 2 ^ 64 → test t ≡ true = search (rules, ranges) in
    let fails : c.all.result ≡ false → (t : ℕ) × ((t < 1 * 2 ^ a.sizes.n % 2 ^ 64) × (test t ≡ false)) = search (rules, ranges) in
    by-test _ test _ passes fails ∙ ap (λ (N : ℕ). every N test) size
