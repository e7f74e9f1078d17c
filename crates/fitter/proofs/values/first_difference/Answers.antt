-- `first_difference` meets its contract: the point that is found is the lowest below 2^n that differs, and where none is found none differs.
use borrow.Author.Rules.{rules}
use mathlib.Core.Path.{◌≡◌, refl}
use Prim.Native.Nat.{ℕ, ◌<◌, ◌^◌, ◌*◌, ◌%◌}
use native.Mathlib.Omega.{arith}
use Rattle.std.specs.Prelude.{Option, Some, None}
use Rattle.std.proofs.iter.runs.Sources.{ranges}
use Rattle.numbers.specs.Bytes.{at}
use Rattle.numbers.proofs.Shifts.{one_shifted}
use Rattle.algebra.specs.Terms.{value}
use Rattle.fitter.specs.Differences.{inverted_value, first_difference}
use Rattle.fitter.specs.Inner.Differences.{difference_of}
use Rattle.fitter.proofs.Differences.{none_differ, lowest-differs}
use Rattle.fitter.proofs.values.first_difference.Goals as goal

-- p is the lowest number that differs, of those below N
abbrev Lowest : ℕ → (g f : ℕ → ℕ) → ℕ → Type 0
Lowest N g f p = (p < N) × (g p ≡ f p → ⊥) × ((q : ℕ) → q < p → g q ≡ f q)

-- the lowest point that differs, by what a search of the numbers below N found
by-search : (n N : ℕ) → N ≡ 2 ^ n → (g f : ℕ → ℕ) (r : Option ℕ) → (r ≡ None → (p : ℕ) → p < N → g p ≡ f p)
    → ((p : ℕ) → r ≡ Some p → Lowest N g f p) → r ≡ difference_of (first_difference n g f)
unfolding difference_of
by-search n N e g f None none some = rw (none_differ g f n (λ p h. none refl p (omega arith)))
by-search n N e g f (Some p) none some = let x = some p refl in rw (lowest-differs g f n p (omega (arith, x.0)) x.1 x.2)

pub returns : goal.returns
unfolding value
returns c =
    let a = c.args in
    let given = inverted_value a.n (at a.complements.now) (at a.coefficients.now) a.inverted in
    let size = one_shifted a.n (omega (arith, c.requires)) in
    let none : c.find.result ≡ None → (p : ℕ) → p < 1 * 2 ^ a.n % 2 ^ 64 → given p ≡ at a.table.now p = search (rules, ranges) in
    let some : (p : ℕ) → c.find.result ≡ Some p → Lowest (1 * 2 ^ a.n % 2 ^ 64) given (at a.table.now) p = search (rules, ranges) in
    by-search a.n _ size given (at a.table.now) _ none some
