-- The answer's record: what stands at its places (`expansion-coefficients`, `expansion-blocks`), the bounds of what it holds, and that it
-- is the answer (`answer_expansion-is`).
use mathlib.Core.Path.{◌≡◌, ap, fun_ext}
use Prim.Native.Nat.{ℕ, ◌-◌, ◌^◌, ◌≤◌, ◌<◌}
use native.Mathlib.Nat.{mul-le-mul}
use native.Mathlib.Omega.{arith}
use lib.Pow.{pow_mono}
use Rattle.numbers.specs.Bytes.{at, tabulate}
use Rattle.expansions.specs.declared.kinds.Class.{Class}
use Rattle.expansions.specs.declared.families.Family.{Family}
use Rattle.expansions.specs.Classes.{choices}
use Rattle.expansions.specs.Inner.Answer.{answer_choice, answer_coefficient}
use Rattle.search.specs.Expansion.{Answered}
use Rattle.search.specs.Inner.Answer.{answer_expansion}
use Rattle.numbers.proofs.Tables.{at-whole}
use Rattle.expansions.proofs.Costs.{products-le, literals-le}
use Rattle.expansions.proofs.Answers.{answer-coefficient-zero, answer-choice-zero, answer-member, answer-minimal, answer-ext, answer-inverted-lt, answer-coefficient-lt, answer-choice-lt}

-- ---- the answer's places, in a table that holds all that are not 0

pub at-coefficients : (C : Class) (F : Family) (n k : ℕ) (f : ℕ → ℕ) (N : ℕ) → 2 ^ n ≤ N → at (tabulate N (answer_coefficient C F n k f)) ≡ answer_coefficient C F n k f
at-coefficients C F n k f N h = at-whole N (answer_coefficient C F n k f) (λ t l. answer-coefficient-zero C F n k f t (omega arith))

pub at-blocks : (C : Class) (F : Family) (n k : ℕ) (f : ℕ → ℕ) (N : ℕ) → 2 ^ (n - k) ≤ N → at (tabulate N (answer_choice C F n k f)) ≡ answer_choice C F n k f
at-blocks C F n k f N h = at-whole N (answer_choice C F n k f) (λ t l. answer-choice-zero C F n k f t (omega arith))

module _ (C : Class) (F : Family) (n k : ℕ) (f : ℕ → ℕ) (hn : n ≤ 8) where
  -- ---- the record's places

  expansion-coefficients-whole : at (answer_expansion C F n k f).coefficients ≡ answer_coefficient C F n k f
  unfolding answer_expansion
  expansion-coefficients-whole = at-coefficients C F n k f 256 (pow_mono hn)

  expansion-blocks-whole : at (answer_expansion C F n k f).blocks ≡ answer_choice C F n k f
  unfolding answer_expansion
  expansion-blocks-whole = at-blocks C F n k f 256 (omega (arith, pow_mono {i = n - k} {j = 8} (omega arith)))

  pub expansion-coefficients : (t : ℕ) → at (answer_expansion C F n k f).coefficients t ≡ answer_coefficient C F n k f t
  expansion-coefficients t = ap (λ (g : ℕ → ℕ). g t) expansion-coefficients-whole

  pub expansion-blocks : (j : ℕ) → at (answer_expansion C F n k f).blocks j ≡ answer_choice C F n k f j
  expansion-blocks j = ap (λ (g : ℕ → ℕ). g j) expansion-blocks-whole

  -- ---- bounds

  pub expansion-coefficients-lt : (m : ℕ) → k ≤ n → ((p : ℕ) → p < 2 ^ n → f p < 2 ^ m) → (t : ℕ) → at (answer_expansion C F n k f).coefficients t < 2 ^ m
  expansion-coefficients-lt m hk outputs t = rw (expansion-coefficients t) (answer-coefficient-lt C F n k f hk m outputs t)

  pub expansion-inverted-lt : (m : ℕ) → k ≤ n → ((p : ℕ) → p < 2 ^ n → f p < 2 ^ m) → (answer_expansion C F n k f).inverted < 2 ^ m
  unfolding answer_expansion
  expansion-inverted-lt m hk outputs = answer-inverted-lt C F n k f hk m outputs

  pub expansion-blocks-lt : k ≤ n → (j : ℕ) → at (answer_expansion C F n k f).blocks j < choices C k
  expansion-blocks-lt hk j = rw (expansion-blocks j) (answer-choice-lt C F n k f hk j)

  pub expansion-mixed-lt : k ≤ n → (answer_expansion C F n k f).mixed < 2 ^ n
  unfolding answer_expansion
  expansion-mixed-lt hk = (answer-member C F n k f hk).pair.mask

  pub expansion-fixed-lt : k ≤ n → (answer_expansion C F n k f).fixed < 2 ^ n
  unfolding answer_expansion
  expansion-fixed-lt hk = (answer-member C F n k f hk).pair.fixed

  pub expansion-products-le : (answer_expansion C F n k f).products ≤ 256
  unfolding answer_expansion
  expansion-products-le = omega (arith, products-le n (answer_coefficient C F n k f), pow_mono hn)

  pub expansion-literals-le : (answer_expansion C F n k f).literals ≤ 1024
  unfolding answer_expansion
  expansion-literals-le = omega (arith, literals-le n (answer_coefficient C F n k f), mul-le-mul (pow_mono hn) hn)

  -- ---- it is the answer

  pub answer_expansion-is : k ≤ n → ((p : ℕ) → p < 2 ^ n → f p < 2 ^ 8) → Answered C F n k f (answer_expansion C F n k f)
  unfolding answer_expansion
  answer_expansion-is hk bytes = rw (expansion-coefficients-whole, expansion-blocks-whole) (answer-minimal C F n k f hn hk bytes)

-- only the table's values at the points count
pub answer_expansion-ext : (C : Class) (F : Family) (n k : ℕ) (f g : ℕ → ℕ) → ((p : ℕ) → p < 2 ^ n → f p ≡ g p) → answer_expansion C F n k f ≡ answer_expansion C F n k g
unfolding answer_expansion
answer_expansion-ext C F n k f g e = let a = answer-ext C F n k f g e in rw (a.0, a.1, a.2, fun_ext a.3, fun_ext a.4)
