-- The rules of charging. Under any rule each literal more adds the same to a product's weight (`weight-more`). Under the rule of a family the weights
-- of p products with l literals are one number for what the family compares first and what it compares then (`rule-cost`, `tie-lt`), and p and l are
-- had back from it (`rule-products`, `rule-literals`). To be no dearer is an order (`no-dearer-trans`, `no-dearer-antisym`), and no more products with no
-- more literals are no dearer in either family (`no-dearer-fewer`).
use mathlib.Core.Path.{◌≡◌}
use Prim.Native.Nat.{ℕ, zero, suc, ◌+◌, ◌*◌, ◌/◌, ◌%◌, ◌≤◌, ◌<◌}
use native.Mathlib.Nat.{add-mul, mul-le-mul, mul-le-mul_right}
use native.Mathlib.Omega.{arith}
use Rattle.expansions.specs.declared.families.Family.{Family}
use Rattle.expansions.specs.declared.families.Family.TheVariants.{One, Two}
use Rattle.expansions.specs.Costs.{counted}
use Rattle.expansions.specs.Rules.{cost_of, tie_of, NoDearer, Rule, weight, rule_of}

-- ---- any rule

pub weight-more : (R : Rule) (more l : ℕ) → weight R (more + l) ≡ weight R l + more * R.literal
unfolding weight
weight-more R more l = omega (arith, add-mul more l R.literal)

pub weight-product : (R : Rule) (l : ℕ) → R.product ≤ weight R l
unfolding weight
weight-product R l = omega arith

pub weight-le : (R : Rule) (l most : ℕ) → l ≤ most → weight R l ≤ weight R most
unfolding weight
weight-le R l most h = omega (arith, mul-le-mul_right R.literal h)

pub counted-weight : (R : Rule) (c l : ℕ) → counted c (weight R l) ≡ counted c 1 * R.product + counted c l * R.literal
unfolding counted weight
counted-weight R zero l = omega arith
counted-weight R (suc c) l = omega arith

-- ---- the rules of the families

-- above every number that a family compares second
abbrev pub base : Family → ℕ
base One = 4096
base Two = 512

pub rule-cost : (F : Family) (p l : ℕ) → p * (rule_of F).product + l * (rule_of F).literal ≡ cost_of F p l * base F + tie_of F p l
rule-cost One p l = omega arith
rule-cost Two p l = omega arith

pub tie-lt : (F : Family) (p l : ℕ) → p ≤ 256 → l < 4096 → tie_of F p l < base F
tie-lt One p l hp hl = hl
tie-lt Two p l hp hl = omega arith

pub rule-products : (F : Family) (p l : ℕ) → p ≤ 256 → l < 4096 → (rule_of F).products_in (p * (rule_of F).product + l * (rule_of F).literal) ≡ p
rule-products One p l hp hl = omega arith
rule-products Two p l hp hl = omega arith

pub rule-literals : (F : Family) (p l : ℕ) → p ≤ 256 → l < 4096 → (rule_of F).literals_in (p * (rule_of F).product + l * (rule_of F).literal) ≡ l
rule-literals One p l hp hl = omega arith
rule-literals Two p l hp hl =
    let sum : ℕ = p * 2049 + l * 512 in
    let whole : sum / 512 ≡ 4 * p + l = omega arith in
    let rest : sum % 512 ≡ p = omega arith in
    rw (whole, rest) (omega arith)

-- ---- which costs are no dearer

pub no-dearer-fewer : (F : Family) (p l p' l' : ℕ) → p ≤ p' → l ≤ l' → NoDearer F p l p' l'
no-dearer-fewer One p l p' l' hp hl = (hp, λ e. hl)
no-dearer-fewer Two p l p' l' hp hl = (omega arith, λ e. hp)

pub no-dearer-trans : (F : Family) (p l p' l' p'' l'' : ℕ) → NoDearer F p l p' l' → NoDearer F p' l' p'' l'' → NoDearer F p l p'' l''
no-dearer-trans F p l p' l' p'' l'' a b =
    (omega (arith, a.0, b.0), λ e. omega (arith, a.1 (omega (arith, a.0, b.0)), b.1 (omega (arith, a.0, b.0))))

-- each way round: they are the same costs
pub no-dearer-antisym : (F : Family) (p l p' l' : ℕ) → NoDearer F p l p' l' → NoDearer F p' l' p l → (p ≡ p') × (l ≡ l')
no-dearer-antisym One p l p' l' a b = let e : p ≡ p' = omega (arith, a.0, b.0) in (e, omega (arith, a.1 e, b.1 (omega arith)))
no-dearer-antisym Two p l p' l' a b =
    let e : 4 * p + l ≡ 4 * p' + l' = omega (arith, a.0, b.0) in
    let same : p ≡ p' = omega (arith, a.1 e, b.1 (omega arith)) in
    (same, omega arith)

-- ---- what the search needs of them

-- a literal weighs something, and a product without literals more than four literals
pub record OutweighsFour (R : Rule) : Type 0 where
  pub some : 0 < R.literal
  pub four : 4 * R.literal < R.product

pub rule-outweighs : (F : Family) → OutweighsFour (rule_of F)
rule-outweighs One = record { some = omega arith; four = omega arith }
rule-outweighs Two = record { some = omega arith; four = omega arith }

pub rule-some : (F : Family) → 0 < (rule_of F).product
rule-some F = omega (arith, (rule-outweighs F).four)

-- the bounds of the two weights
pub rule-small : (F : Family) → ((rule_of F).product ≤ 4096) × ((rule_of F).literal ≤ 512)
rule-small One = (omega arith, omega arith)
rule-small Two = (omega arith, omega arith)

pub weight-small : (F : Family) (l : ℕ) → weight (rule_of F) l ≤ 4096 + l * 512
unfolding weight
weight-small F l =
    let same : l ≤ l = omega arith in
    omega (arith, rule-small F, mul-le-mul same (rule-small F).1)

-- the most that a product weighs: it has at most three literals in its block and eight outside it
pub weight-eleven : (F : Family) → weight (rule_of F) 11 ≤ 7681
unfolding weight
weight-eleven One = omega arith
weight-eleven Two = omega arith
