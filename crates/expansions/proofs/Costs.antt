-- What an expansion costs. Its charge under a rule is its products and its literals, each times its weight (`charge-parts`); under a family's rule they
-- are had back from it (`charge-products`, `charge-literals`), for there are fewer than 4,096 literals (`literals-lt`). With inverters the terms' prices
-- are 256 times the charge without the constant, and the coefficient of the constant (`priced-parts`); they are the sum of the blocks' charges
-- (`priced-blocks`).
use mathlib.Core.Path.{◌≡◌, refl, sym, ap, ◌∙◌}
use Prim.Native.Nat.{ℕ, zero, suc, ◌+◌, ◌-◌, ◌*◌, ◌^◌, ◌≤◌, ◌<◌}
use native.Mathlib.Nat.{mul-le-mul, mul-suc, pow-suc, zero-mul, zero-add, add-mul, add_assoc, add_comm, add-zero}
use native.Mathlib.Omega.{arith}
use lib.Arith.{bin_ind}
use lib.Count.{ones_in, ones, ones_step}
use lib.Pow.{pow_mono, suc_ones}
use Rattle.numbers.specs.Sums.{fold_below, sum_below}
use Rattle.numbers.proofs.Sums.{fold-zero, fold-ext, fold-map, fold-op, fold-split}
use Rattle.expansions.specs.declared.kinds.Class.{Class}
use Rattle.expansions.specs.Classes.{place_coefficient}
use Rattle.expansions.specs.Members.{block, place}
use Rattle.expansions.specs.declared.families.Family.{Family}
use Rattle.expansions.specs.Costs.{counted, products, literals}
use Rattle.expansions.specs.Rules.{cost_of, tie_of, Rule, weight, rule_of, price}
use Rattle.expansions.specs.Inner.Answer.{block_function, block_charge, member_coefficient, without_constant}
use Rattle.expansions.proofs.Split.{ones-others, sums}
use Rattle.expansions.proofs.Counted.{counted-le}
use Rattle.expansions.proofs.Rules.{counted-weight, base, rule-cost, tie-lt, rule-products, rule-literals}
use Rattle.expansions.proofs.Blocks.{ones-digit, ones-parts}

-- the products' weights under a rule, summed
unfoldable pub charge : Rule → ℕ → (ℕ → ℕ) → ℕ
charge R n c = sum_below (2 ^ n) (λ t. counted (c t) (weight R (ones t)))

-- ---- sums of counted numbers

pub sum_mono : (N : ℕ) (g h : ℕ → ℕ) → ((t : ℕ) → t < N → g t ≤ h t) → sum_below N g ≤ sum_below N h
unfolding fold_below
sum_mono zero g h e = omega arith
sum_mono (suc N) g h e = omega (arith, sum_mono N g h (λ t l. e t (omega arith)), e N (omega arith))

sum-constant : (N b : ℕ) → sum_below N (λ t. b) ≡ N * b
unfolding fold_below
sum-constant zero b = omega arith
sum-constant (suc N) b = omega (arith, sum-constant N b)

pub sum-le : (N b : ℕ) (g : ℕ → ℕ) → ((t : ℕ) → t < N → g t ≤ b) → sum_below N g ≤ N * b
sum-le N b g h = omega (arith, sum_mono N g (λ t. b) h, sum-constant N b)

pub sum-scaled : (N B : ℕ) (g : ℕ → ℕ) → sum_below N (λ t. g t * B) ≡ sum_below N g * B
sum-scaled N B g = sym (fold-map ◌+◌ (λ x. x * B) (zero-mul B) (λ a b. add-mul a b B) N g)

pub sum-digits : (N B : ℕ) (g h : ℕ → ℕ) → sum_below N (λ t. g t * B + h t) ≡ sum_below N g * B + sum_below N h
sum-digits N B g h = fold-op ◌+◌ add_assoc add_comm add-zero N (λ t. g t * B) h ∙ ap (λ (x : ℕ). x + sum_below N h) (sum-scaled N B g)

-- the weights of the terms, of which the term t has l t literals
pub sum-weights : (R : Rule) (N : ℕ) (c l : ℕ → ℕ) → sum_below N (λ t. counted (c t) (weight R (l t)))
    ≡ sum_below N (λ t. counted (c t) 1) * R.product + sum_below N (λ t. counted (c t) (l t)) * R.literal
sum-weights R N c l =
    fold-ext ◌+◌ N _ _ (λ t h. counted-weight R (c t) (l t))
    ∙ sum-digits N R.product (λ t. counted (c t) 1) (λ t. counted (c t) (l t) * R.literal)
    ∙ ap (λ (x : ℕ). sum_below N (λ t. counted (c t) 1) * R.product + x) (sum-scaled N R.literal (λ t. counted (c t) (l t)))

-- only the coefficients below 2 ^ n count
counted-ext : (n : ℕ) (x c d : ℕ → ℕ) → ((t : ℕ) → t < 2 ^ n → c t ≡ d t)
    → sum_below (2 ^ n) (λ t. counted (c t) (x t)) ≡ sum_below (2 ^ n) (λ t. counted (d t) (x t))
counted-ext n x c d e = fold-ext ◌+◌ (2 ^ n) _ _ (λ t l. ap (λ (y : ℕ). counted y (x t)) (e t l))

-- ---- products and literals

pub products-ext : (n : ℕ) (c d : ℕ → ℕ) → ((t : ℕ) → t < 2 ^ n → c t ≡ d t) → products n c ≡ products n d
unfolding products
products-ext n c d e = counted-ext n (λ t. 1) c d e

pub literals-ext : (n : ℕ) (c d : ℕ → ℕ) → ((t : ℕ) → t < 2 ^ n → c t ≡ d t) → literals n c ≡ literals n d
unfolding literals
literals-ext n c d e = counted-ext n ones c d e

pub products-zero : (n : ℕ) → products n (λ t. 0) ≡ 0
unfolding products counted
products-zero n = fold-zero ◌+◌ add_assoc add_comm add-zero (2 ^ n)

pub products-le : (n : ℕ) (c : ℕ → ℕ) → products n c ≤ 2 ^ n
unfolding products
products-le n c = omega (arith, sum-le (2 ^ n) 1 (λ t. counted (c t) 1) (λ t l. counted-le (c t) 1 1 (omega arith)))

-- all the terms together hold every input in half of them
sum_ones : (n : ℕ) → sum_below (2 ^ n) ones * 2 ≡ 2 ^ n * n
unfolding fold_below ones
sum_ones zero = refl
sum_ones (suc n) =
    let split = fold-split ◌+◌ add_assoc add_comm add-zero n ones in
    let evens : sum_below (2 ^ n) (λ s. ones (s * 2)) ≡ sum_below (2 ^ n) ones =
    fold-ext ◌+◌ (2 ^ n) _ _ (λ s l. ap ones (sym (add-zero (s * 2))) ∙ ones-digit s 0 (omega arith) ∙ zero-add (ones s)) in
    let odds : sum_below (2 ^ n) (λ s. ones (s * 2 + 1)) ≡ 2 ^ n * 1 + sum_below (2 ^ n) ones =
    fold-ext ◌+◌ (2 ^ n) _ _ (λ s l. ones-digit s 1 (omega arith)) ∙ fold-op ◌+◌ add_assoc add_comm add-zero (2 ^ n) (λ s. 1) ones
    ∙ ap (λ (x : ℕ). x + sum_below (2 ^ n) ones) (sum-constant (2 ^ n) 1) in
    let size : 2 ^ suc n * suc n ≡ 2 ^ n * n * 2 + 2 ^ n * 2 = rw (pow-suc 2 n, mul-suc (2 ^ n * 2) n) (omega arith) in
    omega (arith, split, evens, odds, sum_ones n)

-- no more than with every term a product
pub literals-most : (n : ℕ) (c : ℕ → ℕ) → literals n c ≤ sum_below (2 ^ n) ones
unfolding literals
literals-most n c = sum_mono (2 ^ n) (λ t. counted (c t) (ones t)) ones (λ t l. counted-le (c t) (ones t) (ones t) (omega arith))

pub literals-le : (n : ℕ) (c : ℕ → ℕ) → literals n c * 2 ≤ 2 ^ n * n
literals-le n c = omega (arith, literals-most n c, sum_ones n)

pub literals-lt : (n : ℕ) (c : ℕ → ℕ) → n ≤ 8 → literals n c < 4096
literals-lt n c h = omega (arith, literals-le n c, mul-le-mul (pow_mono h) h)

-- ---- the charge

pub charge-parts : (R : Rule) (n : ℕ) (c : ℕ → ℕ) → charge R n c ≡ products n c * R.product + literals n c * R.literal
unfolding charge products literals
charge-parts R n c = sum-weights R (2 ^ n) c ones

module _ (F : Family) (n : ℕ) (c : ℕ → ℕ) (h : n ≤ 8) where
  few : products n c ≤ 256
  few = omega (arith, products-le n c, pow_mono h)

  -- what the family compares first, and what then, as one number
  pub charge-cost : charge (rule_of F) n c ≡ cost_of F (products n c) (literals n c) * base F + tie_of F (products n c) (literals n c)
  charge-cost = charge-parts (rule_of F) n c ∙ rule-cost F (products n c) (literals n c)

  pub charge-tie : tie_of F (products n c) (literals n c) < base F
  charge-tie = tie-lt F (products n c) (literals n c) few (literals-lt n c h)

  pub charge-products : (rule_of F).products_in (charge (rule_of F) n c) ≡ products n c
  charge-products = ap (rule_of F).products_in (charge-parts (rule_of F) n c) ∙ rule-products F (products n c) (literals n c) few (literals-lt n c h)

  pub charge-literals : (rule_of F).literals_in (charge (rule_of F) n c) ≡ literals n c
  charge-literals = ap (rule_of F).literals_in (charge-parts (rule_of F) n c) ∙ rule-literals F (products n c) (literals n c) few (literals-lt n c h)

pub charge-ext : (R : Rule) (n : ℕ) (c d : ℕ → ℕ) → ((t : ℕ) → t < 2 ^ n → c t ≡ d t) → charge R n c ≡ charge R n d
unfolding charge
charge-ext R n c d e = counted-ext n (λ t. weight R (ones t)) c d e

-- ---- with inverters

-- the terms' prices, summed
unfoldable pub priced : Rule → ℕ → (ℕ → ℕ) → ℕ
priced R n c = sum_below (2 ^ n) (λ t. price R (ones t) (c t))

ones_none : (t : ℕ) → ones t ≡ 0 → t ≡ 0
ones_none = bin_ind (λ (t : ℕ). ones t ≡ 0 → t ≡ 0) (λ e. refl) (λ t ih e. omega (arith, ones_step t, ih (omega (arith, ones_step t))))

pub ones-zero : ones 0 ≡ 0
unfolding ones
ones-zero = refl

-- every term but the constant has a literal
pub ones-some : (t : ℕ) → 0 < ones (suc t)
ones-some t = let no : ¬ (ones (suc t) ≡ 0) = λ e. omega (arith, ones_none (suc t) e) in omega arith

-- two sums over all terms that differ at the constant only
pub terms-apart : (n : ℕ) (g h : ℕ → ℕ) (a : ℕ) → g 0 ≡ a → h 0 ≡ 0 → ((t : ℕ) → g (suc t) ≡ h (suc t)) → sum_below (2 ^ n) g ≡ sum_below (2 ^ n) h + a
unfolding fold_below
terms-apart n g h a e z f = rw (← suc_ones n) (go (2 ^ n - 1))
  where
    go : (N : ℕ) → sum_below (suc N) g ≡ sum_below (suc N) h + a
    go zero = omega arith
    go (suc N) = omega (arith, go N, f N)

module _ (R : Rule) where
  pub price-constant : (l c : ℕ) → l ≡ 0 → price R l c ≡ c
  unfolding price
  price-constant zero c e = refl
  price-constant (suc l) c e = absurd (omega arith)

  pub price-other : (l c : ℕ) → 0 < l → price R l c ≡ counted c (weight R l) * 256
  unfolding price
  price-other zero c h = absurd (omega arith)
  price-other (suc l) c h = refl

  -- 256 times what the other terms cost, and the coefficient of the constant
  pub priced-parts : (n : ℕ) (c : ℕ → ℕ) → priced R n c ≡ charge R n (without_constant c) * 256 + c 0
  unfolding priced charge without_constant counted
  priced-parts n c =
      terms-apart n (λ t. price R (ones t) (c t)) (λ t. counted (without_constant c t) (weight R (ones t)) * 256) (c 0)
      (price-constant (ones 0) (c 0) ones-zero) refl (λ t. price-other (ones (suc t)) (c (suc t)) (ones-some t))
      ∙ ap (λ (x : ℕ). x + c 0) (sum-scaled (2 ^ n) 256 (λ t. counted (without_constant c t) (weight R (ones t))))

  -- the constant as a product
  pub charge-apart : (n : ℕ) (c : ℕ → ℕ) → charge R n c ≡ charge R n (without_constant c) + counted (c 0) (weight R 0)
  unfolding charge without_constant counted
  charge-apart n c =
      terms-apart n (λ t. counted (c t) (weight R (ones t))) (λ t. counted (without_constant c t) (weight R (ones t))) (counted (c 0) (weight R 0))
      (ap (λ (l : ℕ). counted (c 0) (weight R l)) ones-zero) refl (λ t. refl)

  -- the prices of the member's coefficients, by blocks
  pub priced-blocks : (C : Class) (n k : ℕ) (f : ℕ → ℕ) (M i : ℕ) (x : ℕ → ℕ) → ones_in n M ≡ k
      → priced R n (member_coefficient C n k f M i x) ≡ sum_below (2 ^ (n - k)) (λ j. block_charge C R n k f M i j (x j))
  unfolding priced member_coefficient block_charge
  priced-blocks C n k f M i x size =
      fold-ext ◌+◌ (2 ^ n) _ (λ t. summand (block n M t) (place n M t))
      (λ t h. ap (λ (l : ℕ). price R l (member_coefficient C n k f M i x t)) (ones-parts n M t h))
      ∙ sums ◌+◌ add_assoc add_comm add-zero n M summand
      ∙ rw (ones-others n k M size, size)
    where
      summand : ℕ → ℕ → ℕ
      summand j r = price R (ones j + ones r) (place_coefficient C k (x j) (block_function n k f M i j) r)
