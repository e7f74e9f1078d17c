-- What the three kinds at the last input cost. No step is made for it: the weights of the two halves and of their exclusive OR give the three
-- scores (`last-shannon`, `last_positive`, `last_negative`), and the lowest of these and the best so far is what the search goes on with
-- (`tried-three`).
use mathlib.Core.Path.{◌≡◌, sym, ap, ap₂, ◌∙◌}
use mathlib.Core.Logic.{◌⊎◌}
use Prim.Native.Nat.{ℕ, zero, suc, ◌+◌, ◌*◌, ◌/◌, ◌^◌, ◌≤◌, ◌<◌}
use native.Mathlib.Nat.{add_assoc, add-zero, mul-add, mul-zero}
use native.Mathlib.Omega.{arith}
use lib.Arith.{digits_div}
use lib.Dec.{lit<}
use Rattle.numbers.specs.Sums.{fold_below, sum_below}
use Rattle.numbers.proofs.Sums.{fold-ext}
use Rattle.expansions.specs.declared.families.Family.TheVariants.{One}
use Rattle.expansions.specs.Costs.{counted, products}
use Rattle.expansions.specs.Rules.{weight, rule_of}
use Rattle.expansions.specs.Kronecker.Letters.{literal_of, literal_count, letters_of}
use Rattle.expansions.specs.Kronecker.Steps.{step_value, kronecker_coefficient}
use Rattle.expansions.specs.Kronecker.Costs.{term_literals, kronecker_charge}
use Rattle.expansions.specs.Inner.KroneckerAnswer.{kind_charge}
use Rattle.expansions.specs.Inner.KroneckerWalk.{weight_of, Halves, score, Among, Lowered, AtPlace}
use Rattle.expansions.proofs.Kronecker.Halves.{half_lt, fold-halves}
use Rattle.expansions.proofs.Kronecker.Letters.{digit_low, digit-top}
use Rattle.expansions.proofs.Kronecker.Steps.{step-top, kronecker-coefficient-letters}
use Rattle.expansions.proofs.Kronecker.Costs.{term-literals-ext, kronecker-charge-parts, kronecker-literals-lt}
use Rattle.expansions.proofs.Kronecker.Walking.{literals-top, count-present, count-absent, count-shannon, add-weight, among-last, last-among}
use Rattle.expansions.proofs.Kronecker.Lowering.{lowered-one, lowered-three}

-- ---- the charge by the highest input

counted-more : (c x k : ℕ) → counted c (x + k) ≡ counted c x + k * counted c 1
unfolding counted
counted-more zero x k = omega (arith, mul-zero k)
counted-more (suc c) x k = omega arith

-- k literals more in every term
sum_more : (N k : ℕ) (c x : ℕ → ℕ) → sum_below N (λ s. counted (c s) (x s + k)) ≡ sum_below N (λ s. counted (c s) (x s)) + k * sum_below N (λ s. counted (c s) 1)
unfolding fold_below
sum_more zero k c x = omega (arith, mul-zero k)
sum_more (suc N) k c x = omega (arith, sum_more N k c x, counted-more (c N) (x N) k, mul-add k (sum_below N (λ s. counted (c s) 1)) (counted (c N) 1))

charge-half : (m : ℕ) (letters c : ℕ → ℕ) (d : ℕ) → d < 2
    → sum_below (2 ^ m) (λ s. counted (c (d * 2 ^ m + s)) (weight (rule_of One) (term_literals (suc m) letters (d * 2 ^ m + s))))
    ≡ kronecker_charge m letters (λ s. c (d * 2 ^ m + s)) + literal_count (literal_of (letters m) d) * products m (λ s. c (d * 2 ^ m + s))
unfolding kronecker_charge products
charge-half m letters c d hd =
    fold-ext ◌+◌ (2 ^ m) _ _
    (λ s hs.
    ap (counted (c (d * 2 ^ m + s)))
    (ap (weight (rule_of One)) (literals-top m letters d s hd hs) ∙ add-weight (term_literals m letters s) (literal_count (literal_of (letters m) d))))
    ∙ sum_more (2 ^ m) (literal_count (literal_of (letters m) d)) (λ s. c (d * 2 ^ m + s)) (λ s. weight (rule_of One) (term_literals m letters s))

charge-top : (m : ℕ) (letters c : ℕ → ℕ) → kronecker_charge (suc m) letters c
    ≡ (kronecker_charge m letters (λ s. c (0 * 2 ^ m + s)) + literal_count (literal_of (letters m) 0) * products m (λ s. c (0 * 2 ^ m + s)))
    + (kronecker_charge m letters (λ s. c (1 * 2 ^ m + s)) + literal_count (literal_of (letters m) 1) * products m (λ s. c (1 * 2 ^ m + s)))
unfolding kronecker_charge
charge-top m letters c =
    fold-halves ◌+◌ add_assoc add-zero m _ ∙ ap₂ ◌+◌ (charge-half m letters c 0 (omega arith)) (charge-half m letters c 1 (omega arith))

charge-products : (m : ℕ) (letters c : ℕ → ℕ) → m ≤ 8 → products m c ≡ kronecker_charge m letters c / 4096
charge-products m letters c h =
    sym (ap (λ (x : ℕ). x / 4096) (kronecker-charge-parts m letters c) ∙ digits_div (products m c) (kronecker-literals-lt m letters c h))

-- ---- the three kinds

-- what a half weighs, with `more` literals in each of its products
abbrev raised : ℕ → ℕ → ℕ
raised more x = x + more * (x / 4096)

module _ (m k power : ℕ) (f values weights : ℕ → ℕ) (a : AtPlace (suc m) m k power f values weights) where
  -- what the step leaves in half d
  abbrev part : (letter d : ℕ) → ℕ → ℕ
  part letter d s = step_value letter d (values s) (values (s + 2 ^ m))

  module _ (letter x : ℕ) (hl : letter < 3) (e : x ≡ letter * 3 ^ m + k) where
    low : (j : ℕ) → j < m → letters_of x j ≡ letters_of k j
    low j l = rw e (digit_low m j letter k l)

    top : letters_of x m ≡ letter
    top = rw e (digit-top m letter k hl a.kind)

    before : (t : ℕ) → t < 2 ^ suc m → kronecker_coefficient m (letters_of x) f t ≡ values t
    before t l = ap (λ (g : ℕ → ℕ). g t) (kronecker-coefficient-letters m (letters_of x) (letters_of k) f low) ∙ sym (a.stepped t l)

    coefficient-half : (d s : ℕ) → d < 2 → s < 2 ^ m → kronecker_coefficient (suc m) (letters_of x) f (d * 2 ^ m + s) ≡ part letter d s
    unfolding kronecker_coefficient
    coefficient-half d s hd hs =
        step-top m (letters_of x m) (kronecker_coefficient m (letters_of x) f) d s hd hs
        ∙ ap (λ (y : ℕ). step_value y d (kronecker_coefficient m (letters_of x) f (0 * 2 ^ m + s)) (kronecker_coefficient m (letters_of x) f (1 * 2 ^ m + s))) top
        ∙ ap₂ (step_value letter d) (before (0 * 2 ^ m + s) (half_lt m 0 s (omega arith) hs) ∙ ap values (omega arith))
        (before (1 * 2 ^ m + s) (half_lt m 1 s (omega arith) hs) ∙ ap values (omega arith))

    half-weight : (d : ℕ) → d < 2 → kronecker_charge m (letters_of x) (λ s. kronecker_coefficient (suc m) (letters_of x) f (d * 2 ^ m + s))
        ≡ weight_of (2 ^ m) weights (part letter d)
    unfolding kronecker_charge weight_of
    half-weight d hd =
        fold-ext ◌+◌ (2 ^ m) _ _
        (λ s hs. ap₂ counted (coefficient-half d s hd hs) (ap (weight (rule_of One)) (term-literals-ext m (letters_of x) (letters_of k) s low) ∙ sym (a.weighed s hs)))

    raised-half : (d : ℕ) → d < 2
        → kronecker_charge m (letters_of x) (λ s. kronecker_coefficient (suc m) (letters_of x) f (d * 2 ^ m + s))
        + literal_count (literal_of (letters_of x m) d) * products m (λ s. kronecker_coefficient (suc m) (letters_of x) f (d * 2 ^ m + s))
        ≡ raised (literal_count (literal_of letter d)) (weight_of (2 ^ m) weights (part letter d))
    raised-half d hd =
        let c : ℕ → ℕ = λ s. kronecker_coefficient (suc m) (letters_of x) f (d * 2 ^ m + s) in
        let small : m ≤ 8 = omega (arith, a.inputs) in
        ap₂ (λ (u v : ℕ). u + literal_count (literal_of v d) * products m c) (half-weight d hd) top
        ∙ ap (λ (u : ℕ). weight_of (2 ^ m) weights (part letter d) + literal_count (literal_of letter d) * u)
        (charge-products m (letters_of x) c small ∙ ap (λ (u : ℕ). u / 4096) (half-weight d hd))

    last-charge : kind_charge (suc m) f x
        ≡ raised (literal_count (literal_of letter 0)) (weight_of (2 ^ m) weights (part letter 0))
        + raised (literal_count (literal_of letter 1)) (weight_of (2 ^ m) weights (part letter 1))
    unfolding kind_charge
    last-charge =
        charge-top m (letters_of x) (kronecker_coefficient (suc m) (letters_of x) f)
        ∙ ap₂ ◌+◌ (raised-half 0 (omega arith)) (raised-half 1 (omega arith))

  module _ (lower upper both : ℕ) (h : Halves m values weights lower upper both) where
    last-shannon : (lower + lower / 4096 + upper + upper / 4096) * 8192 + k ≡ score (suc m) f k
    unfolding score step_value
    last-shannon =
        let e : kind_charge (suc m) f k ≡ raised 1 lower + raised 1 upper =
        last-charge 0 k (lit< tt) (omega arith)
        ∙ ap₂ ◌+◌ (ap₂ raised count-shannon (sym h.lower_is)) (ap₂ raised (count-present 0) (sym h.upper_is)) in
        omega (arith, e)

    last_positive : (lower + both + both / 4096) * 8192 + (k + power) ≡ score (suc m) f (k + power)
    unfolding score step_value
    last_positive =
        let e : kind_charge (suc m) f (k + power) ≡ raised 0 lower + raised 1 both =
        last-charge 1 (k + power) (lit< tt) (omega (arith, a.digit))
        ∙ ap₂ ◌+◌ (ap₂ raised (count-absent 0) (sym h.lower_is)) (ap₂ raised (count-present 1) (sym h.both_is)) in
        omega (arith, e)

    last_negative : (upper + both + both / 4096) * 8192 + (k + power + power) ≡ score (suc m) f (k + power + power)
    unfolding score step_value
    last_negative =
        let e : kind_charge (suc m) f (k + power + power) ≡ raised 0 upper + raised 1 both =
        last-charge 2 (k + power + power) (lit< tt) (omega (arith, a.digit))
        ∙ ap₂ ◌+◌ (ap₂ raised (count-absent 1) (sym h.upper_is)) (ap₂ raised (count-present 2) (sym h.both_is)) in
        omega (arith, e)

    -- each of the three lowers the best so far
    pub tried-three : (best x y z p q r : ℕ) → x ≡ (lower + lower / 4096 + upper + upper / 4096) * 8192 + k
        → y ≡ (lower + both + both / 4096) * 8192 + (k + power) → z ≡ (upper + both + both / 4096) * 8192 + (k + power + power)
        → (p ≤ best) × (p ≤ x) × ((p ≡ best) ⊎ (p ≡ x)) → (q ≤ p) × (q ≤ y) × ((q ≡ p) ⊎ (q ≡ y)) → (r ≤ q) × (r ≤ z) × ((r ≡ q) ⊎ (r ≡ z))
        → Lowered (score (suc m) f) (Among (suc m) m k) best r
    tried-three best x y z p q r ex ey ez hp hq hr =
        let first : k + power ≡ 1 * 3 ^ m + k = omega (arith, a.digit) in
        let second : k + power + power ≡ 2 * 3 ^ m + k = omega (arith, a.digit) in
        lowered-three _ _ _ _ _ _ _ _ _ (lowered-one _ k _ _ _ (ex ∙ last-shannon) hp) (lowered-one _ (k + power) _ _ _ (ey ∙ last_positive) hq)
        (lowered-one _ (k + power + power) _ _ _ (ez ∙ last_negative) hr) (among-last m k (k + power) (k + power + power) first second)
        (last-among m k 0 k a.kind (omega arith) (omega arith)) (last-among m k 1 (k + power) a.kind (omega arith) first)
        (last-among m k 2 (k + power + power) a.kind (omega arith) second)
