-- An answer in which every term but the constant is a product; the constant is in its mask, so that there are no more (`answer-products-lt`). Where the
-- terms of a block do not choose apart, a rival whose mixed set is the k lowest inputs, with the polarity of the answer's constant on every term, then costs as much and has the same mask; so the
-- answer's M is the least there is (`full-least`).
use mathlib.Core.Path.{◌≡◌, refl, sym, ap, ap₂, ◌∙◌}
use mathlib.Core.Bool.{false}
use Prim.Native.Nat.{ℕ, zero, suc, ◌+◌, ◌-◌, ◌^◌, ◌≤◌, ◌<◌}
use native.Mathlib.Nat.{add-zero, one-mul, not-suc-le-zero}
use native.Mathlib.Omega.{arith}
use lib.Bits.{bit_xor, xor_zero_l}
use lib.Count.{ones_in, ones}
use lib.Pow.{pow_pos}
use Rattle.numbers.specs.Sums.{fold_below, sum_below}
use Rattle.numbers.proofs.Sums.{fold-ext}
use Rattle.algebra.specs.Coefficients.{coefficient}
use Rattle.expansions.specs.declared.kinds.Class.{Class}
use Rattle.expansions.specs.declared.families.Family.{Family}
use Rattle.expansions.specs.declared.families.Family.TheVariants.{One, Two}
use Rattle.expansions.specs.Split.{join}
use Rattle.expansions.specs.Classes.{apart}
use Rattle.expansions.specs.Members.{block, place, polarity, Member, Gives}
use Rattle.expansions.specs.Rules.{cost_of, tie_of}
use Rattle.expansions.specs.Costs.{counted, products, literals}
use Rattle.expansions.specs.Answers.{Minimal}
use Rattle.expansions.specs.Inner.Answer.{member_coefficient, without_constant}
use Rattle.expansions.proofs.Least.{below-one-more, then-le, then-rest}
use Rattle.expansions.proofs.Counted.{counted-le, counted-mul}
use Rattle.expansions.proofs.Costs.{sum-le, terms-apart, products-le, literals-most}
use Rattle.expansions.proofs.Split.{gather-lt, spread-zero, gather-join, join-gather, join-lt}
use Rattle.expansions.proofs.Blocks.{polarity-lt, member-expands, member-coefficient}
use Rattle.expansions.proofs.Inverters.{constant, constant-inverted, gives-unique}
use Rattle.expansions.proofs.Answers.{answer-constant}
use Rattle.expansions.proofs.Lowest.{lowest-pair, lowest-first}

-- ---- all terms are products

counted-one : (c : ℕ → ℕ) (t : ℕ) → counted (c t) 1 ≤ 1
counted-one c t = counted-le (c t) 1 1 (omega arith)

full-each : (N : ℕ) (c : ℕ → ℕ) → N ≤ sum_below N (λ t. counted (c t) 1) → (t : ℕ) → t < N → counted (c t) 1 ≡ 1
unfolding fold_below
full-each zero c h t l = absurd (not-suc-le-zero l)
full-each (suc N) c h t l =
    let below = sum-le N 1 (λ s. counted (c s) 1) (λ s g. counted-one c s) in
    below-one-more N (λ s. counted (c s) 1 ≡ 1) (full-each N c (omega (arith, counted-one c N))) (omega (arith, counted-one c N)) t l

literals-full : (n : ℕ) (c : ℕ → ℕ) → 2 ^ n ≤ products n c → literals n c ≡ sum_below (2 ^ n) ones
unfolding products literals
literals-full n c h = fold-ext ◌+◌ (2 ^ n) _ _ (λ t l. counted-mul (c t) (ones t) ∙ rw (full-each (2 ^ n) c h t l) (one-mul (ones t)))

-- ---- all terms but the constant are products

-- the same coefficients, and the constant 1
unfoldable with_constant : (ℕ → ℕ) → ℕ → ℕ
with_constant c zero = 1
with_constant c (suc t) = c (suc t)

module _ (n : ℕ) (c : ℕ → ℕ) (none : c 0 ≡ 0) where
  products-constant : products n (with_constant c) ≡ products n c + 1
  unfolding products with_constant counted
  products-constant = terms-apart n (λ t. counted (with_constant c t) 1) (λ t. counted (c t) 1) 1 refl (rw none) (λ t. refl)

  literals-constant : literals n (with_constant c) ≡ literals n c + 0
  unfolding literals with_constant counted ones ones_in
  literals-constant = terms-apart n (λ t. counted (with_constant c t) (ones t)) (λ t. counted (c t) (ones t)) 0 refl (rw none) (λ t. refl)

  products-few : products n c < 2 ^ n
  products-few = omega (arith, products-constant, products-le n (with_constant c))

  literals-others : 2 ^ n ≤ suc (products n c) → literals n c ≡ sum_below (2 ^ n) ones
  literals-others h = omega (arith, literals-constant, literals-full n (with_constant c) (omega (arith, products-constant)))

-- a rival that is no cheaper, whichever way the family compares, has all of them too
full-rival : (F : Family) (n : ℕ) (c c' : ℕ → ℕ) → c 0 ≡ 0 → 2 ^ n ≤ suc (products n c)
    → cost_of F (products n c) (literals n c) ≤ cost_of F (products n c') (literals n c') → 2 ^ n ≤ suc (products n c')
full-rival One n c c' none full h = omega arith
full-rival Two n c c' none full h = omega (arith, literals-others n c none full, literals-most n c')

-- ---- the rival with the k lowest inputs, in which every term has the polarity w

module _ (C : Class) (n k w : ℕ) (one : apart C k ≡ false) (hk : k ≤ n) (hw : w < 2 ^ n) where
  abbrev low : ℕ
  low = 2 ^ k - 1

  abbrev fixed : ℕ
  fixed = join n low (block n low w) 0

  abbrev inner : ℕ → ℕ
  inner j = place n low w

  over : ones_in n low ≡ k → place n low w < 2 ^ k
  over size = rw size at (gather-lt n low w)

  alike-member : Member C n k low fixed inner
  alike-member =
      let lowest = lowest-pair n k hk in
      record {
        pair =
            record {
              mask = lowest.mask;
              size = lowest.size;
              fixed = join-lt n low (block n low w) 0;
              clear = gather-join n low (block n low w) 0 (pow_pos (ones_in n low));
            };
        inner = λ j l. rw one (over lowest.size);
      }

  alike-polarity : (t : ℕ) → polarity C n k low fixed inner t ≡ w
  unfolding polarity join
  alike-polarity t = rw (one, spread-zero n low, add-zero) (join-gather n low w hw)

  module _ (f : ℕ → ℕ) where
    alike : ℕ → ℕ
    alike = member_coefficient C n k f low fixed inner

    alike-gives : Gives n (alike 0) (polarity C n k low fixed inner) (without_constant alike) f
    unfolding alike
    alike-gives p h = constant-inverted n (polarity C n k low fixed inner) _ p ∙ member-expands C n k low fixed inner alike-member f p h

    alike-constant : alike 0 ≡ coefficient n w f 0
    unfolding alike
    alike-constant = member-coefficient C n k low fixed inner f one alike-member 0 (pow_pos n) ∙ ap (λ (x : ℕ). coefficient n x f 0) (alike-polarity 0)

-- ---- the answer

module _ (C : Class) (F : Family) (n k : ℕ) (f : ℕ → ℕ) (v M i : ℕ) (x c : ℕ → ℕ) (p l : ℕ) (hn : n ≤ 8) (hk : k ≤ n) (bytes : (q : ℕ) → q < 2 ^ n → f q < 2 ^ 8)
    (minimal : Minimal C F n k f v M i x c p l) where
  none : c 0 ≡ 0
  none = answer-constant C F n k f hn hk bytes v M i x c minimal.answer

  pub answer-products-lt : p < 2 ^ n
  answer-products-lt = omega (arith, minimal.products_counted, products-few n c none)

  w : ℕ
  w = polarity C n k M i x 0

  -- the mask is what the constant would be
  mask-constant : apart C k ≡ false → v ≡ coefficient n w f 0
  unfolding constant w
  mask-constant one =
      sym (xor_zero_l v) ∙ ap (λ (x : ℕ). bit_xor x v) (sym none)
      ∙ gives-unique C n k v M i x minimal.answer.member f c minimal.answer.gives 0 (pow_pos n)
      ∙ member-coefficient C n k M i x f one minimal.answer.member 0 (pow_pos n)

  pub full-least : apart C k ≡ false → 2 ^ n ≤ suc p → M ≡ 2 ^ k - 1
  unfolding without_constant w
  full-least one full =
      let hw : w < 2 ^ n = polarity-lt C n k M i x minimal.answer.member 0 in
      let c' : ℕ → ℕ = without_constant (alike C n k w one hk hw f) in
      let order = minimal.answer.first _ _ _ _ c' (alike-member C n k w one hk hw) (alike-gives C n k w one hk hw f) in
      let all : 2 ^ n ≤ suc (products n c) = omega (arith, minimal.products_counted) in
      let all' : 2 ^ n ≤ suc (products n c') = full-rival F n c c' none all (then-le _ _ order) in
      let same : products n c ≡ products n c' = omega (arith, products-few n c none, products-few n c' refl) in
      let literal : literals n c ≡ literals n c' = literals-others n c none all ∙ sym (literals-others n c' refl all') in
      let byMask = then-rest _ _ (ap₂ (tie_of F) same literal) (then-rest _ _ (ap₂ (cost_of F) same literal) order) in
      let byM = then-rest _ _ (mask-constant one ∙ sym (alike-constant C n k w one hk hw f)) byMask in
      omega (arith, then-le _ _ byM, then-le _ _ (lowest-first n k M i x minimal.answer.member.pair))
