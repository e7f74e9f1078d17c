-- The terms that some output has in a block, output by output under eight choices (`or-more`, `used_all`), the literals outside the mixed set
-- (`literals-outside`), and the bound of what a block costs (`charge_from-le`).
use mathlib.Core.Path.{◌≡◌, sym, ap, ap₂, ◌∙◌}
use mathlib.Core.Bool.{Bool, true, false, cond}
use mathlib.Core.List.{List}
use Prim.Native.Nat.{ℕ, zero, suc, ◌+◌, ◌*◌, ◌/◌, ◌%◌, ◌^◌, ◌≤◌, ◌<◌}
use native.Mathlib.Numerals.{add-one}
use native.Mathlib.Omega.{arith}
use lib.Bits.{bit_and, bit_or, and_mask, mask_lt}
use lib.Dec.{lit<}
use lib.Count.{ones, ones_cat, ones-le}
use Rattle.numbers.specs.Bytes.{at}
use Rattle.numbers.specs.Sums.{fold_below}
use Rattle.numbers.specs.Words.{word}
use Rattle.numbers.proofs.Bits.{bit-lt}
use Rattle.numbers.proofs.Pack.{pack-lt}
use Rattle.numbers.proofs.Words.{word-zero, word-or}
use Rattle.expansions.specs.declared.kinds.Class.{Class}
use Rattle.expansions.specs.Classes.{apart}
use Rattle.expansions.specs.BlockTable.{choice_entry, Rows}
use Rattle.expansions.specs.declared.families.Family.{Family}
use Rattle.expansions.specs.Rules.{rule_of}
use Rattle.expansions.specs.Inner.Charges.{literal_count, charged_terms, constant_in}
use Rattle.expansions.proofs.Rules.{weight-eleven}
use Rattle.expansions.proofs.BlockTable.{choice_entry-lt, entries-lt, half-held}
use Rattle.expansions.proofs.Charges.{literal_count-ones, literal_count-le, used_charge-le}
use Rattle.charges.specs.Inner.Charges.{used_at, charge_from}
use Rattle.lanes.specs.Inner.Terms.{coefficient_in}

-- ---- from the rows of a class

-- every class has the first eight choices
pub first-half : (C : Class) (k : ℕ) → 0 < cond (apart C k) 2 1
first-half C k = go (apart C k)
  where
    go : (b : Bool) → 0 < cond b 2 1
    go true = lit< tt
    go false = lit< tt

-- what the rows of the outputs below o have together
abbrev pub or_below : (rows lanes : List ℕ) → (half j o : ℕ) → ℕ
or_below rows lanes half j o = fold_below bit_or o (λ p. at rows (half * 256 + at lanes (j * 8 + p)))

pub or-more : (rows lanes : List ℕ) (half j o used row : ℕ) → used ≡ or_below rows lanes half j o → row ≡ at rows (half * 256 + at lanes (j * 8 + o))
    → bit_or used row ≡ or_below rows lanes half j (o + 1)
unfolding fold_below
or-more rows lanes half j o used row e r = ap₂ bit_or e r ∙ ap (or_below rows lanes half j) (sym (add-one o))

module _ (C : Class) (k : ℕ) (rows lanes : List ℕ) (held : Rows C k rows) (half j : ℕ) (h : half < cond (apart C k) 2 1) where
  -- the terms that some output below o has in block j, under each of the eight choices
  abbrev used_below : (o q : ℕ) → ℕ
  used_below o q = fold_below bit_or o (λ p. choice_entry C k (at lanes (j * 8 + p)) (half * 8 + q))

  used-below : (o : ℕ) → ((p : ℕ) → p < o → at lanes (j * 8 + p) < 256) → or_below rows lanes half j o ≡ word 8 (used_below o)
  unfolding fold_below
  used-below zero small = sym (word-zero 8)
  used-below (suc o) small =
      let g = at lanes (j * 8 + o) in
      ap₂ bit_or (used-below o (λ p l. small p (omega arith))) (held half g h (small o (omega arith)))
      ∙ word-or 8 (used_below o) (λ q. choice_entry C k g (half * 8 + q)) (λ q l. entries-lt o C k (half * 8 + q) (λ p. at lanes (j * 8 + p)) (half-held C k half q h l))
      (λ q l. choice_entry-lt C k g (half * 8 + q) (half-held C k half q h l))

  pub used_all : (o used : ℕ) → o ≡ 8 → used ≡ or_below rows lanes half j o → ((p : ℕ) → at lanes (j * 8 + p) < 256)
      → used ≡ word 8 (λ q. used_at C k (at lanes) j (half * 8 + q))
  unfolding used_at
  used_all o used eight e small = e ∙ ap (or_below rows lanes half j) eight ∙ used-below 8 (λ p l. small p)

pub used_at-lt : (C : Class) (k : ℕ) (lanes : ℕ → ℕ) (j x : ℕ) → x < cond (apart C k) 16 8 → used_at C k lanes j x < 2 ^ 8
unfolding used_at
used_at-lt C k lanes j x h = entries-lt 8 C k x (λ o. lanes (j * 8 + o)) h

-- ---- the terms that are charged, and the constant

charged_terms-lt : (j u : ℕ) → u < 2 ^ 8 → charged_terms j u < 2 ^ 8
unfolding charged_terms
charged_terms-lt zero u h = omega arith
charged_terms-lt (suc j) u h = h

constant_in-le : (j x : ℕ) → constant_in j x ≤ x
unfolding constant_in
constant_in-le zero x = omega arith
constant_in-le (suc j) x = omega arith

pub coefficient_in-lt : (C : Class) (k : ℕ) (lanes : ℕ → ℕ) (j s x : ℕ) → coefficient_in C k lanes j s x < 256
unfolding coefficient_in
coefficient_in-lt C k lanes j s x = pack-lt 8 _ (λ o l. bit-lt s _)

-- the most that a block costs in either family: eight products, each with at most three literals in the block and eight outside it, 256 times, and a mask
abbrev pub most_charge : ℕ
most_charge = 8 * 7681 * 256 + 255

pub charge_from-le : (C : Class) (k : ℕ) (F : Family) (lanes : ℕ → ℕ) (j x : ℕ) → j < 256 → x < cond (apart C k) 16 8 → charge_from C k F lanes j x ≤ most_charge
charge_from-le C k F lanes j x hj h =
    let u = used_at C k lanes j x in
    let terms = used_charge-le (rule_of F) (ones j) (charged_terms j u) (ones-le 8 j hj) (charged_terms-lt j u (used_at-lt C k lanes j x h)) in
    omega (arith, terms, weight-eleven F, constant_in-le j (coefficient_in C k lanes j 0 x), coefficient_in-lt C k lanes j 0 x)

-- ---- literals outside the mixed set

literals-ones : (x : ℕ) → literal_count (bit_and x 7) ≡ ones (x % 8)
literals-ones x = literal_count-ones (bit_and x 7) (mask_lt x 3) ∙ ap ones (and_mask x 3)

pub literals-le : (x : ℕ) → literal_count (bit_and x 7) ≤ 3
literals-le x = literal_count-le (bit_and x 7) (mask_lt x 3)

-- three inputs at a time
pub literals-outside : (j : ℕ) → j < 256 → literal_count (bit_and j 7) + literal_count (bit_and (j / 8) 7) + literal_count (bit_and (j / 64) 7) ≡ ones j
literals-outside j h =
    let top : j / 64 % 8 ≡ j / 8 / 8 = omega arith in
    omega (arith, literals-ones j, literals-ones (j / 8), literals-ones (j / 64) ∙ ap ones top, ones-three j, ones-three (j / 8))
  where
    ones-three : (x : ℕ) → ones x ≡ ones (x / 8) + ones (x % 8)
    ones-three x = let e : x ≡ x / 8 * 8 + x % 8 = omega arith in ap ones e ∙ ones_cat 3 (x / 8) (x % 8) (omega arith)
