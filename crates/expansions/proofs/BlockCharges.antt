-- What a block of a member costs, from the byte of its terms: a sum over the bits of the byte, for block 0 with the coefficient of the constant
-- (`block_charge-byte`). The charge of a pair is less than 2 ^ 31 (`pair_charge-small`).
use mathlib.Core.Path.{◌≡◌, sym, ap, ◌∙◌}
use Prim.Native.Nat.{ℕ, zero, suc, ◌+◌, ◌-◌, ◌*◌, ◌/◌, ◌^◌, ◌≤◌, ◌<◌}
use native.Mathlib.Nat.{zero-add, add-zero, add-suc, zero-mul, mul_assoc, mul-le-mul, mul-le-mul_right}
use native.Mathlib.Omega.{arith}
use lib.Pow.{pow_pos, pow_mono, pow-add}
use lib.Count.{ones_in, ones, ones-le}
use Rattle.numbers.specs.Sums.{fold_below, sum_below}
use Rattle.numbers.specs.Bits.{bit}
use Rattle.numbers.proofs.Sums.{fold-ext}
use Rattle.expansions.specs.declared.kinds.Class.{Class}
use Rattle.expansions.specs.Classes.{most_mixed, choices, place_coefficient}
use Rattle.expansions.specs.Inner.Answer.{block_function, block_charge, pair_charge, without_constant}
use Rattle.expansions.specs.Costs.{counted}
use Rattle.expansions.specs.declared.families.Family.{Family}
use Rattle.expansions.specs.Rules.{Rule, weight, rule_of, price}
use Rattle.expansions.specs.Inner.Charges.{literal_count, used_charge, charged_terms, constant_in}
use Rattle.numbers.proofs.Bits.{bit-zero, bit-suc}
use Rattle.expansions.proofs.Classes.{choices-some, most-three, place-coefficient-lt}
use Rattle.expansions.proofs.Blocks.{block_function-lt}
use Rattle.expansions.proofs.Counted.{counted-mul, counted-le}
use Rattle.expansions.proofs.Rules.{weight-le, weight-product, weight-small, rule-some}
use Rattle.expansions.proofs.Costs.{sum-le, sum-scaled, ones-zero, ones-some, charge, priced, price-other, priced-parts}
use Rattle.expansions.proofs.Minimal.{pair_charge-le}
use Rattle.expansions.proofs.Charges.{literal_count-ones, byte_charge-outside}
use Rattle.expansions.proofs.BlockTable.{used, choices-held, used-lt, used-bit, used-missing}

-- indices with nothing add nothing
sum_past : (N d : ℕ) (f : ℕ → ℕ) → ((i : ℕ) → N ≤ i → i < N + d → f i ≡ 0) → sum_below (N + d) f ≡ sum_below N f
unfolding fold_below
sum_past N zero f z = ap (λ (x : ℕ). sum_below x f) (add-zero N)
sum_past N (suc d) f z =
    rw add-suc (omega (arith, sum_past N d f (λ i l h. z i l (omega arith)), z (N + d) (omega arith) (omega arith)))

-- what terms are charged whose bits stand in a byte, where each has as many literals more outside the block
module _ (k : ℕ) (few : k ≤ 3) (c : ℕ → ℕ) (u : ℕ) (byte : u < 2 ^ 8) (bits : (t : ℕ) → t < 2 ^ k → bit t u ≡ counted (c t) 1)
    (missing : (t : ℕ) → 2 ^ k ≤ t → t < 8 → bit t u ≡ 0) (R : Rule) (outside : ℕ) where
  pub byte-charge : sum_below (2 ^ k) (λ r. counted (c r) (weight R (outside + ones r))) ≡ used_charge R outside u
  unfolding used_charge
  byte-charge =
      let places : 2 ^ k ≤ 2 ^ 3 = pow_mono few in
      let charged : ℕ → ℕ → ℕ = λ t l. bit t u * weight R (outside + l) in
      let all : 2 ^ k + (8 - 2 ^ k) ≡ 8 = omega arith in
      fold-ext ◌+◌ (2 ^ k) _ (λ t. charged t (literal_count t))
      (λ t l.
      counted-mul (c t) (weight R (outside + ones t)) ∙ ap (λ (y : ℕ). y * weight R (outside + ones t)) (sym (bits t l))
      ∙ ap (charged t) (sym (literal_count-ones t (omega arith))))
      ∙ sym (sum_past (2 ^ k) (8 - 2 ^ k) (λ t. charged t (literal_count t))
      (λ t l h. ap (λ (x : ℕ). x * weight R (outside + literal_count t)) (missing t l (omega arith)) ∙ zero-mul (weight R (outside + literal_count t))))
      ∙ ap (λ (N : ℕ). sum_below N (λ t. charged t (literal_count t))) all
      ∙ byte_charge-outside R outside u byte

-- the bits of a byte without term 0
even-bit : (c : ℕ → ℕ) (u t : ℕ) → bit t u ≡ counted (c t) 1 → bit t (u / 2 * 2) ≡ counted (without_constant c t) 1
unfolding without_constant counted
even-bit c u zero e = omega (arith, bit-zero (u / 2 * 2))
even-bit c u (suc t) e = let half : u / 2 * 2 / 2 ≡ u / 2 = omega arith in bit-suc t (u / 2 * 2) ∙ ap (bit t) half ∙ sym (bit-suc t u) ∙ e

even-missing : (u t : ℕ) → 1 ≤ t → bit t u ≡ 0 → bit t (u / 2 * 2) ≡ 0
even-missing u zero h e = absurd (omega arith)
even-missing u (suc t) h e = let half : u / 2 * 2 / 2 ≡ u / 2 = omega arith in bit-suc t (u / 2 * 2) ∙ ap (bit t) half ∙ sym (bit-suc t u) ∙ e

-- what a block of a member costs, by the byte of its terms and the coefficient at its place 0
module _ (C : Class) (R : Rule) (m n k : ℕ) (f : ℕ → ℕ) (M i j x : ℕ) (few : k ≤ most_mixed C) (choice : x < choices C k) (size : ones_in n M ≡ k)
    (outputs : (p : ℕ) → p < 2 ^ n → f p < 2 ^ m) where
  g : ℕ → ℕ → ℕ
  g b = block_function n k f M i b

  terms : ℕ → ℕ
  terms b = used m C k x (g b)

  bytes : (b : ℕ) → terms b < 2 ^ 8
  unfolding terms
  bytes b = used-lt m C k x (g b) (choices-held C k x (omega (arith, most-three C)) choice)

  block-bit : (b t : ℕ) → t < 2 ^ k → bit t (terms b) ≡ counted (place_coefficient C k x (g b) t) 1
  unfolding terms g
  block-bit b = used-bit m C k x (g b) few choice (λ p l. block_function-lt m n k M i f outputs size b p)

  block-missing : (b t : ℕ) → 2 ^ k ≤ t → t < 8 → bit t (terms b) ≡ 0
  unfolding terms g
  block-missing b = used-missing m C k x (g b) few choice (λ p l. block_function-lt m n k M i f outputs size b p)

  first_block : block_charge C R n k f M i 0 x ≡ used_charge R (ones 0) (terms 0 / 2 * 2) * 256 + place_coefficient C k x (g 0) 0
  unfolding block_charge g priced charge
  first_block =
      fold-ext ◌+◌ (2 ^ k) _ (λ r. price R (ones r) (place_coefficient C k x (g 0) r))
      (λ r l. ap (λ (y : ℕ). price R (y + ones r) (place_coefficient C k x (g 0) r)) ones-zero ∙ ap (λ (y : ℕ). price R y (place_coefficient C k x (g 0) r)) (zero-add (ones r)))
      ∙ priced-from
      ∙ ap (λ (y : ℕ). y * 256 + place_coefficient C k x (g 0) 0) charged
    where
      c : ℕ → ℕ
      c = without_constant (place_coefficient C k x (g 0))

      priced-from : sum_below (2 ^ k) (λ r. price R (ones r) (place_coefficient C k x (g 0) r)) ≡ charge R k c * 256 + place_coefficient C k x (g 0) 0
      priced-from = priced-parts R k (place_coefficient C k x (g 0))

      charged : charge R k c ≡ used_charge R (ones 0) (terms 0 / 2 * 2)
      charged =
          fold-ext ◌+◌ (2 ^ k) _ (λ r. counted (c r) (weight R (ones 0 + ones r)))
          (λ r l. ap (λ (y : ℕ). counted (c r) (weight R y)) (sym (ap (λ (y : ℕ). y + ones r) ones-zero ∙ zero-add (ones r))))
          ∙ byte-charge k (omega (arith, most-three C)) c (terms 0 / 2 * 2) (omega (arith, bytes 0)) (λ t l. even-bit (place_coefficient C k x (g 0)) (terms 0) t (block-bit 0 t l))
          (λ t l h. even-missing (terms 0) t (omega (arith, pow_pos k)) (block-missing 0 t l h)) R (ones 0)

  other_block : (b : ℕ) → block_charge C R n k f M i (suc b) x ≡ used_charge R (ones (suc b)) (terms (suc b)) * 256
  unfolding block_charge g
  other_block b =
      fold-ext ◌+◌ (2 ^ k) _ _ (λ r l. price-other R (ones (suc b) + ones r) _ (omega (arith, ones-some b)))
      ∙ sum-scaled (2 ^ k) 256 (λ r. counted (place_coefficient C k x (g (suc b)) r) (weight R (ones (suc b) + ones r)))
      ∙ ap (λ (x : ℕ). x * 256)
      (byte-charge k (omega (arith, most-three C)) (place_coefficient C k x (g (suc b))) (terms (suc b)) (bytes (suc b)) (block-bit (suc b)) (block-missing (suc b)) R (ones (suc b)))

  pub block_charge-byte : block_charge C R n k f M i j x
      ≡ used_charge R (ones j) (charged_terms j (used m C k x (block_function n k f M i j))) * 256 + constant_in j (place_coefficient C k x (block_function n k f M i j) 0)
  unfolding charged_terms constant_in terms g
  block_charge-byte = go j
    where
      go : (b : ℕ) → block_charge C R n k f M i b x ≡ used_charge R (ones b) (charged_terms b (terms b)) * 256 + constant_in b (place_coefficient C k x (g b) 0)
      go zero = first_block
      go (suc b) = other_block b ∙ sym (add-zero _)

-- ---- bounds

-- what a product weighs is above every mask
price-le : (R : Rule) (l most c : ℕ) → 0 < R.product → l ≤ most → c < 2 ^ 8 → price R l c ≤ weight R most * 256
unfolding price
price-le R zero most c some h byte = omega (arith, weight-product R most)
price-le R (suc l) most c some h byte = mul-le-mul_right 256 (counted-le c (weight R (suc l)) (weight R most) (weight-le R (suc l) most h))

module _ (C : Class) (F : Family) (n k : ℕ) (f : ℕ → ℕ) (M i : ℕ) (hn : n ≤ 8) (within : k ≤ n) (size : ones_in n M ≡ k)
    (outputs : (p : ℕ) → p < 2 ^ n → f p < 2 ^ 8) where
  -- each of the 2 ^ k terms of a block has at most n literals
  block_charge-le : (j x : ℕ) → j < 2 ^ (n - k) → x < choices C k → block_charge C (rule_of F) n k f M i j x ≤ 2 ^ k * (weight (rule_of F) n * 256)
  unfolding block_charge
  block_charge-le j x h l =
      sum-le (2 ^ k) (weight (rule_of F) n * 256) _
      (λ r g. price-le (rule_of F) (ones j + ones r) n (place_coefficient C k x (block_function n k f M i j) r) (rule-some F)
      (omega (arith, ones-le (n - k) j h, ones-le k r g))
      (place-coefficient-lt 8 C k x (block_function n k f M i j) l (λ s e. block_function-lt 8 n k M i f outputs size j s) r g))

  -- and so the charge of a pair is small
  pub pair_charge-small : pair_charge n k (choices C k) (block_charge C (rule_of F) n k f M i) < 2 ^ 31
  pair_charge-small =
      let W : ℕ = weight (rule_of F) n * 256 in
      let blocks = pair_charge-le n k (choices C k) (2 ^ k * W) (choices-some C k) (block_charge C (rule_of F) n k f M i) block_charge-le in
      let small : weight (rule_of F) n ≤ 8192 = omega (arith, weight-small F n) in
      let product : W ≤ 8192 * 256 = mul-le-mul_right 256 small in
      let inputs : n - k + k ≡ n = omega arith in
      let all : 2 ^ (n - k) * (2 ^ k * W) ≡ 2 ^ n * W = sym (mul_assoc (2 ^ (n - k)) (2 ^ k) W) ∙ ap (λ (x : ℕ). x * W) (sym (pow-add 2 (n - k) k) ∙ ap (λ (x : ℕ). 2 ^ x) inputs) in
      let most : 2 ^ n * W ≤ 2 ^ 8 * (8192 * 256) = mul-le-mul (pow_mono hn) product in
      omega arith
