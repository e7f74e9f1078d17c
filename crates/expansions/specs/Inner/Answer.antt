-- The answer of each class and family as a function, block by block. Its result is the expansion of the documents' words, and the only one (proofs/Answers,
-- `answer-is`, `answer-only`): no promise rests on this file.
use Rattle.std.specs.Prelude.{Bool, true, ◌&&◌, ℕ, zero, suc, ◌+◌, ◌-◌, ◌*◌, ◌/◌, ◌%◌, ◌^◌, eqb, ltb}
use Rattle.std.specs.Int.Count.{ones_in, ones}
use Rattle.numbers.specs.Sums.{sum_below}
use Rattle.numbers.specs.Tests.{only}
use Rattle.algebra.specs.Coefficients.{coefficient}
use Rattle.expansions.specs.Split.{gather, outside, join}
use Rattle.expansions.specs.declared.kinds.Class.{Class}
use Rattle.expansions.specs.Classes.{choices, place_coefficient}
use Rattle.expansions.specs.Members.{block, place}
use Rattle.expansions.specs.declared.families.Family.{Family}
use Rattle.expansions.specs.Rules.{Rule, price, rule_of}
use Rattle.expansions.specs.Least.{first_least, chosen}

-- the function of the inputs of M that stands in the block j, once the inputs outside M are expanded under i; no φj has a part in it
unfoldable pub block_function : ℕ → ℕ → (ℕ → ℕ) → (M i j : ℕ) → ℕ → ℕ
block_function n k f M i j s = coefficient (n - k) (gather n (outside n M) i) (λ q. f (join n M q s)) j

-- the coefficient of the term t in the member M, i, x that gives f with no inverter: that of its place, in the function of its block, under the block's
-- choice
unfoldable pub member_coefficient : Class → (n k : ℕ) → (ℕ → ℕ) → (M i : ℕ) → (ℕ → ℕ) → ℕ → ℕ
member_coefficient C n k f M i x t = place_coefficient C k (x (block n M t)) (block_function n k f M i (block n M t)) (place n M t)

-- what the block j costs under the choice x, by a rule; block 0 has the constant, whose coefficient goes into the inversion mask
unfoldable pub block_charge : Class → Rule → (n k : ℕ) → (ℕ → ℕ) → (M i j x : ℕ) → ℕ
block_charge C R n k f M i j x = sum_below (2 ^ k) (λ r. price R (ones j + ones r) (place_coefficient C k x (block_function n k f M i j) r))

-- "in each block the least φj" of those under which the block, by its charge, costs least: the first of N choices
unfoldable pub least_choice : ℕ → (ℕ → ℕ) → ℕ
least_choice N charge = chosen (first_least N (λ x. true) charge)

-- what M and i cost, by "any charge that adds up over blocks", of each block under each of N choices: every block has its least choice
unfoldable pub pair_charge : (n k N : ℕ) → (ℕ → ℕ → ℕ) → ℕ
pair_charge n k N charge = sum_below (2 ^ (n - k)) (λ j. charge j (least_choice N (charge j)))

-- M has "exactly k inputs", and i has "the bits of M zero"
unfoldable pub valid_pair : ℕ → ℕ → (M i : ℕ) → Bool
valid_pair n k M i = eqb (ones_in n M) k && eqb (gather n M i) 0

-- the first least of the valid pairs, by the charge of each M, i, block and choice: "least M, then least i" is the least M * 2 ^ n + i
unfoldable pub least_pair : (n k N : ℕ) → (ℕ → ℕ → Bool) → (ℕ → ℕ → ℕ → ℕ → ℕ) → ℕ
least_pair n k N valid charge =
    chosen (first_least (2 ^ n * 2 ^ n) (λ x. valid (x / 2 ^ n) (x % 2 ^ n)) (λ x. pair_charge n k N (charge (x / 2 ^ n) (x % 2 ^ n))))

-- the answer's M and i, as one number
unfoldable pub answer_pair : Class → Family → (n k : ℕ) → (ℕ → ℕ) → ℕ
answer_pair C F n k f = least_pair n k (choices C k) (valid_pair n k) (block_charge C (rule_of F) n k f)

-- the answer's mixed set M
unfoldable pub answer_mixed : Class → Family → (n k : ℕ) → (ℕ → ℕ) → ℕ
answer_mixed C F n k f = answer_pair C F n k f / 2 ^ n

-- the answer's fixed polarity i
unfoldable pub answer_fixed : Class → Family → (n k : ℕ) → (ℕ → ℕ) → ℕ
answer_fixed C F n k f = answer_pair C F n k f % 2 ^ n

-- the choice of the block j in the answer, in document 01's class its block polarity φj, and 0 where there is no block j
unfoldable pub answer_choice : Class → Family → (n k : ℕ) → (ℕ → ℕ) → ℕ → ℕ
answer_choice C F n k f j =
    only (ltb j (2 ^ (n - k))) (least_choice (choices C k) (block_charge C (rule_of F) n k f (answer_mixed C F n k f) (answer_fixed C F n k f) j))

-- the answer's coefficient of the term t before the constant is taken for the mask, "zero from 2^n on"
unfoldable pub expanded_coefficient : Class → Family → (n k : ℕ) → (ℕ → ℕ) → ℕ → ℕ
expanded_coefficient C F n k f t =
    only (ltb t (2 ^ n)) (member_coefficient C n k f (answer_mixed C F n k f) (answer_fixed C F n k f) (answer_choice C F n k f) t)

-- the answer's inversion mask: the constant 1 on an output is that output inverted, and "inverters are free"
unfoldable pub answer_inverted : Class → Family → (n k : ℕ) → (ℕ → ℕ) → ℕ
answer_inverted C F n k f = expanded_coefficient C F n k f 0

-- the coefficients of all terms but the constant, which has none
unfoldable pub without_constant : (ℕ → ℕ) → ℕ → ℕ
without_constant c zero = 0
without_constant c (suc t) = c (suc t)

-- the answer's coefficient of the term t, "zero from 2^n on"
unfoldable pub answer_coefficient : Class → Family → (n k : ℕ) → (ℕ → ℕ) → ℕ → ℕ
answer_coefficient C F n k f = without_constant (expanded_coefficient C F n k f)
