-- The answer among the Kronecker expansions as a function. Its result is the expansion of document 02's words, and the only one (proofs/Kronecker/Answers,
-- `kronecker-answer-is`, `kronecker-answer-only`): no promise rests on this file.
use Rattle.std.specs.Prelude.{true, ℕ, ◌^◌, ltb}
use Rattle.numbers.specs.Tests.{only}
use Rattle.expansions.specs.Least.{first_least, chosen}
use Rattle.expansions.specs.Kronecker.Letters.{letters_of}
use Rattle.expansions.specs.Kronecker.Steps.{kronecker_coefficient}
use Rattle.expansions.specs.Kronecker.Costs.{kronecker_charge}

-- what the kind with the number x costs
unfoldable pub kind_charge : ℕ → (ℕ → ℕ) → ℕ → ℕ
kind_charge n f x = kronecker_charge n (letters_of x) (kronecker_coefficient n (letters_of x) f)

-- the first least of the 3 ^ n kinds, by its number
unfoldable pub answer_kind : ℕ → (ℕ → ℕ) → ℕ
answer_kind n f = chosen (first_least (3 ^ n) (λ x. true) (kind_charge n f))

-- the answer's letter of input i, and 0 where there is no input i
abbrev pub answer_letters : ℕ → (ℕ → ℕ) → ℕ → ℕ
answer_letters n f = letters_of (answer_kind n f)

-- the answer's coefficient of the term t, "zero from 2^n on"
unfoldable pub answer_coefficient : ℕ → (ℕ → ℕ) → ℕ → ℕ
answer_coefficient n f t = only (ltb t (2 ^ n)) (kronecker_coefficient n (answer_letters n f) f t)
