-- Document 01, "Points, terms and polarities": a term's truth at a point, and the value of an expansion there.
-- Points, terms and polarities are numbers; input xi is bit i - 1 of each, so inputs are counted from 0 here.
use Rattle.std.specs.Prelude.{Bool, ◌≡◌, ℕ, zero, suc, ◌-◌, ◌%◌, ◌^◌, eqb}
use Rattle.std.specs.Int.Bits.{bit_xor}
use Rattle.numbers.specs.Bits.{bit, inside}
use Rattle.numbers.specs.Sums.{xor_below}
use Rattle.numbers.specs.Tests.{only}

-- an input's literal, by the polarity's bit and the input's value: "bit i−1 set means that the literal of xi is complemented"
unfoldable pub literal : ℕ → ℕ → ℕ
literal zero x = x
literal (suc w) x = 1 - x

-- "terms whose literals are all true at p", in words: "it holds a literal of xi when bit i−1 of t is 1"
unfoldable pub LiteralsTrue : ℕ → ℕ → ℕ → Type 0
LiteralsTrue t w p = (i : ℕ) → bit i t ≡ 1 → literal (bit i w) (bit i p) ≡ 1

-- LiteralsTrue as a test on masks: p differs from the polarity w at each input of the term t (proofs/Terms, `holds-words`). "Term 0 is the constant 1."
unfoldable pub holds : ℕ → ℕ → ℕ → Bool
holds t w p = inside t (bit_xor p w)

-- the literal of the lowest input in the polarity w is true at p
unfoldable pub lowest : ℕ → ℕ → Bool
lowest w p = eqb (bit_xor p w % 2) 1

-- Equation (1): "The value at p is the exclusive OR of c[t] over all terms whose literals are all true at p". The polarity may depend
-- on the term; one polarity w for all is `λ t. w`.
unfoldable pub value : ℕ → (ℕ → ℕ) → (ℕ → ℕ) → ℕ → ℕ
value n polarity c p = xor_below (2 ^ n) (λ t. only (holds t (polarity t) p) (c t))
