-- The coefficients of a function where each term has a polarity of its own, as Definition 1 of document 003 allows: by the lowest input. They give the
-- function, and no others do (proofs/Expand, `expand-gives`, `expand-unique`).
use Rattle.std.specs.Prelude.{ℕ, zero, suc, ◌+◌, ◌*◌, ◌/◌, ◌%◌}
use Rattle.std.specs.Int.Bits.{bit_xor}
use Rattle.numbers.specs.Tests.{only}
use Rattle.algebra.specs.Terms.{lowest, value}

-- the polarities, over the other inputs, of the terms with the lowest input, and of those without it
abbrev pub with_polarity : (ℕ → ℕ) → ℕ → ℕ
with_polarity w s = w (s * 2 + 1) / 2

abbrev pub without_polarity : (ℕ → ℕ) → ℕ → ℕ
without_polarity w s = w (s * 2) / 2

-- what the points 2 q and 2 q + 1, which differ in the lowest input only, differ by
abbrev pub difference : (ℕ → ℕ) → ℕ → ℕ
difference f q = bit_xor (f (q * 2)) (f (q * 2 + 1))

-- what the terms with the lowest input, of the coefficients c, leave of f at the point 2 q
unfoldable pub remainder : ℕ → (w c f : ℕ → ℕ) → ℕ → ℕ
remainder n w c f q = bit_xor (f (q * 2)) (value n (with_polarity w) (λ s. only (lowest (w (s * 2 + 1)) (q * 2)) (c s)) q)

-- a at s where the digit is 0, and b at s where it is not
unfoldable pub by_digit : ℕ → (a b : ℕ → ℕ) → ℕ → ℕ
by_digit zero a b s = a s
by_digit (suc d) a b s = b s

-- the coefficient of the term t of the function f of n inputs, where the term s has the polarity w s: the terms with the lowest input are the
-- expansion of the differences, and the terms without it that of what those leave
unfoldable pub expand : ℕ → (w f : ℕ → ℕ) → ℕ → ℕ
expand zero w f t = f 0
expand (suc n) w f t =
    by_digit (t % 2) (expand n (without_polarity w) (remainder n w (expand n (with_polarity w) (difference f)) f)) (expand n (with_polarity w) (difference f)) (t / 2)
