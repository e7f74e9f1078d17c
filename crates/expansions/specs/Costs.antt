-- What an expansion of n inputs with the coefficients c costs: its products and its literals.
use Rattle.std.specs.Prelude.{ℕ, zero, suc, ◌^◌}
use Rattle.std.specs.Int.Count.{ones}
use Rattle.numbers.specs.Sums.{sum_below}

-- x where the coefficient is not 0, and 0 where it is
unfoldable pub counted : ℕ → ℕ → ℕ
counted zero x = 0
counted (suc c) x = x

-- "Products are the terms with c[t] not 0", each counted once: "A product used by several outputs counts as a single product."
unfoldable pub products : ℕ → (ℕ → ℕ) → ℕ
products n c = sum_below (2 ^ n) (λ t. counted (c t) 1)

-- "literals are the bits set in those t, summed"
unfoldable pub literals : ℕ → (ℕ → ℕ) → ℕ
literals n c = sum_below (2 ^ n) (λ t. counted (c t) (ones t))
