-- One output of a block of at most three inputs, as a function of three. Cited by the contracts of private functions alone.
use Rattle.std.specs.Prelude.{ℕ, ◌%◌, ◌^◌}
use Rattle.numbers.specs.Bits.{bit, pack}

-- the byte of output o of a block's function g of k inputs: "A function of fewer inputs is read as one that ignores the missing ones"
unfoldable pub plane : ℕ → (ℕ → ℕ) → ℕ → ℕ
plane k g o = pack 8 (λ p. bit o (g (p % 2 ^ k)))
