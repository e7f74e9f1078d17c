-- Bytes side by side in one word: byte q of the word is the q-th of them, the first lowest.
use Rattle.std.specs.Prelude.{ℕ, zero, suc, ◌+◌, ◌*◌, ◌/◌, ◌%◌, ◌^◌}

-- g 0, .., g (n - 1) as the bytes of a word
unfoldable pub word : ℕ → (ℕ → ℕ) → ℕ
word zero g = 0
word (suc n) g = word n (λ q. g (suc q)) * 256 + g 0

-- byte q of x
unfoldable pub byte : ℕ → ℕ → ℕ
byte q x = x / 2 ^ (8 * q) % 256
