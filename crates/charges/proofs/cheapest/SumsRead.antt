-- The bytes of the words that the code compares are the small sums of eight choices (`sums-read`), in block 0 without the constant (`kept_read`).
use mathlib.Core.Path.{◌≡◌, ap, ◌∙◌}
use Prim.Native.Nat.{ℕ, ◌*◌, ◌/◌, ◌<◌}
use native.Mathlib.Omega.{arith}
use Rattle.numbers.specs.Words.{word, byte}
use Rattle.numbers.proofs.Words.{word-ext, word_byte, byte-lt}
use Rattle.expansions.specs.Inner.Charges.{small_sum}
use Rattle.expansions.proofs.SmallSums.{small_sum-le}

module _ (used : ℕ) (u : ℕ → ℕ) (bytes : (q : ℕ) → q < 8 → u q < 256) (e : used ≡ word 8 u) where
  pub byte-read : (q : ℕ) → q < 8 → byte q used ≡ u q
  byte-read q h = ap (byte q) e ∙ word_byte 8 u bytes q h

  pub sums-read : (sums : ℕ) → sums ≡ word 8 (λ q. small_sum (byte q used)) → (q : ℕ) → q < 8 → byte q sums ≡ small_sum (u q)
  sums-read sums es q h =
      ap (byte q) es ∙ word_byte 8 (λ r. small_sum (byte r used)) (λ r l. omega (arith, small_sum-le (byte r used) (byte-lt r used))) q h
      ∙ ap small_sum (byte-read q h)

  pub kept_read : (kept : ℕ) → kept ≡ word 8 (λ q. byte q used / 2 * 2) → kept ≡ word 8 (λ q. u q / 2 * 2)
  kept_read kept ek = ek ∙ word-ext 8 _ _ (λ q h. ap (λ (x : ℕ). x / 2 * 2) (byte-read q h))
