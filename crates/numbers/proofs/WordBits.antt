-- Bits side by side in a word. The bits of a byte, each in a byte of its own, as code sets them apart (`word-apart`); and numbers put together from
-- their bits, lowest first, one number a byte (`word-pack-none`, `word-pack-more`).
use mathlib.Core.Path.{◌≡◌, refl, sym, ap, ap₂, ◌∙◌}
use mathlib.Core.Bool.{true}
use Prim.Native.Nat.{ℕ, ◌+◌, ◌*◌, ◌/◌, ◌%◌, ◌^◌, ◌≤◌, ◌<◌}
use native.Mathlib.Nat.{mod-eq_of_lt}
use native.Mathlib.Numerals.{add-one}
use native.Mathlib.Omega.{arith}
use lib.Bits.{bit_and}
use lib.Dec.{eqb, eqb→eq}
use lib.Pow.{pow_mono, shl_lt}
use Rattle.numbers.specs.Bits.{bit, pack}
use Rattle.numbers.specs.Sums.{fold_below}
use Rattle.numbers.specs.Tests.{every}
use Rattle.numbers.specs.Words.{word}
use Rattle.numbers.proofs.Pack.{pack-none, pack-lt}
use Rattle.numbers.proofs.Tests.{every-to}
use Rattle.numbers.proofs.Words.{word-ext, word-zero, word-add, word-scale, word_lt}

-- ---- the bits of a byte

-- the byte stands in each byte of a word, and byte o keeps bit o alone; 127 more carries that bit to the highest of its byte
abbrev pub apart : ℕ → ℕ
apart x = bit_and ((bit_and (x * 72340172838076673) 9241421688590303745 + 9187201950435737471) / 2 ^ 7) 72340172838076673

-- one test for the 256 bytes, which the checker computes
apart-all : every 256 (λ x. eqb (apart x) (word 8 (λ o. bit o x))) ≡ true
unfolding every word
apart-all = refl

pub word-apart : (x : ℕ) → x < 256 → apart x ≡ word 8 (λ o. bit o x)
word-apart x h = eqb→eq (apart x) (word 8 (λ o. bit o x)) (rw (every-to 256 _ apart-all x h) tt)

-- ---- numbers from their bits

pub word-pack-none : (g : ℕ → ℕ → ℕ) → 0 ≡ word 8 (λ o. pack 0 (g o))
word-pack-none g = sym (word-ext 8 _ (λ o. 0) (λ o l. sym (pack-none (g o))) ∙ word-zero 8)

-- bit p of each, as code shifts and adds them
module _ (p x y : ℕ) (g : ℕ → ℕ → ℕ) (next : p < 8) (small : (o s : ℕ) → g o s < 2) (e : x ≡ word 8 (λ o. pack p (g o))) (bits : y ≡ word 8 (λ o. g o p)) where
  bits-shifted : y * 2 ^ p % 2 ^ 64 ≡ word 8 (λ o. g o p * 2 ^ p)
  bits-shifted =
      let l : 1 + p ≤ 8 = omega arith in
      let size : 2 ^ (1 + p) ≤ 2 ^ 8 = pow_mono l in
      ap (λ (v : ℕ). v * 2 ^ p % 2 ^ 64) bits ∙ ap (λ (v : ℕ). v % 2 ^ 64) (word-scale 8 (2 ^ p) (λ o. g o p))
      ∙ mod-eq_of_lt (word_lt 8 (λ o. g o p * 2 ^ p) (λ o k. omega (arith, shl_lt 1 p (small o p))))

  pub word-pack-more : x + y * 2 ^ p % 2 ^ 64 ≡ word 8 (λ o. pack (p + 1) (g o))
  unfolding pack fold_below
  word-pack-more = rw add-one (ap₂ ◌+◌ e bits-shifted ∙ word-add 8 (λ o. pack p (g o)) (λ o. g o p * 2 ^ p))

  pub word-pack-fits : x + y * 2 ^ p % 2 ^ 64 < 2 ^ 64
  word-pack-fits =
      let l : p + 1 ≤ 8 = omega arith in
      let size : 2 ^ (p + 1) ≤ 2 ^ 8 = pow_mono l in
      rw word-pack-more (word_lt 8 _ (λ o k. omega (arith, pack-lt (p + 1) (g o) (λ s j. small o s))))
