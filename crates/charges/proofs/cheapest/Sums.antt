-- The loop over the terms of eight bytes. After t turns the word holds the small sums of the terms below t (`Summed`).
use mathlib.Core.Path.{◌≡◌, sym, ap, ap₂, ◌∙◌}
use Prim.Native.Nat.{ℕ, suc, ◌+◌, ◌*◌, ◌/◌, ◌^◌, ◌≤◌, ◌<◌}
use native.Mathlib.Numerals.{add-one}
use native.Mathlib.Omega.{arith}
use lib.Bits.{bit_and}
use Rattle.numbers.specs.Bits.{bit}
use Rattle.numbers.specs.Words.{word, byte}
use Rattle.numbers.proofs.Words.{word-ext, word-zero, word-add, word-scale, word-digit, word_lt, word_bytes, byte-lt}
use Rattle.expansions.specs.Inner.Charges.{literal_count, sum_to, small_sum}
use Rattle.expansions.proofs.SmallSums.{sum_to-none, sum_to-next, sum_to-le}

-- a term's digit of each byte of the word
abbrev digits : ℕ → ℕ → ℕ
digits t used = bit_and (used / 2 ^ t) 72340172838076673

pub record Summed (used sums t : ℕ) : Type 0 where
  pub fits : used < 2 ^ 64
  pub within : t ≤ 8
  pub each : sums ≡ word 8 (λ φ. sum_to t (byte φ used))

pub summed-none : (used : ℕ) → used < 2 ^ 64 → Summed used 0 0
summed-none used h =
    record { fits = h; within = omega arith; each = sym (word-ext 8 _ (λ φ. 0) (λ φ l. sum_to-none (byte φ used)) ∙ word-zero 8) }

module _ (used sums t v : ℕ) (h : t < 8) (e : v ≡ literal_count t) (s : Summed used sums t) where
  term-word : digits t used * (16 + v) ≡ word 8 (λ φ. bit t (byte φ used) * (16 + literal_count t))
  unfolding word
  term-word =
      ap₂ ◌*◌ (ap (digits t) (sym (word_bytes 8 used s.fits)) ∙ word-digit t h 8 (λ φ. byte φ used) (λ φ l. byte-lt φ used)) (ap (λ (x : ℕ). 16 + x) e)
      ∙ word-scale 8 (16 + literal_count t) (λ φ. bit t (byte φ used))

  next-sums : sums + digits t used * (16 + v) ≡ word 8 (λ φ. sum_to (suc t) (byte φ used))
  next-sums =
      ap₂ ◌+◌ s.each term-word ∙ word-add 8 (λ φ. sum_to t (byte φ used)) (λ φ. bit t (byte φ used) * (16 + literal_count t))
      ∙ word-ext 8 _ _ (λ φ l. sym (sum_to-next t (byte φ used)))

  pub summed-fits : sums + digits t used * (16 + v) < 2 ^ 64
  summed-fits = rw next-sums (word_lt 8 _ (λ φ l. omega (arith, sum_to-le (suc t) (byte φ used) h)))

  pub summed-more : Summed used (sums + digits t used * (16 + v)) (t + 1)
  summed-more = record { fits = s.fits; within = omega arith; each = rw (add-one t) next-sums }

pub summed-all : (used sums t : ℕ) → 8 ≤ t → Summed used sums t → sums ≡ word 8 (λ φ. small_sum (byte φ used))
summed-all used sums t h s =
    let e : t ≡ 8 = omega (arith, s.within) in
    s.each ∙ ap (λ (x : ℕ). word 8 (λ φ. sum_to x (byte φ used))) e
