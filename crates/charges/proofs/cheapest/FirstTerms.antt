-- The constant of a block under eight choices: term 0 of each byte of terms in a word (`first-terms`), the entries in the row of an output
-- (`entries-first`), and the bytes of terms without it (`even-bytes`).
use mathlib.Core.Path.{◌≡◌, sym, ap, ◌∙◌}
use mathlib.Core.Bool.{cond}
use mathlib.Core.List.{List}
use Prim.Native.Nat.{ℕ, ◌+◌, ◌-◌, ◌*◌, ◌/◌, ◌^◌, ◌<◌}
use native.Mathlib.Omega.{arith}
use lib.Bits.{bit_and}
use Rattle.numbers.specs.Bytes.{at}
use Rattle.numbers.specs.Bits.{bit}
use Rattle.numbers.specs.Words.{word, byte}
use Rattle.numbers.proofs.Bits.{bit-zero}
use Rattle.numbers.proofs.Words.{word-ext, word-add, word-digit, word_byte, word_bytes, byte-lt}
use Rattle.expansions.specs.declared.kinds.Class.{Class}
use Rattle.expansions.specs.Classes.{apart}
use Rattle.expansions.specs.BlockTable.{choice_entry, Rows}
use Rattle.expansions.proofs.BlockTable.{choice_entry-lt, half-held}

-- the lowest bit of each byte of a word
abbrev pub lowest : ℕ → ℕ
lowest w = bit_and w 72340172838076673

lowest-word : (u : ℕ → ℕ) → ((q : ℕ) → q < 8 → u q < 256) → lowest (word 8 u) ≡ word 8 (λ q. bit 0 (u q))
unfolding word
lowest-word u small =
    let e : word 8 u / 2 ^ 0 ≡ word 8 u = omega arith in
    ap (λ (x : ℕ). bit_and x 72340172838076673) (sym e) ∙ word-digit 0 (omega arith) 8 u small

pub first-terms : (used : ℕ) → used < 2 ^ 64 → lowest used ≡ word 8 (λ φ. bit 0 (byte φ used))
first-terms used h = ap lowest (sym (word_bytes 8 used h)) ∙ lowest-word (λ φ. byte φ used) (λ φ l. byte-lt φ used)

-- the lowest bits of the entries in the row of an output's block function
pub entries-first : (C : Class) (k : ℕ) (rows : List ℕ) → Rows C k rows → (half : ℕ) → half < cond (apart C k) 2 1 → (g : ℕ) → g < 256
    → (q : ℕ) → q < 8 → byte q (at rows (half * 256 + g)) ≡ choice_entry C k g (half * 8 + q)
entries-first C k rows held half h g l q b =
    ap (byte q) (held half g h l)
    ∙ word_byte 8 (λ r. choice_entry C k g (half * 8 + r)) (λ r a. choice_entry-lt C k g (half * 8 + r) (half-held C k half r h a)) q b

-- ---- without it

module _ (used : ℕ) (fits : used < 2 ^ 64) where
  even : ℕ
  even = word 8 (λ φ. byte φ used / 2 * 2)

  parts : even + lowest used ≡ used
  unfolding even
  parts =
      ap (λ (x : ℕ). word 8 (λ φ. byte φ used / 2 * 2) + x) (first-terms used fits)
      ∙ word-add 8 (λ φ. byte φ used / 2 * 2) (λ φ. bit 0 (byte φ used))
      ∙ word-ext 8 _ (λ φ. byte φ used) (λ φ l. omega (arith, bit-zero (byte φ used)))
      ∙ word_bytes 8 used fits

  pub even-bytes : used - lowest used ≡ word 8 (λ φ. byte φ used / 2 * 2)
  unfolding even
  even-bytes = omega (arith, parts)
