-- The byte of a coefficient, output by output: the bit of each output stands in the row of that output's block function, at the place's bit of the
-- choice's byte (`outputs-more`). With the rows of a class it is the bit of the class's entry (`rows-coefficient`).
use mathlib.Core.Bool.{Bool, true, false, cond}
use mathlib.Core.Path.{◌≡◌, ap, ◌∙◌}
use mathlib.Core.List.{List}
use Prim.Native.Nat.{ℕ, ◌+◌, ◌*◌, ◌/◌, ◌%◌, ◌^◌, ◌<◌}
use native.Mathlib.Omega.{arith}
use lib.Bits.{bit_and, and_mask}
use Rattle.numbers.specs.Bytes.{at}
use Rattle.numbers.specs.Bits.{bit, pack}
use Rattle.numbers.proofs.Bits.{bit-lt}
use Rattle.numbers.proofs.Pack.{pack-ext, pack-more, pack-fits}
use Rattle.numbers.proofs.Words.{word-bit}
use Rattle.expansions.specs.declared.kinds.Class.{Class}
use Rattle.expansions.specs.Classes.{apart}
use Rattle.expansions.specs.BlockTable.{choice_entry, Rows}
use Rattle.expansions.proofs.BlockTable.{choice_entry-lt, half-held}
use Rattle.lanes.specs.Inner.Terms.{coefficient_in}

-- output o at the place s of block j under the choice x
abbrev pub output_bit : (rows lanes : List ℕ) → (j s x : ℕ) → ℕ → ℕ
output_bit rows lanes j s x o = bit (8 * (x % 8) + s) (at rows (x / 8 * 256 + at lanes (j * 8 + o)))

-- as the code reads it: `half` and `few` are the choice's half and its number there, and g is the function of output o
abbrev digit : (rows : List ℕ) (half few g s : ℕ) → ℕ
digit rows half few g s = bit_and (at rows (half * 256 + g) / 2 ^ (8 * few + s)) 1

-- The byte of the outputs below o, with output o added.
module _ (rows lanes : List ℕ) (j s x o byte half few g : ℕ) (next : o < 8) (outputs : byte ≡ pack o (output_bit rows lanes j s x))
    (high : half ≡ x / 8) (low : few ≡ bit_and x 7) (function : g ≡ at lanes (j * 8 + o)) where
  output-read : digit rows half few g s ≡ output_bit rows lanes j s x o
  output-read =
      rw (high, low, function)
      (let row : ℕ = at rows (x / 8 * 256 + at lanes (j * 8 + o)) in
      and_mask (row / 2 ^ (8 * bit_and x 7 + s)) 1 ∙ ap (λ (y : ℕ). bit (8 * y + s) row) (and_mask x 3))

  pub outputs-more : byte + digit rows half few g s * 2 ^ o % 2 ^ 8 ≡ pack (o + 1) (output_bit rows lanes j s x)
  outputs-more = rw output-read (pack-more o byte (output_bit rows lanes j s x) next (λ p. bit-lt (8 * (x % 8) + s) _) outputs)

  pub outputs-fit : byte + digit rows half few g s * 2 ^ o % 2 ^ 8 < 2 ^ 8
  outputs-fit = rw output-read (pack-fits o byte (output_bit rows lanes j s x) next (λ p. bit-lt (8 * (x % 8) + s) _) outputs)

-- ---- with the rows of a class

module _ (C : Class) (k : ℕ) (rows lanes : List ℕ) (held : Rows C k rows) (j s x : ℕ) (place : s < 8) (choice : x < cond (apart C k) 16 8)
    (functions : (o : ℕ) → o < 8 → at lanes (j * 8 + o) < 256) where
  half : x / 8 < cond (apart C k) 2 1
  half = go (apart C k) choice
    where
      go : (b : Bool) → x < cond b 16 8 → x / 8 < cond b 2 1
      go true h = omega arith
      go false h = omega arith

  output-entry : (o : ℕ) → o < 8 → output_bit rows lanes j s x o ≡ bit s (choice_entry C k (at lanes (j * 8 + o)) x)
  output-entry o h =
      let g : ℕ = at lanes (j * 8 + o) in
      let whole : x / 8 * 8 + x % 8 ≡ x = omega arith in
      ap (bit (8 * (x % 8) + s)) (held (x / 8) g half (functions o h))
      ∙ word-bit 8 (λ q. choice_entry C k g (x / 8 * 8 + q)) (λ q l. choice_entry-lt C k g (x / 8 * 8 + q) (half-held C k (x / 8) q half l)) (x % 8) s (omega arith) place
      ∙ ap (λ (y : ℕ). bit s (choice_entry C k g y)) whole

  pub rows-coefficient : pack 8 (output_bit rows lanes j s x) ≡ coefficient_in C k (at lanes) j s x
  unfolding coefficient_in
  rows-coefficient = pack-ext 8 _ _ output-entry
