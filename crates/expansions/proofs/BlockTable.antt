-- The block table's rule from equation (1) (`entry_value`, `entry-unique`), and what the tables of the classes tell of a block of m outputs: the bits of
-- its outputs in the entries are those of its coefficients (`entry-outputs`), and bit t of `used m C k x g` is 1 exactly where the term t has a
-- coefficient under the choice x (`used-bit`). The transform over the other inputs acts on the bytes of the outputs (`plane-coefficient`).
use mathlib.Core.Path.{◌≡◌, refl, sym, ap, ap₂, ◌∙◌}
use mathlib.Core.Bool.{Bool, true, false, cond}
use Prim.Native.Nat.{ℕ, ◌+◌, ◌-◌, ◌*◌, ◌/◌, ◌%◌, ◌^◌, ◌≤◌, ◌<◌, max}
use native.Mathlib.Nat.{mod-eq_of_lt}
use native.Mathlib.Omega.{arith}
use lib.Arith.{digits_div, digits_mod}
use lib.Pow.{pow_pos, pow_mono}
use lib.Bits.{bit_or, or_lt}
use Rattle.numbers.specs.Bytes.{at}
use Rattle.numbers.specs.Sums.{fold_below}
use Rattle.numbers.specs.Bits.{bit, pack}
use Rattle.algebra.specs.Terms.{value}
use Rattle.algebra.specs.Coefficients.{coefficient}
use Rattle.algebra.specs.Expand.{expand}
use Rattle.numbers.proofs.Bytes.{at-tabulate}
use Rattle.numbers.proofs.Sums.{fold-ext, fold-closed}
use Rattle.algebra.proofs.Value.{value-ext}
use Rattle.algebra.proofs.Coefficients.{value-coefficient, coefficient-unique, coefficient-ext, coefficient-bit, coefficient-lt, coefficient-smaller, coefficient-missing}
use Rattle.algebra.proofs.Expand.{expand-ext, expand-bit, expand-lt}
use Rattle.expansions.specs.declared.kinds.Class.{Class}
use Rattle.expansions.specs.Classes.{apart, most_mixed, own_polarity, choices, place_coefficient}
use Rattle.expansions.specs.BlockTable.{entry, block_table, own_entry, own_table, choice_entry}
use Rattle.expansions.specs.Inner.Planes.{plane}
use Rattle.expansions.specs.Costs.{counted}
use Rattle.numbers.proofs.Bits.{bit_below, bit-lt, bit-of-zero, bit_past}
use Rattle.numbers.proofs.Pack.{pack-ext, pack-lt, pack-bit, pack-bits, bit-ors}
use Rattle.expansions.proofs.Classes.{apart-two, most-three, apart-most, place-coefficient-lt}
use Rattle.expansions.proofs.Counted.{counted-bits}

-- the terms that some of the m outputs has under x, as the bits of a byte: "A product used by several outputs counts as a single product"
unfoldable pub used : ℕ → Class → (k x : ℕ) → (ℕ → ℕ) → ℕ
used m C k x g = fold_below bit_or m (λ o. choice_entry C k (plane k g o) x)

-- ---- entries

-- entry (g, φ) stands at g * 8 + φ
pub block_table-entry : (g φ : ℕ) → g < 256 → φ < 8 → at block_table (g * 8 + φ) ≡ entry g φ
unfolding block_table
block_table-entry g φ hg hφ =
    at-tabulate 2048 (λ x. entry (x / 8) (x % 8)) (g * 8 + φ) (omega arith) ∙ ap₂ entry (digits_div g hφ) (digits_mod g hφ)

-- the coefficients of one output are single bits
coefficient-digit : (g φ t : ℕ) → φ < 8 → coefficient 3 φ (λ p. bit p g) t < 2
coefficient-digit g φ t h = coefficient-lt 1 3 φ (λ p. bit p g) h (λ p l. bit-lt p g) t

pub entry_lt : (g φ : ℕ) → φ < 8 → entry g φ < 256
unfolding entry
entry_lt g φ h = pack-lt 8 (coefficient 3 φ (λ p. bit p g)) (λ t l. coefficient-digit g φ t h)

-- bit t of an entry is the coefficient of t
pub entry-bit : (g φ t : ℕ) → φ < 8 → t < 8 → bit t (entry g φ) ≡ coefficient 3 φ (λ p. bit p g) t
unfolding entry
entry-bit g φ t h l = pack-bit 8 (coefficient 3 φ (λ p. bit p g)) (λ s k. coefficient-digit g φ s h) t l

-- the table's rule, from equation (1): with the bits of entry (g, φ) as coefficients under φ, the value at each point is g's
pub entry_value : (g φ : ℕ) → φ < 8 → (p : ℕ) → p < 8 → value 3 (λ t. φ) (λ t. bit t (entry g φ)) p ≡ bit p g
entry_value g φ h p l =
    value-ext 3 (λ t. φ) (λ t. bit t (entry g φ)) (coefficient 3 φ (λ q. bit q g)) p (λ t k. entry-bit g φ t h k) ∙ value-coefficient 3 φ (λ q. bit q g) h p l

-- and no other byte gives g
pub entry-unique : (g φ c : ℕ) → φ < 8 → c < 256 → ((p : ℕ) → p < 8 → value 3 (λ t. φ) (λ t. bit t c) p ≡ bit p g) → c ≡ entry g φ
unfolding entry
entry-unique g φ c h l e =
    sym (pack-bits 8 c l) ∙ pack-ext 8 (λ t. bit t c) (coefficient 3 φ (λ p. bit p g)) (coefficient-unique 3 φ (λ p. bit p g) (λ t. bit t c) h e)

-- ---- entries of the free class

own-digit : (g x t : ℕ) → t < 4 → expand 2 (own_polarity x) (λ p. bit p g) t < 2
own-digit g x t h = expand-lt 1 2 (own_polarity x) (λ p. bit p g) (λ p l. bit-lt p g) t h

pub own_entry-lt : (g x : ℕ) → own_entry g x < 16
unfolding own_entry
own_entry-lt g x = pack-lt 4 (expand 2 (own_polarity x) (λ p. bit p g)) (λ t l. own-digit g x t l)

own_entry-bit : (g x t : ℕ) → t < 4 → bit t (own_entry g x) ≡ expand 2 (own_polarity x) (λ p. bit p g) t
unfolding own_entry
own_entry-bit g x t h = pack-bit 4 (expand 2 (own_polarity x) (λ p. bit p g)) (λ s l. own-digit g x s l) t h

-- entry (g, x) stands at g * 16 + x
pub own_table-entry : (g x : ℕ) → g < 16 → x < 16 → at own_table (g * 16 + x) ≡ own_entry g x
unfolding own_table
own_table-entry g x hg hx =
    at-tabulate 256 (λ y. own_entry (y / 16) (y % 16)) (g * 16 + x) (omega arith) ∙ ap₂ own_entry (digits_div g hx) (digits_mod g hx)

-- only the four bits of g count
pub own_entry-bits : (g h x : ℕ) → ((p : ℕ) → p < 4 → bit p g ≡ bit p h) → own_entry g x ≡ own_entry h x
unfolding own_entry
own_entry-bits g h x e = pack-ext 4 _ _ (expand-ext 2 (own_polarity x) (λ p. bit p g) (λ p. bit p h) e)

-- the entry under the choice y / 256 * 8 + q of the function whose bits the byte y % 256 has lowest
pub own_table-row : (y q : ℕ) → y < 512 → q < 8 → at own_table (y % 16 * 16 + y / 256 * 8 + q) ≡ own_entry (y % 256) (y / 256 * 8 + q)
own_table-row y q hy hq =
    let x : ℕ = y / 256 * 8 + q in
    let place : y % 16 * 16 + y / 256 * 8 + q ≡ y % 16 * 16 + x = omega arith in
    let digits : y % 256 / 16 * 2 ^ 4 + y % 16 ≡ y % 256 = omega arith in
    ap (at own_table) place ∙ own_table-entry (y % 16) x (omega arith) (omega arith)
    ∙ own_entry-bits (y % 16) (y % 256) x (λ p l. sym (bit_below p 4 (y % 256 / 16) (y % 16) l) ∙ ap (bit p) digits)

-- ---- entries of any class

pub choice_entry-lt : (C : Class) (k g x : ℕ) → x < cond (apart C k) 16 8 → choice_entry C k g x < 256
choice_entry-lt C k g x = go (apart C k)
  where
    go : (b : Bool) → x < cond b 16 8 → cond b (own_entry g x) (entry g x) < 256
    go true h = omega (arith, own_entry-lt g x)
    go false h = entry_lt g x h

-- the eight choices of a row are held
pub half-held : (C : Class) (k half q : ℕ) → half < cond (apart C k) 2 1 → q < 8 → half * 8 + q < cond (apart C k) 16 8
half-held C k half q = go (apart C k)
  where
    go : (b : Bool) → half < cond b 2 1 → q < 8 → half * 8 + q < cond b 16 8
    go true h l = omega arith
    go false h l = omega arith

-- ---- the bytes of a block's outputs

pub plane-lt : (k : ℕ) (g : ℕ → ℕ) (o : ℕ) → plane k g o < 256
unfolding plane
plane-lt k g o = pack-lt 8 (λ p. bit o (g (p % 2 ^ k))) (λ p l. bit-lt o (g (p % 2 ^ k)))

pub plane-bit : (k : ℕ) (g : ℕ → ℕ) (o p : ℕ) → p < 8 → bit p (plane k g o) ≡ bit o (g (p % 2 ^ k))
unfolding plane
plane-bit k g o p h = pack-bit 8 (λ q. bit o (g (q % 2 ^ k))) (λ q l. bit-lt o (g (q % 2 ^ k))) p h

-- The transform over the other inputs acts on each bit by itself. h q s is the output byte at block q and place s.
pub plane-coefficient : (k r w : ℕ) (h : ℕ → ℕ → ℕ) (o j : ℕ) → w < 2 ^ r
    → coefficient r w (λ q. plane k (h q) o) j ≡ plane k (λ s. coefficient r w (λ q. h q s) j) o
unfolding plane
plane-coefficient k r w h o j l =
    sym (pack-bits 8 (coefficient r w (λ q. plane k (h q) o) j) (coefficient-lt 8 r w (λ q. plane k (h q) o) l (λ q m. plane-lt k (h q) o) j))
    ∙ pack-ext 8 _ _ (λ p m.
    coefficient-bit p r w (λ q. plane k (h q) o) j ∙ coefficient-ext r w _ _ l (λ q i. plane-bit k (h q) o p m) j
    ∙ sym (coefficient-bit o r w (λ q. h q (p % 2 ^ k)) j))

-- ---- the terms that some output has

-- a block has no more choices than the tables have
pub choices-held : (C : Class) (k x : ℕ) → k ≤ 3 → x < choices C k → x < cond (apart C k) 16 8
choices-held C k x few = go (apart C k)
  where
    go : (b : Bool) → x < cond b 16 (2 ^ k) → x < cond b 16 8
    go true h = h
    go false h = omega (arith, pow_mono few)

-- the terms of m functions under x are terms of three inputs
pub entries-lt : (m : ℕ) (C : Class) (k x : ℕ) (g : ℕ → ℕ) → x < cond (apart C k) 16 8 → fold_below bit_or m (λ o. choice_entry C k (g o) x) < 256
entries-lt m C k x g h = fold-closed bit_or (λ y. y < 2 ^ 8) (pow_pos 8) (or_lt 8) m _ (λ o l. choice_entry-lt C k (g o) x h)

pub used-lt : (m : ℕ) (C : Class) (k x : ℕ) (g : ℕ → ℕ) → x < cond (apart C k) 16 8 → used m C k x g < 256
unfolding used
used-lt m C k x g h = entries-lt m C k x (plane k g) h

-- one output of a block, in document 01's class
module _ (k φ : ℕ) (g : ℕ → ℕ) (few : k ≤ 3) (polarity : φ < 2 ^ k) (o t : ℕ) (h : t < 8) where
  three : k + (3 - k) ≡ 3
  three = omega arith

  eight : φ < 8
  eight = omega (arith, pow_mono few)

  -- the block's function, read as one of three inputs
  whole : ℕ → ℕ
  whole p = g (p % 2 ^ k)

  whole-bit : bit t (entry (plane k g o) φ) ≡ bit o (coefficient 3 φ whole t)
  unfolding whole
  whole-bit =
      entry-bit (plane k g o) φ t eight h ∙ coefficient-ext 3 φ (λ p. bit p (plane k g o)) (λ p. bit o (whole p)) eight (λ p i. plane-bit k g o p i) t
      ∙ sym (coefficient-bit o 3 φ whole t)

  -- the block's own terms have the block's coefficients
  block-output : t < 2 ^ k → bit t (entry (plane k g o) φ) ≡ bit o (coefficient k φ g t)
  unfolding whole
  block-output l =
      whole-bit
      ∙ ap (bit o)
      (ap (λ (n : ℕ). coefficient n φ whole t) (sym three) ∙ coefficient-smaller k (3 - k) φ g t l
      ∙ ap (λ (w : ℕ). coefficient k w g t) (mod-eq_of_lt polarity))

  -- and the others none
  block-past : 2 ^ k ≤ t → bit t (entry (plane k g o) φ) ≡ bit o 0
  unfolding whole
  block-past l = whole-bit ∙ ap (bit o) (ap (λ (n : ℕ). coefficient n φ whole t) (sym three) ∙ coefficient-missing k (3 - k) φ g t l (rw three h))

-- and where the places choose apart
own-output : (x : ℕ) (g : ℕ → ℕ) (o t : ℕ) → t < 4 → bit t (own_entry (plane 2 g o) x) ≡ bit o (expand 2 (own_polarity x) g t)
own-output x g o t h =
    own_entry-bit (plane 2 g o) x t h
    ∙ expand-ext 2 (own_polarity x) (λ p. bit p (plane 2 g o)) (λ p. bit o (g p))
    (λ p l. plane-bit 2 g o p (omega arith) ∙ ap (λ (q : ℕ). bit o (g q)) (mod-eq_of_lt l)) t h
    ∙ sym (expand-bit o 2 (own_polarity x) g t h)

own-past : (x : ℕ) (g : ℕ → ℕ) (o t : ℕ) → 4 ≤ t → bit t (own_entry (plane 2 g o) x) ≡ bit o 0
own-past x g o t h = bit_past 4 t (own_entry (plane 2 g o) x) (own_entry-lt (plane 2 g o) x) h ∙ sym (bit-of-zero o)

module _ (m : ℕ) (C : Class) (k x : ℕ) (g : ℕ → ℕ) (few : k ≤ most_mixed C) (choice : x < choices C k) (outputs : (p : ℕ) → p < 2 ^ k → g p < 2 ^ m) where
  three-at-most : k ≤ 3
  three-at-most = omega (arith, most-three C)

  places : 2 ^ k ≤ 8
  places = pow_mono three-at-most

  -- each output's bits in an entry are those of the coefficients, and 0 past the block's terms
  output-bit : (o t : ℕ) → t < 2 ^ k → bit t (choice_entry C k (plane k g o) x) ≡ bit o (place_coefficient C k x g t)
  output-bit o t h = go (apart C k) refl choice
    where
      go : (b : Bool) → apart C k ≡ b → x < cond b 16 (2 ^ k)
          → bit t (cond b (own_entry (plane k g o) x) (entry (plane k g o) x)) ≡ bit o (cond b (expand k (own_polarity x) g t) (coefficient k x g t))
      go true e l = rw (apart-most C k few e) (own-output x g o t (omega (arith, ap (λ (y : ℕ). 2 ^ y) (apart-most C k few e))))
      go false e l = block-output k x g three-at-most l o t (omega (arith, places)) h

  output-past : (o t : ℕ) → 2 ^ k ≤ t → t < 8 → bit t (choice_entry C k (plane k g o) x) ≡ bit o 0
  output-past o t h small = go (apart C k) refl choice
    where
      go : (b : Bool) → apart C k ≡ b → x < cond b 16 (2 ^ k) → bit t (cond b (own_entry (plane k g o) x) (entry (plane k g o) x)) ≡ bit o 0
      go true e l = rw (apart-most C k few e) (own-past x g o t (omega (arith, pow_mono (apart-two C k e))))
      go false e l = block-past k x g three-at-most l o t small h

  below : (t : ℕ) → t < 2 ^ k → place_coefficient C k x g t < 2 ^ m
  below = place-coefficient-lt m C k x g choice outputs

  -- a bit of the terms that some output has, from the coefficient y that has the outputs' bits
  used-from : (t y : ℕ) → y < 2 ^ m → ((o : ℕ) → bit t (choice_entry C k (plane k g o) x) ≡ bit o y) → bit t (used m C k x g) ≡ counted y 1
  unfolding used
  used-from t y h e =
      bit-ors t m (λ o. choice_entry C k (plane k g o) x) ∙ fold-ext max m _ _ (λ o l. e o) ∙ counted-bits m y ∙ ap (λ (z : ℕ). counted z 1) (mod-eq_of_lt h)

  -- the outputs' bits in the entries are those of the coefficient
  pub entry-outputs : (t : ℕ) → t < 2 ^ k → pack m (λ o. bit t (choice_entry C k (plane k g o) x)) ≡ place_coefficient C k x g t
  entry-outputs t h = pack-ext m _ _ (λ o l. output-bit o t h) ∙ pack-bits m (place_coefficient C k x g t) (below t h)

  -- bit t is 1 exactly where the term t has a coefficient
  pub used-bit : (t : ℕ) → t < 2 ^ k → bit t (used m C k x g) ≡ counted (place_coefficient C k x g t) 1
  used-bit t h = used-from t (place_coefficient C k x g t) (below t h) (λ o. output-bit o t h)

  -- and 0 past the block's terms
  pub used-missing : (t : ℕ) → 2 ^ k ≤ t → t < 8 → bit t (used m C k x g) ≡ 0
  unfolding counted
  used-missing t l h = used-from t 0 (pow_pos m) (λ o. output-past o t l h)
