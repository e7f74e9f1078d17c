-- Document 01, "The class of expansions", and document 02, W-207: the members of a class, the polarities of their terms, and, with document 02's inverters
-- (W-205), the table that an expansion gives.
use Rattle.std.specs.Prelude.{◌≡◌, ℕ, ◌+◌, ◌-◌, ◌^◌, ◌<◌, eqb}
use Rattle.std.specs.Int.Bits.{bit_and, bit_or, bit_xor}
use Rattle.std.specs.Int.Count.{ones_in}
use Rattle.numbers.specs.Sums.{fold_below}
use Rattle.numbers.specs.Tests.{only}
use Rattle.algebra.specs.Terms.{value}
use Rattle.expansions.specs.Split.{gather, spread, outside}
use Rattle.expansions.specs.declared.kinds.Class.{Class}
use Rattle.expansions.specs.declared.kinds.Class.TheVariants.{Block, Free}
use Rattle.expansions.specs.Classes.{choices, place_polarity, place_choice}
use Rattle.expansions.specs.Costs.{counted}

-- the block of the term t: its bits "at the inputs outside M, closed up, lowest first"; "A term t belongs to block j when j is t without the bits of M."
abbrev pub block : ℕ → ℕ → ℕ → ℕ
block n M t = gather n (outside n M) t

-- the place of the term t in its block: its bits "at the inputs of M, closed up likewise"
abbrev pub place : ℕ → ℕ → ℕ → ℕ
place n M t = gather n M t

-- "a mixed set M of exactly k inputs (as a mask) and a fixed polarity i with the bits of M zero"
pub record IsPair (n k M i : ℕ) : Type 0 where
  pub mask : M < 2 ^ n
  pub size : ones_in n M ≡ k
  pub fixed : i < 2 ^ n
  pub clear : gather n M i ≡ 0

-- ---- a class in the documents' words

-- what the terms of a block share, where the term t has the polarity w t: "those in M follow φj, shared by all outputs", which is one for all terms of the
-- block; in the free class nothing, "each term having its own polarities in M, shared by outputs"
abbrev pub Shared : Class → (n M : ℕ) → (ℕ → ℕ) → Type 0
Shared Block n M w = (s t : ℕ) → s < 2 ^ n → t < 2 ^ n → block n M s ≡ block n M t → place n M (w s) ≡ place n M (w t)
Shared Free n M w = Unit

-- w t are polarities of the terms t of an expansion of the class with the mixed set M and the fixed polarity i: "Its literals outside M follow i". For the
-- free class this is Definition 1 of document 003, which "lets every literal of a mixed input choose its polarity term by term"
pub record InClass (C : Class) (n k M i : ℕ) (w : ℕ → ℕ) : Type 0 where
  pub pair : IsPair n k M i
  pub within : (t : ℕ) → t < 2 ^ n → w t < 2 ^ n
  pub outer : (t : ℕ) → t < 2 ^ n → block n M (w t) ≡ block n M i
  pub shared : Shared C n M w

-- "A member gives the table whose byte p, at every point p, is the exclusive OR of c[t] over its terms whose literals are all true at p", and document
-- 02, W-205: "An output is the exclusive OR of its terms, then inverted where marked; correctness is measured after the inverter". v is the
-- "inversion mask (bit o for output o)"
abbrev pub Gives : (n v : ℕ) → (w c f : ℕ → ℕ) → Type 0
Gives n v w c f = (p : ℕ) → p < 2 ^ n → bit_xor (value n w c p) v ≡ f p

-- ---- a class by the choices of its blocks

-- the polarity of the term t, where x j is the choice of the block j: outside M it follows i, and in M it is that of its place under the choice of its
-- block
unfoldable pub polarity : Class → (n k M i : ℕ) → (ℕ → ℕ) → ℕ → ℕ
polarity C n k M i x t = i + spread n M (place_polarity C k (x (block n M t)) (place n M t))

-- a mixed set and a fixed polarity, and for each block a choice: in document 01's class "one block polarity φj over M". That such polarities are in the
-- class, and that those in the class show no others, are laws (proofs/Members, `member-class`, `class-choices`)
pub record Member (C : Class) (n k M i : ℕ) (x : ℕ → ℕ) : Type 0 where
  pub pair : IsPair n k M i
  pub inner : (j : ℕ) → j < 2 ^ (n - k) → x j < choices C k

-- ---- what the lines of an expansion show

-- the inputs that the line of the term t shows complemented, where t has the polarity w t and the coefficient c t: those of t alone, and none where t has no
-- line
unfoldable pub shows : (w c : ℕ → ℕ) → ℕ → ℕ
shows w c t = counted (c t) (bit_and t (w t))

-- the choice of the block j "as far as its cubes show it", where w t are the inputs that the line of t shows complemented: each place has its own bits of it,
-- and in document 01's class it is the inputs of M that some cube of the block shows complemented
unfoldable pub shown_choice : Class → (n k M : ℕ) → (ℕ → ℕ) → ℕ → ℕ
shown_choice C n k M w j = fold_below bit_or (2 ^ n) (λ t. only (eqb (block n M t) j) (place_choice C k (place n M t) (place n M (w t))))
