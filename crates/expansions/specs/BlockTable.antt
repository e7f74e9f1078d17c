-- Document 01, "The block table": functions of three inputs and one output as bytes, and the table's entries. And the table of the free class, of two
-- inputs (document 02, W-207).
use Rattle.std.specs.Prelude.{cond, List, ◌≡◌, ℕ, ◌+◌, ◌*◌, ◌/◌, ◌%◌, ◌<◌}
use Rattle.numbers.specs.Bytes.{at, tabulate}
use Rattle.numbers.specs.Bits.{bit, pack}
use Rattle.numbers.specs.Words.{word}
use Rattle.algebra.specs.Coefficients.{coefficient}
use Rattle.algebra.specs.Expand.{expand}
use Rattle.expansions.specs.declared.kinds.Class.{Class}
use Rattle.expansions.specs.Classes.{apart, own_polarity}

-- "a function is a byte g (bit p is its value at p)". "Entry (g, φ) is the byte of Reed-Muller coefficients of g under φ"
unfoldable pub entry : ℕ → ℕ → ℕ
entry g φ = pack 8 (coefficient 3 φ (λ p. bit p g))

-- "These 2,048 entries": entry (g, φ) at g * 8 + φ
unfoldable pub block_table : List ℕ
block_table = tabulate 2048 (λ x. entry (x / 8) (x % 8))

-- a function of two inputs and one output is four bits g, and entry (g, x) is the byte of its coefficients under the choice x, where its places choose
-- apart
unfoldable pub own_entry : ℕ → ℕ → ℕ
own_entry g x = pack 4 (expand 2 (own_polarity x) (λ p. bit p g))

-- these 256 entries: entry (g, x) at g * 16 + x
unfoldable pub own_table : List ℕ
own_table = tabulate 256 (λ y. own_entry (y / 16) (y % 16))

-- the byte of coefficients of the function g under the choice x of a class with k mixed inputs: "A function of fewer inputs is read as one that ignores
-- the missing ones"
abbrev pub choice_entry : Class → (k g x : ℕ) → ℕ
choice_entry C k g x = cond (apart C k) (own_entry g x) (entry g x)

-- the entries by rows: entry (g, x) is byte x of the word g of the first 256, for x below 8, and byte x - 8 of the word g of the next 256, where there
-- are sixteen choices
abbrev pub Rows : Class → ℕ → List ℕ → Type 0
Rows C k rows = (h g : ℕ) → h < cond (apart C k) 2 1 → g < 256 → at rows (h * 256 + g) ≡ word 8 (λ q. choice_entry C k g (h * 8 + q))
