-- The two classes with k mixed inputs: what a block of terms may choose, and which polarity each place of the block has under a choice. In document 01's
-- class all terms of a block have "one block polarity φj over M"; in the free class of document 02, W-207, each term has "its own polarities in M".
use Rattle.std.specs.Prelude.{Bool, false, cond, ℕ, zero, suc, ◌*◌, ◌/◌, ◌%◌, ◌^◌, leb}
use Rattle.algebra.specs.Coefficients.{coefficient}
use Rattle.algebra.specs.Expand.{expand}
use Rattle.expansions.specs.declared.kinds.Class.{Class}
use Rattle.expansions.specs.declared.kinds.Class.TheVariants.{Block, Free}

-- whether the terms of a block choose apart. Where one input is mixed, or none, no two terms of a block have literals in M, so that in both classes a
-- block has one choice
abbrev pub apart : Class → ℕ → Bool
apart Block k = false
apart Free k = leb 2 k

-- the most mixed inputs: "0 to 3", and of the free class "`f0`, `f1` or `f2`"
abbrev pub most_mixed : Class → ℕ
most_mixed Block = 3
most_mixed Free = 2

-- the polarity of the place s of a block of two mixed inputs, where the places choose apart: the digits of the choice x are the polarities of the places
-- 1, 2 and 3, place 1 the highest, so that the least choice has "the least polarity of term 0, 1, and so on", and a place has the bits of its own inputs
-- only
unfoldable pub own_polarity : (x s : ℕ) → ℕ
own_polarity x zero = 0
own_polarity x (suc zero) = x / 8
own_polarity x (suc (suc zero)) = x / 4 % 2 * 2
own_polarity x (suc (suc (suc s))) = x % 4

-- how many choices a block has: the 2 ^ k polarities over M, or one for each of the places 1, 2 and 3 of two mixed inputs
abbrev pub choices : Class → ℕ → ℕ
choices C k = cond (apart C k) 16 (2 ^ k)

-- the polarity, closed up over M, that the place s of a block has under the choice x
abbrev pub place_polarity : Class → (k x s : ℕ) → ℕ
place_polarity C k x s = cond (apart C k) (own_polarity x s) x

-- the coefficient at the place s of a block that has the function g, under the choice x: with these the block gives g (proofs/Classes, `place-gives`)
abbrev pub place_coefficient : Class → (k x : ℕ) → (ℕ → ℕ) → ℕ → ℕ
place_coefficient C k x g s = cond (apart C k) (expand k (own_polarity x) g s) (coefficient k x g s)

-- what the polarity ρ of the place s of a block, over its own inputs, adds to the choice of the block, as a number whose bits no other place has
unfoldable pub own_choice : (s ρ : ℕ) → ℕ
own_choice zero ρ = 0
own_choice (suc zero) ρ = ρ * 8
own_choice (suc (suc zero)) ρ = ρ * 2
own_choice (suc (suc (suc s))) ρ = ρ

abbrev pub place_choice : Class → (k s ρ : ℕ) → ℕ
place_choice C k s ρ = cond (apart C k) (own_choice s ρ) ρ
