-- The rows of a listing: for each term one number, 256 times the inputs that its cube shows complemented and its outputs, and 0 where no line has
-- the term. Document 02, W-201: the record is had "as far as its cubes show it".
use Rattle.std.specs.Prelude.{cond, ◌&&◌, List, ℕ, ◌/◌, ◌%◌, ◌^◌, eqb, ltb, replicate}
use Rattle.std.specs.Int.Count.{ones_in}
use Rattle.numbers.specs.Bytes.{at, tabulate}
use Rattle.expansions.specs.declared.kinds.Class.{Class}
use Rattle.expansions.specs.Members.{shown_choice}

-- the coefficient of the term t, 0 where no line has it: "Outputs as above, from c[t]"
abbrev pub coefficient_in : List ℕ → ℕ → ℕ
coefficient_in rows t = at rows t % 256

-- the inputs that stand complemented in the cube of the term t
abbrev pub complemented_in : List ℕ → ℕ → ℕ
complemented_in rows t = at rows t / 256

-- the choice of each block as far as its cubes show it: in document 01's class its polarity, each input of M that no cube of the block shows being plain, and
-- in the free class what each term shows of its own; 0 where M is no set of k of the n inputs. w t are the inputs that the cube of the term t shows
-- complemented
unfoldable pub shown_blocks : Class → (n k M : ℕ) → (ℕ → ℕ) → List ℕ
shown_blocks C n k M w = cond (ltb M (2 ^ n) && eqb (ones_in n M) k) (tabulate 256 (shown_choice C n k M w)) (replicate 256 0)
