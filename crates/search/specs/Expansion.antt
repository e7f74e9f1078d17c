-- Document 01's expansion record: what the search hands up, the record with no product, and the polarity of a record's terms.
use Rattle.std.specs.Prelude.{◌&&◌, cond, List, ℕ, ◌-◌, ◌^◌, min, leb, ltb, replicate}
use Rattle.numbers.specs.Bytes.{at}
use Rattle.expansions.specs.declared.kinds.Class.{Class}
use Rattle.expansions.specs.declared.families.Family.{Family}
use Rattle.expansions.specs.Members.{polarity}
use Rattle.expansions.specs.Answers.{Minimal}
use Rattle.search.specs.declared.expansion.Expansion.{Expansion}

-- "All zero: M = 2^k − 1, i = 0, 0 products", with no more than the eight inputs in M, and no output inverted
unfoldable pub empty_expansion : ℕ → Expansion
empty_expansion k =
    record {
      coefficients = replicate 256 0;
      blocks = replicate 256 0;
      mixed = 2 ^ min k 8 - 1;
      fixed = 0;
      products = 0;
      literals = 0;
      inverted = 0;
    }

-- "Its literals outside M follow i; those in M follow φj", or in the free class the term's own polarity: that of the term t, and 0 where the masks are
-- not of n inputs
unfoldable pub term_polarity : Class → (n k M i : ℕ) → List ℕ → ℕ → ℕ
term_polarity C n k M i blocks t = cond (leb n 8 && (ltb M (2 ^ n) && ltb i (2 ^ n))) (polarity C n k M i (at blocks) t) 0

-- the record holds the answer of the class and the family for the table f: "the member that gives the table with fewest products, .."
abbrev pub Answered : Class → Family → ℕ → ℕ → (ℕ → ℕ) → Expansion → Type 0
Answered C F n k f e = Minimal C F n k f e.inverted e.mixed e.fixed (at e.blocks) (at e.coefficients) e.products e.literals
