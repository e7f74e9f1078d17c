-- Whether a listing is of the class, as a test on its terms, and the member that they show. Document 02, W-201, and W-207: "the listing repeats that field,
-- and the fitter judges by it". A listing is known by two functions of the term t: c t is the coefficient on the line of t, and 0 where there is none; w t
-- are the inputs that its cube shows complemented, and 0 where there is none.
use Rattle.std.specs.Prelude.{Bool, ◌&&◌, ◌||◌, ◌≡◌, ℕ, ◌^◌, ◌<◌, T, eqb, ltb}
use Rattle.std.specs.Int.Bits.{bit_and}
use Rattle.numbers.specs.Bits.{inside}
use Rattle.numbers.specs.Tests.{every}
use Rattle.expansions.specs.declared.kinds.Class.{Class}
use Rattle.expansions.specs.Members.{InClass, polarity, shown_choice}
use Rattle.expansions.specs.Inner.Answer.{valid_pair}
use Rattle.listings.specs.Listing.{printed_cubes}

-- ---- the listing

-- the literals in a cube are those of its term, and a term with no line shows none: "`0` complemented, `-` absent"
pub record Shown (n : ℕ) (w c : ℕ → ℕ) : Type 0 where
  pub within : (t : ℕ) → t < 2 ^ n → T (inside (w t) t)
  pub none : (t : ℕ) → t < 2 ^ n → c t ≡ 0 → w t ≡ 0

-- some "member with the listing's M and i prints those cubes": polarities of the class, and any coefficients
abbrev pub Printable : Class → (n k M i : ℕ) → (w c : ℕ → ℕ) → Type 0
Printable C n k M i w c = (w' : ℕ → ℕ) × (c' : ℕ → ℕ) × InClass C n k M i w' × (printed_cubes n w' c' ≡ printed_cubes n w c)

-- ---- the test

-- "a mixed set M of exactly k inputs (as a mask) and a fixed polarity i with the bits of M zero", both of n inputs
unfoldable pub legal_pair : ℕ → ℕ → ℕ → ℕ → Bool
legal_pair n k M i = ltb M (2 ^ n) && (ltb i (2 ^ n) && valid_pair n k M i)

-- the line of t, if there is one, shows complemented just what the polarity of t in the member M, i, x has at the inputs of t: "Its literals outside M follow
-- i; those in M follow φj", or in the free class the term's own polarity. x j is the choice of the block j
unfoldable pub shows_back : Class → (n k M i : ℕ) → (x w c : ℕ → ℕ) → ℕ → Bool
shows_back C n k M i x w c t = eqb (c t) 0 || eqb (bit_and t (polarity C n k M i x t)) (w t)

-- "'Not of the class' is said exactly when no member with the listing's M and i prints those cubes": it is said where this test fails, which takes each
-- block's choice "as far as its cubes show it", of the class that the field k selects: "the fitter judges by it"
unfoldable pub of_class : Class → (n k M i : ℕ) → (w c : ℕ → ℕ) → Bool
of_class C n k M i w c = legal_pair n k M i && every (2 ^ n) (shows_back C n k M i (shown_choice C n k M w) w c)
