-- Document 02, W-202: "each input taken the Shannon way (every term has it, plain or complemented) or either Davio way, one choice an input".
-- A kind of expansion is a letter for each input: S is 0, P is 1, N is 2. Here are what a term of a kind has of each input, when it is true,
-- and the table that an expansion gives. Inputs are counted from 0 here, as bits are: input i is x(i + 1).
use Rattle.std.specs.Prelude.{Bool, true, ◌&&◌, ◌≡◌, ℕ, zero, suc, ◌+◌, ◌*◌, ◌/◌, ◌%◌, ◌^◌, ◌<◌, T, eqb}
use Rattle.numbers.specs.Sums.{xor_below}
use Rattle.numbers.specs.Bits.{bit}
use Rattle.numbers.specs.Tests.{only}

-- what a term has of one input, a character of its cube: `-`, `1`, `0`
pub data Literal : Type 0 where
  absent : Literal
  plain : Literal
  complemented : Literal

-- by the input's letter and the term's bit: "the bit set for the plain or present literal". A Shannon input has a literal in "every term",
-- "plain or complemented"
unfoldable pub literal_of : (letter b : ℕ) → Literal
literal_of zero zero = complemented
literal_of zero (suc b) = plain
literal_of (suc zero) zero = absent
literal_of (suc zero) (suc b) = plain
literal_of (suc (suc letter)) zero = absent
literal_of (suc (suc letter)) (suc b) = complemented

-- its truth where the input's value is x
unfoldable pub literal_true : Literal → ℕ → Bool
literal_true absent x = true
literal_true plain x = eqb x 1
literal_true complemented x = eqb x 0

-- "literals are from now on a cube's characters other than `-`"
unfoldable pub literal_count : Literal → ℕ
literal_count absent = 0
literal_count plain = 1
literal_count complemented = 1

-- what the term t has of input i
abbrev pub term_literal : (letters : ℕ → ℕ) (t i : ℕ) → Literal
term_literal letters t i = literal_of (letters i) (bit i t)

-- the term t is true at p: its "literals are all true at p"
unfoldable pub TermTrue : (n : ℕ) (letters : ℕ → ℕ) (t p : ℕ) → Type 0
TermTrue n letters t p = (i : ℕ) → i < n → T (literal_true (term_literal letters t i) (bit i p))

-- TermTrue as a test (proofs/Kronecker/Values, `term_words`)
unfoldable pub term_true : (n : ℕ) (letters : ℕ → ℕ) (t p : ℕ) → Bool
term_true zero letters t p = true
term_true (suc n) letters t p = literal_true (term_literal letters t n) (bit n p) && term_true n letters t p

-- the value at p, as document 01 has it: "the exclusive OR of c[t] over its terms whose literals are all true at p"
unfoldable pub kronecker_value : (n : ℕ) (letters c : ℕ → ℕ) (p : ℕ) → ℕ
kronecker_value n letters c p = xor_below (2 ^ n) (λ t. only (term_true n letters t p) (c t))

-- an expansion of the kind gives the table f, "at every point p"
abbrev pub KroneckerGives : (n : ℕ) (letters c f : ℕ → ℕ) → Type 0
KroneckerGives n letters c f = (p : ℕ) → p < 2 ^ n → kronecker_value n letters c p ≡ f p

-- ---- "3^n kinds in all"

-- a letter for each of the n inputs: "one choice an input", "3^n kinds in all"
abbrev pub IsKind : ℕ → (ℕ → ℕ) → Type 0
IsKind n letters = (i : ℕ) → i < n → letters i < 3

-- the letters of the kind with the number x: its digits in base 3, that of xn the highest
unfoldable pub letters_of : ℕ → ℕ → ℕ
letters_of x i = x / 3 ^ i % 3

-- the number of a kind
unfoldable pub kind_number : ℕ → (ℕ → ℕ) → ℕ
kind_number zero letters = 0
kind_number (suc n) letters = letters n * 3 ^ n + kind_number n letters
