-- What may not follow the lines that pass, in the documents' words. Document 01, "Why a call declines": "Text is judged line by line, and the first bad line
-- counts"; document 02, W-201: "A broken listing line, or a term whose t is not above the one before, is 11 with its line in the listing".
use Rattle.std.specs.Prelude.{List, [], ◌++◌, ◌≡◌, ℕ, ◌^◌, ◌<◌, length}
use Rattle.listings.specs.Parts.{all, parts, bytes}
use Rattle.listings.specs.Listing.{line, term_line}

-- "A refusal returns its number and the line": the line that begins after these bytes, counted from 1; "Each line ends with byte 10."
unfoldable pub line_after : List ℕ → ℕ
line_after before = length (all (parts 10 before))

-- "above the one before": p is above each of the places below N whose lines stand before, those at which f is not 0
abbrev pub Above : ℕ → (ℕ → ℕ) → ℕ → Type 0
Above N f p = (q : ℕ) → q < N → (f q ≡ 0 → ⊥) → q < p

-- "`end`.", the last line of either text
abbrev pub end_line : List ℕ
end_line = line (bytes "end") []

-- the bytes s begin with no `end` line
abbrev pub NoEnd : List ℕ → Type 0
NoEnd s = (more : List ℕ) → s ≡ end_line ++ more → ⊥

-- the point p and the outputs o of a line "`on`, point, outputs", with m outputs: "The point is one to three digits", "Outputs are m characters .. not all `0`"
pub record OnLine (m p o : ℕ) : Type 0 where
  pub digits : p < 1000
  pub below : o < 2 ^ m
  pub some : o ≡ 0 → ⊥

-- the bytes s begin with no `term` line of a term of n inputs above those before: a broken line, "a term whose t is not above the one before", or no line at
-- all. c are the coefficients of the terms before
abbrev pub NoTerm : (n m : ℕ) → (ℕ → ℕ) → List ℕ → Type 0
NoTerm n m c s =
    (t w x : ℕ) (more : List ℕ) → t < 2 ^ n → Above (2 ^ n) c t → x < 2 ^ m → (x ≡ 0 → ⊥) → s ≡ term_line n m t w x ++ more → ⊥
