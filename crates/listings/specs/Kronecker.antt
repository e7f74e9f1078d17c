-- The listing of a Kronecker expansion, byte by byte. Document 02, W-202: "The listing begins `kron`, n, m, one field with a letter for each input from
-- xn down (`S`, `P`, `N`), products, literals; terms ascend with the bit set for the plain or present literal".
use Rattle.std.specs.Prelude.{List, [], ◌∷◌, ℕ, zero, suc}
use Rattle.expansions.specs.Kronecker.Letters.{Literal, absent, plain, complemented, term_literal}
use Rattle.listings.specs.Parts.{bytes}
use Rattle.listings.specs.Listing.{line, decimal, descending, listing_after}

-- the letter of an input as a character: `S`, `P`, `N` (bytes 83, 80, 78)
unfoldable pub letter_byte : ℕ → ℕ
letter_byte zero = 83
letter_byte (suc zero) = 80
letter_byte (suc (suc letter)) = 78

-- "one field with a letter for each input from xn down"
unfoldable pub letter_bytes : ℕ → (ℕ → ℕ) → List ℕ
letter_bytes n letters = descending n (λ i. letter_byte (letters i))

-- a literal as a character: "`1` plain, `0` complemented, `-` absent" (bytes 49, 48, 45)
unfoldable pub literal_byte : Literal → ℕ
literal_byte absent = 45
literal_byte plain = 49
literal_byte complemented = 48

-- "The cube has n characters, leftmost xn, rightmost x1", of the term t in the kind with these letters
unfoldable pub kronecker_cube : ℕ → (ℕ → ℕ) → ℕ → List ℕ
kronecker_cube n letters t = descending n (λ i. literal_byte (term_literal letters t i))

-- the fields after `kron`: "n, m, one field with a letter for each input from xn down (`S`, `P`, `N`), products, literals"
abbrev pub kronecker_fields : (n m : ℕ) → (ℕ → ℕ) → (p l : ℕ) → List (List ℕ)
kronecker_fields n m letters p l = decimal n ∷ decimal m ∷ letter_bytes n letters ∷ decimal p ∷ decimal l ∷ []

-- "The listing begins `kron`": its first line, and no `inv` line follows: "Kronecker listings have no inverters."
unfoldable pub kronecker_line : (n m : ℕ) → (ℕ → ℕ) → (p l : ℕ) → List ℕ
kronecker_line n m letters p l = line (bytes "kron") (kronecker_fields n m letters p l)

-- the whole listing of the expansion with these letters, the coefficients c, p products and l literals, of n inputs and m outputs
unfoldable pub kronecker_listing : (n m : ℕ) (letters c : ℕ → ℕ) (p l : ℕ) → List ℕ
kronecker_listing n m letters c p l = listing_after (kronecker_line n m letters p l) n m (kronecker_cube n letters) c
