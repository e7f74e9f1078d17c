-- What the listing of a Kronecker expansion means, read from its bytes alone, and how long it is. Its cubes are true where their terms are
-- (`kronecker-cube-true`), the listing of an answer is what demand 3 asks of its bytes (`kronecker-listed`), and no listing is longer than 5,919 bytes
-- (`kronecker-longest`).
use mathlib.Core.Bool.{Bool, cond, ◌&&◌}
use mathlib.Core.List.{List, [], ◌∷◌, ◌++◌, map, append_assoc}
use mathlib.Core.Path.{◌≡◌, refl, sym, ap, ap₂, ◌∙◌}
use Prim.Native.Nat.{ℕ, zero, suc, ◌+◌, ◌-◌, ◌*◌, ◌^◌, ◌≤◌, ◌<◌}
use native.Mathlib.Nat.{mul-le-mul}
use native.Mathlib.Omega.{arith}
use lib.Bits.{bit_xor, xor_zero_r}
use lib.Dec.{eqb, lit<}
use lib.ListN.{length, get_or, length-append}
use lib.Pow.{pow_mono}
use Rattle.numbers.specs.Bytes.{at}
use Rattle.numbers.specs.Bits.{bit}
use Rattle.numbers.specs.Sums.{fold_below}
use Rattle.numbers.specs.Tests.{only}
use Rattle.numbers.proofs.Sums.{fold-ext}
use Rattle.expansions.specs.declared.kinds.Kind.TheVariants as kind
use Rattle.expansions.specs.declared.families.Family.TheVariants.{One}
use Rattle.expansions.specs.Costs.{counted, products}
use Rattle.expansions.specs.Kronecker.Letters.{Literal, absent, plain, complemented, literal_true, literal_count, term_literal, term_true, kronecker_value}
use Rattle.expansions.specs.Kronecker.Costs.{term_literals, kronecker_literals}
use Rattle.expansions.specs.Kronecker.Answers.{KroneckerMinimal}
use Rattle.expansions.proofs.Costs.{products-le}
use Rattle.expansions.proofs.Rivals.{kronecker-minimal-least}
use Rattle.listings.specs.Parts.{bytes, same}
use Rattle.listings.specs.Listing.{tabbed, line, decimal, descending, cube_lines}
use Rattle.listings.specs.Inner.Lengths.{digits_of}
use Rattle.listings.specs.Kronecker.{letter_byte, letter_bytes, literal_byte, kronecker_cube, kronecker_fields, kronecker_line, kronecker_listing}
use Rattle.listings.specs.Meaning.{allows, cube_true, literals_in, listing_inverted, listing_value, listing_products, listing_literals}
use Rattle.listings.specs.Meaning.{first_numbers, number_said, stated_products, stated_literals, IsListing}
use Rattle.listings.proofs.Joined.{Plain, AllPlain, plain-descending}
use Rattle.listings.proofs.Characters.{length-descending, at-descending, length-decimal, digit_count-in}
use Rattle.listings.proofs.Cubes.{decimal-said}
use Rattle.listings.proofs.Lengths.{tabbed-append, length-listing_after, length-stated}
use Rattle.listings.proofs.Longest.{digit_count-one, digit_count-three}
use Rattle.listings.proofs.Meaning.{plain-decimal, Heading, heading-line, heading-numbers, cubes-inverted, cubes-value, cubes-products, cubes-literals}

-- ---- characters

plain-letter : (letter : ℕ) → 10 < letter_byte letter
unfolding letter_byte
plain-letter zero = lit< tt
plain-letter (suc zero) = lit< tt
plain-letter (suc (suc letter)) = lit< tt

plain-letters : (n : ℕ) (letters : ℕ → ℕ) → Plain (letter_bytes n letters)
unfolding letter_bytes
plain-letters n letters = plain-descending n (λ i. letter_byte (letters i)) (λ i. plain-letter (letters i))

plain-literal : (x : Literal) → 10 < literal_byte x
unfolding literal_byte
plain-literal absent = lit< tt
plain-literal plain = lit< tt
plain-literal complemented = lit< tt

plain-cube : (n : ℕ) (letters : ℕ → ℕ) (t : ℕ) → Plain (kronecker_cube n letters t)
unfolding kronecker_cube
plain-cube n letters t = plain-descending n (λ i. literal_byte (term_literal letters t i)) (λ i. plain-literal (term_literal letters t i))

pub length-letters : (n : ℕ) (letters : ℕ → ℕ) → length (letter_bytes n letters) ≡ n
unfolding letter_bytes
length-letters n letters = length-descending n (λ i. letter_byte (letters i))

pub length-kronecker_cube : (n : ℕ) (letters : ℕ → ℕ) (t : ℕ) → length (kronecker_cube n letters t) ≡ n
unfolding kronecker_cube
length-kronecker_cube n letters t = length-descending n (λ i. literal_byte (term_literal letters t i))

pub at-letters : (n : ℕ) (letters : ℕ → ℕ) (k : ℕ) → k < n → at (letter_bytes n letters) k ≡ letter_byte (letters (n - 1 - k))
unfolding letter_bytes
at-letters n letters k h = at-descending n (λ i. letter_byte (letters i)) k h

pub at-kronecker_cube : (n : ℕ) (letters : ℕ → ℕ) (t k : ℕ) → k < n → at (kronecker_cube n letters t) k ≡ literal_byte (term_literal letters t (n - 1 - k))
unfolding kronecker_cube
at-kronecker_cube n letters t k h = at-descending n (λ i. literal_byte (term_literal letters t i)) k h

-- ---- a cube is true where its term is, and has the term's literals

literal-allows : (x : Literal) (v : ℕ) → allows (literal_byte x) v ≡ literal_true x v
unfolding allows literal_byte literal_true
literal-allows absent v = refl
literal-allows plain v = refl
literal-allows complemented v = refl

literal-counts : (x : Literal) → cond (eqb (literal_byte x) 45) 0 1 ≡ literal_count x
unfolding literal_byte literal_count
literal-counts absent = refl
literal-counts plain = refl
literal-counts complemented = refl

pub kronecker-cube-true : (n : ℕ) (letters : ℕ → ℕ) (t p : ℕ) → cube_true (kronecker_cube n letters t) p ≡ term_true n letters t p
unfolding kronecker_cube cube_true descending term_true
kronecker-cube-true zero letters t p = refl
kronecker-cube-true (suc n) letters t p =
    ap₂ ◌&&◌
    (ap (λ (k : ℕ). allows (literal_byte (term_literal letters t n)) (bit k p)) (length-kronecker_cube n letters t) ∙ literal-allows (term_literal letters t n) (bit n p))
    (kronecker-cube-true n letters t p)

kronecker-cube-literals : (n : ℕ) (letters : ℕ → ℕ) (t : ℕ) → literals_in (kronecker_cube n letters t) ≡ term_literals n letters t
unfolding kronecker_cube literals_in descending term_literals fold_below
kronecker-cube-literals zero letters t = refl
kronecker-cube-literals (suc n) letters t = omega (arith, literal-counts (term_literal letters t n), kronecker-cube-literals n letters t)

-- ---- the first line

module _ (n m : ℕ) (letters : ℕ → ℕ) (p l : ℕ) where
  pub kronecker_line-parts : kronecker_line n m letters p l
      ≡ bytes "kron" ++ tabbed (map decimal (n ∷ m ∷ [])) ++ (9 ∷ []) ++ letter_bytes n letters ++ tabbed (map decimal (p ∷ l ∷ [])) ++ (10 ∷ [])
  unfolding kronecker_line line tabbed
  kronecker_line-parts =
      let word : List ℕ = bytes "kron" in
      let sizes : List ℕ = tabbed (map decimal (n ∷ m ∷ [])) in
      let counts : List ℕ = tabbed (map decimal (p ∷ l ∷ [])) in
      let x : List ℕ = letter_bytes n letters in
      ap (λ (s : List ℕ). s ++ 10 ∷ [])
      (ap (λ (s : List ℕ). word ++ s) (tabbed-append (map decimal (n ∷ m ∷ [])) (x ∷ map decimal (p ∷ l ∷ [])))
      ∙ sym (append_assoc word sizes (9 ∷ x ++ counts))
      ∙ sym (append_assoc (word ++ sizes) (9 ∷ []) (x ++ counts))
      ∙ sym (append_assoc (word ++ sizes ++ 9 ∷ []) x counts))

  pub length-kronecker_line : length (kronecker_line n m letters p l) ≡ 10 + n + digits_of (n ∷ m ∷ p ∷ l ∷ [])
  unfolding kronecker_line line tabbed bytes digits_of
  length-kronecker_line = simp (length-append, length-letters, length-decimal) (omega arith)

-- ---- the listing, of any letters, coefficients and counts

module _ (n m : ℕ) (letters c : ℕ → ℕ) (p l : ℕ) where
  plain_word : Plain (bytes "kron")
  unfolding bytes
  plain_word = (lit< tt, (lit< tt, (lit< tt, (lit< tt, tt))))

  plain_fields : AllPlain (kronecker_fields n m letters p l)
  plain_fields = (plain-decimal n, (plain-decimal m, (plain-letters n letters, (plain-decimal p, (plain-decimal l, tt)))))

  -- its first line inverts no output
  heading : Heading (kronecker_line n m letters p l) ((bytes "kron" ++ tabbed (kronecker_fields n m letters p l)) ∷ []) 0
  unfolding kronecker_line bytes same
  heading = heading-line (bytes "kron") (kronecker_fields n m letters p l) plain_word plain_fields refl

  -- "Kronecker listings have no inverters."
  pub kronecker-listing-inverted : listing_inverted (kronecker_listing n m letters c p l) ≡ 0
  unfolding kronecker_listing
  kronecker-listing-inverted = cubes-inverted _ _ 0 heading n m (kronecker_cube n letters) c (plain-cube n letters)

  pub kronecker-listing-value : ((t : ℕ) → t < 2 ^ n → c t < 2 ^ m) → (q : ℕ) → listing_value (kronecker_listing n m letters c p l) q ≡ kronecker_value n letters c q
  unfolding kronecker_listing kronecker_value
  kronecker-listing-value small q =
      cubes-value _ _ 0 heading n m (kronecker_cube n letters) c (plain-cube n letters) small q
      ∙ xor_zero_r _
      ∙ fold-ext bit_xor (2 ^ n) _ _ (λ t h. ap (λ (b : Bool). only b (c t)) (kronecker-cube-true n letters t q))

  pub kronecker-listing-products : listing_products (kronecker_listing n m letters c p l) ≡ products n c
  unfolding kronecker_listing
  kronecker-listing-products = cubes-products _ _ 0 heading n m (kronecker_cube n letters) c (plain-cube n letters)

  pub kronecker-listing-literals : listing_literals (kronecker_listing n m letters c p l) ≡ kronecker_literals n letters c
  unfolding kronecker_listing kronecker_literals
  kronecker-listing-literals =
      cubes-literals _ _ 0 heading n m (kronecker_cube n letters) c (plain-cube n letters)
      ∙ fold-ext ◌+◌ (2 ^ n) _ _ (λ t h. ap (λ (x : ℕ). counted (c t) x) (kronecker-cube-literals n letters t))

  numbers : first_numbers (kronecker_listing n m letters c p l)
      ≡ number_said 0 (decimal n) ∷ number_said 0 (decimal m) ∷ number_said 0 (letter_bytes n letters) ∷ number_said 0 (decimal p) ∷ number_said 0 (decimal l) ∷ []
  unfolding kronecker_listing kronecker_line
  numbers =
      let terms : List ℕ = cube_lines m (kronecker_cube n letters) c (2 ^ n) in
      ap first_numbers (append_assoc (kronecker_line n m letters p l) terms (line (bytes "end") []))
      ∙ heading-numbers (bytes "kron") (kronecker_fields n m letters p l) _ plain_word plain_fields

  kronecker-stated-products : p < 10000 → stated_products (kronecker_listing n m letters c p l) ≡ p
  kronecker-stated-products h = ap (λ (xs : List ℕ). get_or xs (length xs - 2) 0) numbers ∙ decimal-said p h

  kronecker-stated-literals : l < 10000 → stated_literals (kronecker_listing n m letters c p l) ≡ l
  kronecker-stated-literals h = ap (λ (xs : List ℕ). get_or xs (length xs - 1) 0) numbers ∙ decimal-said l h

  pub length-kronecker_listing : length (kronecker_listing n m letters c p l)
      ≡ 10 + n + digits_of (n ∷ m ∷ p ∷ l ∷ []) + products n c * (5 + n + 1 + m + 1) + 4
  unfolding kronecker_listing
  length-kronecker_listing =
      length-listing_after (kronecker_line n m letters p l) n m (kronecker_cube n letters) c (length-kronecker_cube n letters)
      ∙ rw (length-kronecker_line n m letters p l)

  -- from the products that a record states
  pub kronecker-length-stated : p ≡ products n c → 14 + n + digits_of (n ∷ m ∷ p ∷ l ∷ []) + p * (n + m + 7) ≡ length (kronecker_listing n m letters c p l)
  unfolding kronecker_listing
  kronecker-length-stated e =
      omega (
        arith,
        length-stated n m p c e (kronecker_line n m letters p l) (kronecker_cube n letters) (length-kronecker_cube n letters),
        length-kronecker_line n m letters p l,
      )

  -- "kron" with two digits, eight letters, three digits and four; 256 products of 23 bytes
  pub kronecker-longest : n ≤ 8 → m ≤ 8 → p ≡ products n c → length (kronecker_listing n m letters c p l) ≤ 5919
  unfolding digits_of
  kronecker-longest hn hm e =
      let size : 2 ^ n ≤ 256 = pow_mono {i = n} {j = 8} hn in
      let few : products n c ≤ 256 = omega (arith, size, products-le n c) in
      let terms : products n c * (5 + n + 1 + m + 1) ≤ 256 * 23 = mul-le-mul {n₁ = products n c} {m₁ = 5 + n + 1 + m + 1} {n₂ = 256} {m₂ = 23} few (omega arith) in
      rw length-kronecker_listing
      (omega (arith, digit_count-one n (omega arith), digit_count-one m (omega arith), digit_count-three p (omega arith), digit_count-in l))

-- ---- the listing of an answer

module _ (n m : ℕ) (f letters c : ℕ → ℕ) (p l : ℕ) (hn : n ≤ 8) (minimal : KroneckerMinimal n f letters c p l) (few : l < 10000)
    (small : (t : ℕ) → t < 2 ^ n → c t < 2 ^ m) where
  counts-products : listing_products (kronecker_listing n m letters c p l) ≡ p
  counts-products = kronecker-listing-products n m letters c p l ∙ sym minimal.products_counted

  counts-literals : listing_literals (kronecker_listing n m letters c p l) ≡ l
  counts-literals = kronecker-listing-literals n m letters c p l ∙ sym minimal.literals_counted

  fewer : p < 10000
  fewer = omega (arith, minimal.products_counted, products-le n c, pow_mono {i = n} {j = 8} hn)

  -- demand 3
  pub kronecker-listed : IsListing n One kind.Kronecker f (kronecker_listing n m letters c p l)
  kronecker-listed =
      record {
        gives = λ q h. kronecker-listing-value n m letters c p l small q ∙ minimal.answer.gives q h;
        products_stated = kronecker-stated-products n m letters c p l fewer ∙ sym counts-products;
        literals_stated = kronecker-stated-literals n m letters c p l few ∙ sym counts-literals;
        least = rw (counts-products, counts-literals) (kronecker-minimal-least n f letters c p l minimal);
      }
