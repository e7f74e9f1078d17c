-- How long the parts of a listing are. The length of a listing follows from its first word, its fields, the outputs and the number of its products
-- (`length-listing`).
use lib.Pow.{pow_mono}
use Rattle.expansions.proofs.Costs.{products-le}
use mathlib.Core.List.{List, [], ◌∷◌, ◌++◌, map, map-append, append_assoc, append-nil}
use mathlib.Core.Path.{◌≡◌, refl, sym, ap, ◌∙◌}
use Prim.Native.Nat.{ℕ, zero, suc, ◌+◌, ◌*◌, ◌^◌, ◌≤◌, ◌<◌}
use native.Mathlib.Decide.{ℕ_discrete}
use native.Mathlib.Nat.{add-mul, not-suc-le-zero, mul-le-mul}
use native.Mathlib.Numerals.{add-one}
use native.Mathlib.Omega.{arith}
use lib.ListN.{length, get_or, take, drop, length-append, take-append-drop}
use lib.Seq.{take-suc, length-take-le}
use Rattle.numbers.specs.Bytes.{at}
use Rattle.numbers.specs.Nonzero.{if_nonzero, over_nonzero}
use Rattle.numbers.specs.Sums.{fold_below, sum_below}
use Rattle.expansions.specs.Costs.{counted, products}
use Rattle.expansions.specs.declared.kinds.Class.{Class}
use Rattle.expansions.specs.declared.kinds.Class.TheVariants.{Block, Free}
use Rattle.expansions.specs.declared.families.Family.{Family}
use Rattle.expansions.specs.declared.families.Family.TheVariants.{One, Two}
use Rattle.expansions.specs.Members.{polarity}
use Rattle.search.specs.declared.expansion.Expansion.{Expansion}
use Rattle.listings.specs.Parts.{bytes}
use Rattle.listings.specs.Listing.{tabbed, line, digit_count, decimal, cube, output_bytes, mixed_mark, mixed_field, form_fields, fields_of}
use Rattle.listings.specs.Listing.{form_word, form_line, inv_line, cube_line, cube_lines, listing_after, listing_with, listing}
use Rattle.listings.specs.Inner.Listable.{Listable}
use Rattle.listings.specs.Inner.Lengths.{digits_of}
use Rattle.listings.proofs.Characters.{length-decimal, digit_count-in, length-cube, length-outputs}

-- its length, from its first word, its fields, the outputs and the number of its products (`length-listing`)
unfoldable pub listing_length : Class → Family → (n m k : ℕ) → Expansion → ℕ
listing_length C family n m k e =
    1 + length (form_word family) + length (tabbed (fields_of C n m k e)) + (5 + m)
    + products n (at e.coefficients) * (5 + n + 1 + m + 1) + 4

-- ---- numbers, each after a tab

pub digits_of-append : (xs ys : List ℕ) → digits_of (xs ++ ys) ≡ digits_of xs + digits_of ys
unfolding digits_of
digits_of-append [] ys = omega arith
digits_of-append (x ∷ xs) ys = omega (arith, digits_of-append xs ys)

pub digits_of-next : (xs : List ℕ) (j : ℕ) → j < length xs → digits_of (take (j + 1) xs) ≡ digits_of (take j xs) + digit_count (get_or xs j 0)
unfolding digits_of
digits_of-next xs j h = rw (add-one, take-suc xs j 0 h, digits_of-append (take j xs) (get_or xs j 0 ∷ [])) (omega arith)

pub digits_of-le : (xs : List ℕ) → digits_of xs ≤ length xs * 4
unfolding digits_of
digits_of-le [] = omega arith
digits_of-le (x ∷ xs) = omega (arith, digits_of-le xs, digit_count-in x)

pub tabbed-append : (fs gs : List (List ℕ)) → tabbed (fs ++ gs) ≡ tabbed fs ++ tabbed gs
unfolding tabbed
tabbed-append [] gs = refl
tabbed-append (f ∷ fs) gs =
    ap (λ (l : List ℕ). 9 ∷ f ++ l) (tabbed-append fs gs) ∙ ap (λ (l : List ℕ). 9 ∷ l) (sym (append_assoc f (tabbed fs) (tabbed gs)))

pub length-numbers : (xs : List ℕ) → length (tabbed (map decimal xs)) ≡ length xs + digits_of xs
unfolding tabbed digits_of
length-numbers [] = refl
length-numbers (x ∷ xs) = omega (arith, length-append (decimal x) (tabbed (map decimal xs)), length-decimal x, length-numbers xs)

pub numbers-next : (xs : List ℕ) (j : ℕ) → j < length xs
    → tabbed (map decimal (take (j + 1) xs)) ≡ tabbed (map decimal (take j xs)) ++ 9 ∷ decimal (get_or xs j 0)
unfolding tabbed
numbers-next xs j h =
    rw (add-one, take-suc xs j 0 h, map-append decimal (take j xs) (get_or xs j 0 ∷ [])) (tabbed-append (map decimal (take j xs)) (decimal (get_or xs j 0) ∷ []) ∙ simp append-nil)

-- the number at j has room after those before it
pub numbers-room : (xs : List ℕ) (j : ℕ) → j < length xs
    → length (tabbed (map decimal (take j xs))) + (1 + digit_count (get_or xs j 0)) ≤ length xs + digits_of xs
numbers-room xs j h =
    let all : digits_of (take (j + 1) xs ++ drop (j + 1) xs) ≡ digits_of xs = ap digits_of (take-append-drop (j + 1) xs) in
    omega (arith, length-numbers (take j xs), length-take-le j xs (omega arith), digits_of-next xs j h, digits_of-append (take (j + 1) xs) (drop (j + 1) xs))

-- ---- lines

-- a line `term` around its cube
pub cube_line-parts : (m : ℕ) (x : List ℕ) (c : ℕ) → cube_line m x c ≡ (bytes "term" ++ 9 ∷ []) ++ x ++ (9 ∷ output_bytes m c ++ 10 ∷ [])
unfolding cube_line line tabbed bytes
cube_line-parts m x c = simp (append_assoc, append-nil) (ap (λ (l : List ℕ). bytes "term" ++ 9 ∷ l) (append_assoc x (9 ∷ output_bytes m c) (10 ∷ [])))

pub length-cube_line : (n m : ℕ) (x : List ℕ) (c : ℕ) → length x ≡ n → length (cube_line m x c) ≡ 5 + n + 1 + m + 1
unfolding cube_line line tabbed bytes
length-cube_line n m x c h = simp (length-append, length-outputs, h) (omega arith)

pub length-nonzero : (c : ℕ) (l : List ℕ) → length (if_nonzero c l) ≡ counted c 1 * length l
unfolding if_nonzero counted
length-nonzero zero l = omega arith
length-nonzero (suc c) l = omega arith

-- of cubes of n characters
pub length-cube_lines : (n m : ℕ) (x : ℕ → List ℕ) (c : ℕ → ℕ) → ((t : ℕ) → length (x t) ≡ n) → (N : ℕ)
    → length (cube_lines m x c N) ≡ sum_below N (λ t. counted (c t) 1) * (5 + n + 1 + m + 1)
unfolding over_nonzero fold_below
length-cube_lines n m x c h zero = omega arith
length-cube_lines n m x c h (suc t) =
    length-append (cube_lines m x c t) (if_nonzero (c t) (cube_line m (x t) (c t)))
    ∙ rw (length-cube_lines n m x c h t, length-nonzero, length-cube_line n m (x t) (c t) (h t))
    (sym (add-mul (sum_below t (λ t. counted (c t) 1)) (counted (c t) 1) (5 + n + 1 + m + 1)))

-- the lines of the terms up to t are no longer than those of all terms
pub cube_lines-le : (m : ℕ) (x : ℕ → List ℕ) (c : ℕ → ℕ) (t N : ℕ) → t < N
    → length (cube_lines m x c t) + length (if_nonzero (c t) (cube_line m (x t) (c t))) ≤ length (cube_lines m x c N)
unfolding over_nonzero
cube_lines-le m x c t zero h = absurd (not-suc-le-zero h)
cube_lines-le m x c t (suc N) h = go (ℕ_discrete t N) (λ g. cube_lines-le m x c t N g) where
  last : length (cube_lines m x c (suc N)) ≡ length (cube_lines m x c N) + length (if_nonzero (c N) (cube_line m (x N) (c N)))
  last = length-append (cube_lines m x c N) (if_nonzero (c N) (cube_line m (x N) (c N)))

  go : Dec (t ≡ N)
      → (t < N → length (cube_lines m x c t) + length (if_nonzero (c t) (cube_line m (x t) (c t))) ≤ length (cube_lines m x c N))
      → length (cube_lines m x c t) + length (if_nonzero (c t) (cube_line m (x t) (c t))) ≤ length (cube_lines m x c (suc N))
  go (yes e) ih = rw (last, e) (omega arith)
  go (no e) ih = omega (arith, last, ih (omega arith))

-- `form2` is the longer of the two words
pub length-form_word : (family : Family) → length (form_word family) ≤ 5
unfolding form_word bytes
length-form_word One = omega arith
length-form_word Two = omega arith

pub length-mixed_mark : (C : Class) → length (mixed_mark C) ≤ 1
unfolding mixed_mark bytes
length-mixed_mark Block = omega arith
length-mixed_mark Free = omega arith

pub length-form_line : (family : Family) (fs : List (List ℕ)) → length (form_line family fs) ≡ 1 + length (form_word family) + length (tabbed fs)
unfolding form_line line
length-form_line family fs =
    omega (arith, length-append (form_word family ++ tabbed fs) (10 ∷ []), length-append (form_word family) (tabbed fs))

-- the fields of a first line: seven tabs, the digits of seven numbers, and what stands before the digit of k
pub length-form_fields : (C : Class) (n m k M i p l : ℕ)
    → length (tabbed (form_fields C n m k M i p l)) ≡ 7 + digits_of (n ∷ m ∷ k ∷ M ∷ i ∷ p ∷ l ∷ []) + length (mixed_mark C)
unfolding tabbed digits_of mixed_field
length-form_fields C n m k M i p l =
    simp (length-append, length-decimal) (omega arith)

-- the line `inv`: its word, and what stands after it
pub inv_line-parts : (m v : ℕ) → inv_line m v ≡ bytes "inv" ++ (9 ∷ output_bytes m v ++ 10 ∷ [])
unfolding inv_line line tabbed bytes
inv_line-parts m v = simp append_assoc

pub length-inv_line : (m v : ℕ) → length (inv_line m v) ≡ 5 + m
unfolding inv_line line tabbed bytes
length-inv_line m v = simp (length-append, length-outputs) (omega arith)

-- the first two lines together
length-form-inv : (family : Family) (fs : List (List ℕ)) (m v : ℕ)
    → length (form_line family fs ++ inv_line m v) ≡ 1 + length (form_word family) + length (tabbed fs) + (5 + m)
length-form-inv family fs m v = length-append (form_line family fs) (inv_line m v) ∙ rw (length-form_line family fs, length-inv_line m v)

-- ---- the listing

length_three : (a b d : List ℕ) → length (a ++ b ++ d) ≡ length a + length b + length d
length_three a b d = omega (arith, length-append (a ++ b) d, length-append a b)

-- a whole listing, by what stands before its products
pub length-listing_after : (first : List ℕ) (n m : ℕ) (x : ℕ → List ℕ) (c : ℕ → ℕ) → ((t : ℕ) → length (x t) ≡ n)
    → length (listing_after first n m x c) ≡ length first + products n c * (5 + n + 1 + m + 1) + 4
unfolding products line tabbed bytes
length-listing_after first n m x c h =
    length_three first (cube_lines m x c (2 ^ n)) (line (bytes "end") [])
    ∙ rw (length-cube_lines n m x c h (2 ^ n))

pub length-listing_with : (family : Family) (fs : List (List ℕ)) (v n m : ℕ) (w c : ℕ → ℕ)
    → length (listing_with family fs v n m w c)
    ≡ 1 + length (form_word family) + length (tabbed fs) + (5 + m) + products n c * (5 + n + 1 + m + 1) + 4
unfolding listing_with
length-listing_with family fs v n m w c =
    length-listing_after (form_line family fs ++ inv_line m v) n m (λ t. cube n t (w t)) c (λ t. length-cube n t (w t)) ∙ rw (length-form-inv family fs m v)

pub length-listing : (C : Class) (family : Family) (n m k : ℕ) (e : Expansion) → length (listing C family n m k e) ≡ listing_length C family n m k e
unfolding listing listing_length
length-listing C family n m k e =
    length-listing_with family (fields_of C n m k e) e.inverted n m (polarity C n k e.mixed e.fixed (at e.blocks)) (at e.coefficients)

-- ---- from the products that a record states

module _ (n m p : ℕ) (c : ℕ → ℕ) (counted : p ≡ products n c) where
  width : n + m + 7 ≡ 5 + n + 1 + m + 1
  width = omega arith

  pub length-products : (x : ℕ → List ℕ) → ((t : ℕ) → length (x t) ≡ n) → p * (n + m + 7) ≡ length (cube_lines m x c (2 ^ n))
  unfolding products
  length-products x h = rw (counted, width) (sym (length-cube_lines n m x c h (2 ^ n)))

  pub length-stated : (first : List ℕ) (x : ℕ → List ℕ) → ((t : ℕ) → length (x t) ≡ n)
      → length first + p * (n + m + 7) + 4 ≡ length (listing_after first n m x c)
  length-stated first x h =
      let same : p * (n + m + 7) ≡ products n c * (5 + n + 1 + m + 1) = rw (counted, width) in
      rw (length-listing_after first n m x c h) (omega arith)

  pub products-small : n ≤ 8 → m ≤ 8 → p * (n + m + 7) ≤ 5888
  products-small hn hm =
      let most : p ≤ 256 = omega (arith, counted, products-le n c, pow_mono {i = n} {j = 8} hn) in
      mul-le-mul {n₁ = p} {m₁ = n + m + 7} {n₂ = 256} {m₂ = 23} most (omega arith)

-- the length of a record's listing, from its first word, the digits of its numbers, what stands before the digit of k, the outputs and the products that
-- it states
pub listing-stated : (C : Class) (family : Family) (n m k : ℕ) (e : Expansion) → Listable n m e
    → 17 + length (form_word family) + length (mixed_mark C) + m + digits_of (n ∷ m ∷ k ∷ e.mixed ∷ e.fixed ∷ e.products ∷ e.literals ∷ [])
    + e.products * (n + m + 7)
    ≡ length (listing C family n m k e)
unfolding listing listing_with
listing-stated C family n m k e f =
    omega (
      arith,
      length-stated n m e.products (at e.coefficients) f.counted (form_line family (fields_of C n m k e) ++ inv_line m e.inverted)
          (λ t. cube n t (polarity C n k e.mixed e.fixed (at e.blocks) t)) (λ t. length-cube n t _),
      length-form-inv family (fields_of C n m k e) m e.inverted,
      length-form_fields C n m k e.mixed e.fixed e.products e.literals,
    )
