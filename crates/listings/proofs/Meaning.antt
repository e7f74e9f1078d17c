-- What a listing means, read from its bytes alone, whatever lines stand before its products and whatever its cubes: at every point the exclusive OR of
-- the products that are true there, inverted where the lines before them say (`cubes-value`, `cubes-inverted`), how many products and literals it has
-- (`cubes-products`, `cubes-literals`), and the numbers on its first line (`heading-numbers`).
use mathlib.Core.Bool.{Bool, false, cond}
use mathlib.Core.List.{List, [], ◌∷◌, ◌++◌, map, append_assoc, append-nil}
use mathlib.Core.Path.{◌≡◌, refl, sym, ap, ap₂, ◌∙◌}
use Prim.Native.Nat.{ℕ, zero, suc, ◌+◌, ◌/◌, ◌%◌, ◌^◌, ◌<◌}
use native.Mathlib.Decide.{ℕ_discrete}
use native.Mathlib.Nat.{add_assoc, add-zero, zero-add}
use native.Mathlib.Omega.{arith}
use lib.Bits.{bit_xor, xor_zero_l, xor_zero_r}
use lib.Dec.{lit<}
use lib.ListN.{get_or}
use Rattle.numbers.specs.Nonzero.{if_nonzero, over_nonzero}
use Rattle.numbers.specs.Sums.{fold_below, xor_below, sum_below}
use Rattle.numbers.specs.Bits.{bit}
use Rattle.numbers.specs.Tests.{only}
use Rattle.numbers.proofs.Nonzero.{nonzero-none, nonzero-some}
use Rattle.numbers.proofs.Sums.{fold-ext}
use Rattle.numbers.proofs.Tests.{only_zero}
use Rattle.numbers.proofs.Xor.{xor_assoc}
use Rattle.expansions.specs.declared.families.Family.{Family}
use Rattle.expansions.specs.declared.families.Family.TheVariants.{One, Two}
use Rattle.expansions.specs.Costs.{counted, products}
use Rattle.expansions.proofs.Counted.{counted_none, counted-some}
use Rattle.listings.specs.Parts.{parts, bytes, same, fields, field}
use Rattle.listings.specs.Listing.{tabbed, line, digit_count, decimal, cube_byte, cube, output_bytes}
use Rattle.listings.specs.Listing.{form_word, cube_line, cube_lines, listing_after}
use Rattle.listings.specs.Meaning.{cube_true, literals_in, outputs_said, finished, lines_of, of_term, over_lines, over_terms, of_inv}
use Rattle.listings.specs.Meaning.{listing_inverted, listing_value, listing_products, listing_literals, number_said, first_numbers}
use Rattle.listings.proofs.Joined.{Plain, AllPlain, plain-descending, plain-tabulate, parts-fields, parts-lines}
use Rattle.listings.proofs.Cubes.{outputs-said, decimal-said}

-- ---- the fields of a listing are free of separators

pub plain-decimal : (x : ℕ) → Plain (decimal x)
unfolding decimal
plain-decimal x = plain-descending (digit_count x) (λ i. 48 + x / 10 ^ i % 10) (λ i. omega arith)

pub plain-numbers : (xs : List ℕ) → AllPlain (map decimal xs)
plain-numbers [] = tt
plain-numbers (x ∷ xs) = (plain-decimal x, plain-numbers xs)

plain-cube_byte : (t w : ℕ) → 10 < cube_byte t w
unfolding cube_byte
plain-cube_byte zero w = lit< tt
plain-cube_byte (suc t) zero = lit< tt
plain-cube_byte (suc t) (suc w) = lit< tt

pub plain-cube : (n t w : ℕ) → Plain (cube n t w)
unfolding cube
plain-cube n t w = plain-descending n (λ i. cube_byte (bit i t) (bit i w)) (λ i. plain-cube_byte (bit i t) (bit i w))

pub plain-outputs : (m c : ℕ) → Plain (output_bytes m c)
unfolding output_bytes
plain-outputs m c = plain-tabulate m (λ o. 48 + bit o c) (λ o. omega arith)

pub plain_form : (family : Family) → Plain (form_word family)
unfolding form_word bytes
plain_form One = (lit< tt, (lit< tt, (lit< tt, (lit< tt, tt))))
plain_form Two = (lit< tt, (lit< tt, (lit< tt, (lit< tt, (lit< tt, tt)))))

pub plain-term : Plain (bytes "term")
unfolding bytes
plain-term = (lit< tt, (lit< tt, (lit< tt, (lit< tt, tt))))

pub plain-inv : Plain (bytes "inv")
unfolding bytes
plain-inv = (lit< tt, (lit< tt, (lit< tt, tt)))

pub plain_end : Plain (bytes "end")
unfolding bytes
plain_end = (lit< tt, (lit< tt, (lit< tt, tt)))

-- ---- what is joined over the lines

counted-only : (c : ℕ) (b : Bool) → counted c (only b c) ≡ only b c
unfolding counted
counted-only zero b = sym (only_zero b)
counted-only (suc c) b = refl

-- a line as it stands in a text, without its end
abbrev content : List ℕ → List (List ℕ) → List ℕ
content word fs = word ++ tabbed fs

pub lines-line : (word : List ℕ) (fs : List (List ℕ)) (s : List ℕ) → Plain word → AllPlain fs → lines_of (line word fs ++ s) ≡ (word ++ tabbed fs) ∷ lines_of s
unfolding lines_of finished
lines-line word fs s p ps = rw (parts-lines word fs s p ps)

-- what is said of a line, from its word and its fields
term-said : {A : Type 0} (none : A) (g : List ℕ → List ℕ → A) (word : List ℕ) (fs : List (List ℕ)) → Plain word → AllPlain fs
    → of_term none g (content word fs) ≡ cond (same word (bytes "term")) (g (get_or fs 0 []) (get_or fs 1 [])) none
unfolding of_term fields
term-said none g word fs p ps = rw (parts-fields word fs p ps)

inv-said : (word : List ℕ) (fs : List (List ℕ)) → Plain word → AllPlain fs → of_inv (content word fs) ≡ cond (same word (bytes "inv")) (outputs_said (get_or fs 0 [])) 0
unfolding of_inv fields
inv-said word fs p ps = rw (parts-fields word fs p ps)

module _ {A : Type 0} (op : A → A → A) (none : A) (assoc : (a b c : A) → op (op a b) c ≡ op a (op b c))
    (left : (a : A) → op none a ≡ a) (right : (a : A) → op a none ≡ a) (g : List ℕ → A) where
  over-append : (ls ks : List (List ℕ)) → over_lines op none g (ls ++ ks) ≡ op (over_lines op none g ls) (over_lines op none g ks)
  unfolding over_lines
  over-append [] ks = sym (left (over_lines op none g ks))
  over-append (l ∷ ls) ks = ap (op (g l)) (over-append ls ks) ∙ sym (assoc _ _ _)

  over-line : (word : List ℕ) (fs : List (List ℕ)) (s : List ℕ) → Plain word → AllPlain fs
      → over_lines op none g (lines_of (line word fs ++ s)) ≡ op (g (content word fs)) (over_lines op none g (lines_of s))
  unfolding over_lines
  over-line word fs s p ps = ap (over_lines op none g) (lines-line word fs s p ps)

  over-end : g (content (bytes "end") []) ≡ none → over_lines op none g (lines_of (line (bytes "end") [])) ≡ none
  unfolding line tabbed bytes over_lines lines_of finished parts
  over-end z = over-line (bytes "end") [] [] plain_end tt ∙ rw z (left none)

  -- what starts at `none`, and at each product takes up what is said of its line, is what is said of all their lines
  module _ (m : ℕ) (x : ℕ → List ℕ) (c : ℕ → ℕ) (plain : (t : ℕ) → Plain (x t)) (whole : ℕ → A) (start : whole 0 ≡ none)
      (keep : (t : ℕ) → c t ≡ 0 → whole (suc t) ≡ whole t)
      (more : (t : ℕ) → (c t ≡ 0 → ⊥) → whole (suc t) ≡ op (whole t) (g (content (bytes "term") (x t ∷ output_bytes m (c t) ∷ [])))) where
    over : List ℕ → A
    over s = over_lines op none g (lines_of s)

    over-cube : (t : ℕ) (s : List ℕ) → over (cube_line m (x t) (c t) ++ s) ≡ op (g (content (bytes "term") (x t ∷ output_bytes m (c t) ∷ []))) (over s)
    unfolding cube_line over
    over-cube t s = over-line (bytes "term") (x t ∷ output_bytes m (c t) ∷ []) s plain-term (plain t, (plain-outputs m (c t), tt))

    over-cubes : (N : ℕ) (s : List ℕ) → over (cube_lines m x c N ++ s) ≡ op (whole N) (over s)
    unfolding over_nonzero
    over-cubes zero s = sym (ap (λ (a : A). op a (over s)) start ∙ left (over s))
    over-cubes (suc t) s = go (ℕ_discrete (c t) 0) (over-cubes t s) (over-cubes t (cube_line m (x t) (c t) ++ s)) where
      l : List ℕ
      l = cube_line m (x t) (c t)

      go : Dec (c t ≡ 0) → over (cube_lines m x c t ++ s) ≡ op (whole t) (over s)
          → over (cube_lines m x c t ++ (l ++ s)) ≡ op (whole t) (over (l ++ s))
          → over ((cube_lines m x c t ++ if_nonzero (c t) l) ++ s) ≡ op (whole (suc t)) (over s)
      go (yes z) here next =
          rw (nonzero-none (c t) l z, append-nil (cube_lines m x c t)) here ∙ ap (λ (a : A). op a (over s)) (sym (keep t z))
      go (no z) here next =
          rw (nonzero-some (c t) l z, append_assoc (cube_lines m x c t) l s)
          (next ∙ ap (op (whole t)) (over-cube t s) ∙ sym (assoc _ _ _) ∙ ap (λ (a : A). op a (over s)) (sym (more t z)))

    -- of a whole listing, whatever lines stand before its products
    over-listing : (first : List ℕ) (ls : List (List ℕ)) → ((s : List ℕ) → lines_of (first ++ s) ≡ ls ++ lines_of s) → g (content (bytes "end") []) ≡ none
        → (n : ℕ) → over_lines op none g (lines_of (listing_after first n m x c)) ≡ op (over_lines op none g ls) (whole (2 ^ n))
    unfolding over
    over-listing first ls parted z n =
        let terms : List ℕ = cube_lines m x c (2 ^ n) in
        ap over (append_assoc first terms (line (bytes "end") []))
        ∙ ap (over_lines op none g) (parted (terms ++ line (bytes "end") []))
        ∙ over-append ls (lines_of (terms ++ line (bytes "end") []))
        ∙ ap (op (over_lines op none g ls)) (over-cubes (2 ^ n) (line (bytes "end") []) ∙ rw (over-end z) (right _))

-- ---- what stands before the products

-- no line is a line `term`
abbrev pub NoTerms : List (List ℕ) → Type 0
NoTerms [] = Unit
NoTerms (l ∷ ls) = (same (field 0 l) (bytes "term") ≡ false) × NoTerms ls

-- what stands before the products is these lines, none of them a line `term`, and they invert the outputs v
pub record Heading (first : List ℕ) (ls : List (List ℕ)) (v : ℕ) : Type 0 where
  pub parted : (s : List ℕ) → lines_of (first ++ s) ≡ ls ++ lines_of s
  pub others : NoTerms ls
  pub inverts : over_lines bit_xor 0 of_inv ls ≡ v

no-terms : {A : Type 0} (op : A → A → A) (none : A) → ((a : A) → op none a ≡ a) → (g : List ℕ → List ℕ → A) (ls : List (List ℕ)) → NoTerms ls
    → over_lines op none (of_term none g) ls ≡ none
unfolding over_lines of_term
no-terms op none left g [] h = refl
no-terms op none left g (l ∷ ls) h = rw (h.0, no-terms op none left g ls h.1) (left none)

no-terms-append : (ls ks : List (List ℕ)) → NoTerms ls → NoTerms ks → NoTerms (ls ++ ks)
no-terms-append [] ks h g = g
no-terms-append (l ∷ ls) ks h g = (h.0, no-terms-append ls ks h.1 g)

-- a line that is no line `term`
pub heading-line : (word : List ℕ) (fs : List (List ℕ)) → Plain word → AllPlain fs → same word (bytes "term") ≡ false
    → Heading (line word fs) ((word ++ tabbed fs) ∷ []) (cond (same word (bytes "inv")) (outputs_said (get_or fs 0 [])) 0)
unfolding over_lines fields
heading-line word fs p ps h =
    record {
      parted = λ s. lines-line word fs s p ps;
      others = (rw (parts-fields word fs p ps) h, tt);
      inverts = xor_zero_r (of_inv (word ++ tabbed fs)) ∙ inv-said word fs p ps;
    }

pub heading-append : (a b : List ℕ) (ls ks : List (List ℕ)) (v w : ℕ) → Heading a ls v → Heading b ks w → Heading (a ++ b) (ls ++ ks) (bit_xor v w)
heading-append a b ls ks v w h g =
    record {
      parted = λ s. ap lines_of (append_assoc a b s) ∙ h.parted (b ++ s) ∙ ap (λ (l : List (List ℕ)). ls ++ l) (g.parted s) ∙ sym (append_assoc ls ks (lines_of s));
      others = no-terms-append ls ks h.others g.others;
      inverts = over-append bit_xor 0 xor_assoc xor_zero_l xor_zero_r of_inv ls ks ∙ ap₂ bit_xor h.inverts g.inverts;
    }

-- ---- what is said of the products

term-cube : {A : Type 0} (none : A) (g : List ℕ → List ℕ → A) (x o : List ℕ) → Plain x → Plain o → of_term none g (content (bytes "term") (x ∷ o ∷ [])) ≡ g x o
unfolding bytes same
term-cube none g x o px po = term-said none g (bytes "term") (x ∷ o ∷ []) plain-term (px, (po, tt))

term-end : {A : Type 0} (none : A) (g : List ℕ → List ℕ → A) → of_term none g (content (bytes "end") []) ≡ none
unfolding bytes same
term-end none g = term-said none g (bytes "end") [] plain_end tt

inv-cube : (x o : List ℕ) → Plain x → Plain o → of_inv (content (bytes "term") (x ∷ o ∷ [])) ≡ 0
unfolding bytes same
inv-cube x o px po = inv-said (bytes "term") (x ∷ o ∷ []) plain-term (px, (po, tt))

inv-end : of_inv (content (bytes "end") []) ≡ 0
unfolding bytes same
inv-end = inv-said (bytes "end") [] plain_end tt

-- of any listing, whatever stands before its products and whatever its cubes
module _ (first : List ℕ) (ls : List (List ℕ)) (v : ℕ) (h : Heading first ls v) (n m : ℕ) (x : ℕ → List ℕ) (c : ℕ → ℕ) (plain : (t : ℕ) → Plain (x t)) where
  -- what starts at `none`, and at each product takes up what is said of its cube and its outputs
  pub over-terms : {A : Type 0} (op : A → A → A) (none : A) → ((a b c : A) → op (op a b) c ≡ op a (op b c)) → ((a : A) → op none a ≡ a) → ((a : A) → op a none ≡ a)
      → (g : List ℕ → List ℕ → A) (whole : ℕ → A) → whole 0 ≡ none → ((t : ℕ) → c t ≡ 0 → whole (suc t) ≡ whole t)
      → ((t : ℕ) → (c t ≡ 0 → ⊥) → whole (suc t) ≡ op (whole t) (g (x t) (output_bytes m (c t)))) → over_terms op none g (listing_after first n m x c) ≡ whole (2 ^ n)
  unfolding over_terms
  over-terms op none assoc left right g whole start keep more =
      over-listing op none assoc left right (of_term none g) m x c plain whole start keep
      (λ t z. more t z ∙ ap (op (whole t)) (sym (term-cube none g (x t) (output_bytes m (c t)) (plain t) (plain-outputs m (c t)))))
      first ls h.parted (term-end none g) n
      ∙ rw (no-terms op none left g ls h.others) (left (whole (2 ^ n)))

  -- as numbers: each product counts what is said of its line
  over-counted : (op : ℕ → ℕ → ℕ) → ((a b c : ℕ) → op (op a b) c ≡ op a (op b c)) → ((a : ℕ) → op 0 a ≡ a) → ((a : ℕ) → op a 0 ≡ a)
      → (g : List ℕ → List ℕ → ℕ) → over_terms op 0 g (listing_after first n m x c) ≡ fold_below op (2 ^ n) (λ t. counted (c t) (g (x t) (output_bytes m (c t))))
  unfolding fold_below
  over-counted op assoc left right g =
      over-terms op 0 assoc left right g (λ N. fold_below op N part) refl
      (λ t z. ap (op (fold_below op t part)) (counted_none (c t) (said t) z) ∙ right (fold_below op t part))
      (λ t z. ap (op (fold_below op t part)) (counted-some (c t) (said t) z))
    where
      said : ℕ → ℕ
      said t = g (x t) (output_bytes m (c t))

      part : ℕ → ℕ
      part t = counted (c t) (said t)

  -- the outputs that it inverts are those that the lines before its products say
  pub cubes-inverted : listing_inverted (listing_after first n m x c) ≡ v
  unfolding listing_inverted
  cubes-inverted =
      over-listing bit_xor 0 xor_assoc xor_zero_l xor_zero_r of_inv m x c plain (λ N. 0) refl (λ t z. refl)
      (λ t z. sym (xor_zero_l (of_inv _) ∙ inv-cube (x t) (output_bytes m (c t)) (plain t) (plain-outputs m (c t)))) first ls h.parted inv-end n
      ∙ xor_zero_r _ ∙ h.inverts

  pub cubes-value : ((t : ℕ) → t < 2 ^ n → c t < 2 ^ m) → (p : ℕ)
      → listing_value (listing_after first n m x c) p ≡ bit_xor (xor_below (2 ^ n) (λ t. only (cube_true (x t) p) (c t))) v
  unfolding listing_value
  cubes-value small p =
      ap₂ bit_xor
      (over-counted bit_xor xor_assoc xor_zero_l xor_zero_r (λ cube outputs. only (cube_true cube p) (outputs_said outputs))
      ∙ fold-ext bit_xor (2 ^ n) _ _ (λ t l. rw (outputs-said m (c t) (small t l)) (counted-only (c t) (cube_true (x t) p))))
      cubes-inverted

  pub cubes-products : listing_products (listing_after first n m x c) ≡ products n c
  unfolding listing_products products
  cubes-products = over-counted ◌+◌ add_assoc zero-add add-zero (λ cube outputs. 1)

  pub cubes-literals : listing_literals (listing_after first n m x c) ≡ sum_below (2 ^ n) (λ t. counted (c t) (literals_in (x t)))
  unfolding listing_literals
  cubes-literals = over-counted ◌+◌ add_assoc zero-add add-zero (λ cube outputs. literals_in cube)

-- ---- the numbers of the first line

-- every number has at most four digits
abbrev pub Small : List ℕ → Type 0
Small [] = Unit
Small (x ∷ xs) = (x < 10000) × Small xs

pub numbers-said : (xs : List ℕ) → Small xs → map (number_said 0) (map decimal xs) ≡ xs
numbers-said [] h = refl
numbers-said (x ∷ xs) h = rw (decimal-said x h.0, numbers-said xs h.1)

-- what the fields of a first line say, as numbers
pub heading-numbers : (word : List ℕ) (fs : List (List ℕ)) (s : List ℕ) → Plain word → AllPlain fs → first_numbers (line word fs ++ s) ≡ map (number_said 0) fs
unfolding first_numbers
heading-numbers word fs s p ps = rw (parts-lines word fs s p ps, parts-fields word fs p ps)
