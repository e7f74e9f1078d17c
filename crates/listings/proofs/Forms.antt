-- What a `form` or a `form2` listing means, read from its bytes alone: at every point the value of the expansion, inverted where the mask says
-- (`listing-value`, `listing-inverted`), as many products and literals as it has (`listing-products`, `listing-literals`), their cubes (`listing-cubes`), and
-- the numbers of its record on the first line (`listing-numbers`), with the field k of its class (`listing-field`).
use mathlib.Core.Bool.{Bool, false}
use mathlib.Core.List.{List, [], ◌∷◌, ◌++◌, append_assoc, append-nil}
use mathlib.Core.Path.{◌≡◌, refl, ap, ap₂, ◌∙◌}
use Prim.Native.Nat.{ℕ, ◌+◌, ◌-◌, ◌^◌, ◌≤◌, ◌<◌}
use native.Mathlib.Omega.{arith}
use lib.Bits.{bit_xor, xor_zero_l}
use lib.Dec.{lit<}
use lib.ListN.{length, get_or}
use lib.Pow.{pow_mono}
use Rattle.numbers.specs.Bytes.{at}
use Rattle.numbers.specs.Nonzero.{over_nonzero}
use Rattle.numbers.specs.Tests.{only}
use Rattle.algebra.specs.Terms.{value}
use Rattle.numbers.proofs.Nonzero.{nonzero-none, nonzero-some}
use Rattle.numbers.proofs.Sums.{fold-ext}
use Rattle.expansions.specs.declared.kinds.Class.{Class}
use Rattle.expansions.specs.declared.kinds.Class.TheVariants.{Block, Free}
use Rattle.expansions.specs.declared.families.Family.{Family}
use Rattle.expansions.specs.declared.families.Family.TheVariants.{One, Two}
use Rattle.expansions.specs.Costs.{counted, products, literals}
use Rattle.expansions.specs.Members.{polarity}
use Rattle.search.specs.declared.expansion.Expansion.{Expansion}
use Rattle.expansions.proofs.Costs.{products-le}
use Rattle.listings.specs.Parts.{parts, bytes, same, fields}
use Rattle.listings.specs.Listing.{tabbed, line, cube, output_bytes, mixed_mark, mixed_field, form_fields, fields_of, form_word, form_line, inv_line, cube_lines, printed_cubes, listing_with, listing}
use Rattle.listings.specs.Inner.Listable.{Listable}
use Rattle.listings.specs.Meaning.{outputs_said, listing_inverted, listing_value, listing_products, listing_literals, listing_cubes}
use Rattle.listings.specs.Meaning.{number_said, first_numbers, shown_field, stated_products, stated_literals}
use Rattle.listings.proofs.Cubes.{cube-holds, cube-literals, outputs-said, decimal-said}
use Rattle.listings.proofs.Joined.{Plain, AllPlain, parts-fields, parts-lines}
use Rattle.listings.proofs.Meaning.{plain-decimal, plain-numbers, plain-cube, plain-outputs, plain_form, plain-inv, Heading, heading-line, heading-append, over-terms}
use Rattle.listings.proofs.Meaning.{cubes-inverted, cubes-value, cubes-products, cubes-literals, Small, numbers-said}

-- ---- what stands before the products

-- the first word is neither `term` nor `inv`
other-form : (family : Family) → (same (form_word family) (bytes "term") ≡ false) × (same (form_word family) (bytes "inv") ≡ false)
unfolding form_word bytes same
other-form One = (refl, refl)
other-form Two = (refl, refl)

-- the first two lines, without their ends
abbrev form_lines : Family → List (List ℕ) → ℕ → ℕ → List (List ℕ)
form_lines family fs m v = (form_word family ++ tabbed fs) ∷ (bytes "inv" ++ tabbed (output_bytes m v ∷ [])) ∷ []

-- they are no lines `term`, and invert the outputs that the second one says
form-heading : (family : Family) (fs : List (List ℕ)) (m v : ℕ) → AllPlain fs
    → Heading (form_line family fs ++ inv_line m v) (form_lines family fs m v) (outputs_said (output_bytes m v))
unfolding form_line inv_line bytes same
form-heading family fs m v plain =
    let form = heading-line (form_word family) fs (plain_form family) plain (other-form family).0 in
    let inv = heading-line (bytes "inv") (output_bytes m v ∷ []) plain-inv (plain-outputs m v, tt) refl in
    rw ((other-form family).1, xor_zero_l (outputs_said (output_bytes m v))) at (heading-append _ _ _ _ _ _ form inv)

-- ---- the value at a point, the products, the literals and the cubes

module _ (family : Family) (fs : List (List ℕ)) (plain : AllPlain fs) (v n m : ℕ) (w c : ℕ → ℕ) where
  x : ℕ → List ℕ
  x t = cube n t (w t)

  -- the cubes, one for each product
  pub listing-cubes : listing_cubes (listing_with family fs v n m w c) ≡ printed_cubes n w c
  unfolding listing_cubes over_nonzero listing_with x
  listing-cubes =
      over-terms _ _ _ (form-heading family fs m v plain) n m x c (λ t. plain-cube n t (w t)) ◌++◌ [] append_assoc (λ a. refl) append-nil (λ x outputs. x ∷ []) cubes refl
      (λ t z. ap (λ (l : List (List ℕ)). cubes t ++ l) (nonzero-none (c t) (cube n t (w t) ∷ []) z) ∙ append-nil (cubes t))
      (λ t z. ap (λ (l : List (List ℕ)). cubes t ++ l) (nonzero-some (c t) (cube n t (w t) ∷ []) z))
    where
      cubes : ℕ → List (List ℕ)
      cubes N = over_nonzero (λ t. cube n t (w t) ∷ []) c N

  pub listing-inverted : v < 2 ^ m → listing_inverted (listing_with family fs v n m w c) ≡ v
  unfolding listing_with x
  listing-inverted h = cubes-inverted _ _ _ (form-heading family fs m v plain) n m x c (λ t. plain-cube n t (w t)) ∙ outputs-said m v h

  pub listing-value : v < 2 ^ m → ((t : ℕ) → t < 2 ^ n → c t < 2 ^ m) → (p : ℕ) → listing_value (listing_with family fs v n m w c) p ≡ bit_xor (value n w c p) v
  unfolding value listing_with x
  listing-value h small p =
      cubes-value _ _ _ (form-heading family fs m v plain) n m x c (λ t. plain-cube n t (w t)) small p
      ∙ ap₂ bit_xor (fold-ext bit_xor (2 ^ n) _ _ (λ t l. ap (λ (b : Bool). only b (c t)) (cube-holds n t (w t) p l))) (outputs-said m v h)

  pub listing-products : listing_products (listing_with family fs v n m w c) ≡ products n c
  unfolding listing_with x
  listing-products = cubes-products _ _ _ (form-heading family fs m v plain) n m x c (λ t. plain-cube n t (w t))

  pub listing-literals : listing_literals (listing_with family fs v n m w c) ≡ literals n c
  unfolding literals listing_with x
  listing-literals =
      cubes-literals _ _ _ (form-heading family fs m v plain) n m x c (λ t. plain-cube n t (w t))
      ∙ fold-ext ◌+◌ (2 ^ n) _ _ (λ t l. ap (λ (x : ℕ). counted (c t) x) (cube-literals n t _ l))

  -- the fields of the first line
  listing-fields : parts 9 (parts 10 (listing_with family fs v n m w c)).first ≡ record { first = form_word family; others = fs }
  unfolding listing_with form_line
  listing-fields =
      let terms : List ℕ = cube_lines m (λ t. cube n t (w t)) c (2 ^ n) in
      let last : List ℕ = line (bytes "end") [] in
      ap (λ (s : List ℕ). parts 9 (parts 10 s).first)
      (append_assoc (form_line family fs ++ inv_line m v) terms last ∙ append_assoc (form_line family fs) (inv_line m v) (terms ++ last))
      ∙ rw (parts-lines (form_word family) fs (inv_line m v ++ (terms ++ last)) (plain_form family) plain) (parts-fields (form_word family) fs (plain_form family) plain)

-- ---- the first line

pub plain-mixed_field : (C : Class) (k : ℕ) → Plain (mixed_field C k)
unfolding mixed_field mixed_mark bytes
plain-mixed_field Block k = plain-decimal k
plain-mixed_field Free k = (lit< tt, plain-decimal k)

-- the fields of a first line are free of separators
pub plain_fields : (C : Class) (n m k M i p l : ℕ) → AllPlain (form_fields C n m k M i p l)
plain_fields C n m k M i p l = (plain-decimal n, (plain-decimal m, (plain-mixed_field C k, plain-numbers (M ∷ i ∷ p ∷ l ∷ []))))

-- the numbers that a `form` or a `form2` listing states on its first line
pub listing-numbers : (family : Family) (C : Class) (n m k M i p l v : ℕ) (w c : ℕ → ℕ) → Small (n ∷ m ∷ M ∷ i ∷ p ∷ l ∷ [])
    → first_numbers (listing_with family (form_fields C n m k M i p l) v n m w c) ≡ n ∷ m ∷ number_said 0 (mixed_field C k) ∷ M ∷ i ∷ p ∷ l ∷ []
unfolding first_numbers
listing-numbers family C n m k M i p l v w c (hn, (hm, small)) =
    let fs : List (List ℕ) = form_fields C n m k M i p l in
    rw (listing-fields family fs (plain_fields C n m k M i p l) v n m w c, decimal-said n hn, decimal-said m hm)
    (ap (λ (xs : List ℕ). n ∷ m ∷ number_said 0 (mixed_field C k) ∷ xs) (numbers-said (M ∷ i ∷ p ∷ l ∷ []) small))

-- the field k on the first line of the listing of a class
pub listing-field : (C : Class) (family : Family) (n m k : ℕ) (e : Expansion) → shown_field (listing C family n m k e) ≡ mixed_field C k
unfolding listing fields
listing-field C family n m k e =
    let fs : List (List ℕ) = fields_of C n m k e in
    let plain = plain_fields C n m k e.mixed e.fixed e.products e.literals in
    rw (listing-fields family fs plain e.inverted n m (polarity C n k e.mixed e.fixed (at e.blocks)) (at e.coefficients))

module _ (C : Class) (family : Family) (n m k : ℕ) (e : Expansion) (f : Listable n m e) (few : e.literals < 10000) where
  small-numbers : Small (n ∷ m ∷ e.mixed ∷ e.fixed ∷ e.products ∷ e.literals ∷ [])
  small-numbers =
      let size : 2 ^ n ≤ 256 = pow_mono {i = n} {j = 8} f.inputs in
      let most : e.products ≤ 2 ^ n = rw f.counted (products-le n (at e.coefficients)) in
      (omega arith, (omega arith, (omega arith, (omega arith, (omega arith, (few, tt))))))

  -- n, m, k, M, i, products and literals
  stated-numbers : first_numbers (listing C family n m k e)
      ≡ n ∷ m ∷ number_said 0 (mixed_field C k) ∷ e.mixed ∷ e.fixed ∷ e.products ∷ e.literals ∷ []
  unfolding listing
  stated-numbers =
      listing-numbers family C n m k e.mixed e.fixed e.products e.literals e.inverted (polarity C n k e.mixed e.fixed (at e.blocks))
      (at e.coefficients) small-numbers

  pub stated-products : stated_products (listing C family n m k e) ≡ e.products
  stated-products = ap (λ (xs : List ℕ). get_or xs (length xs - 2) 0) stated-numbers

  pub stated-literals : stated_literals (listing C family n m k e) ≡ e.literals
  stated-literals = ap (λ (xs : List ℕ). get_or xs (length xs - 1) 0) stated-numbers
