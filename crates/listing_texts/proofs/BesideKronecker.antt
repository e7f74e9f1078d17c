-- Listings beside a `K` table, in document 02's words: the number is 12 exactly where the listing is a `form` or `form2` listing (`form-exactly`), and
-- else 11 (`other-exactly`). The first 8,192 bytes of a listing have the same number (`beside_first`). A first line that is wrong is 11, line 1, beside
-- every table (`wrong-beside`, `wrong-read`): that of a `kron` listing (`kron-wrong`), and one with `-` for k (`dash-wrong`).
use mathlib.Core.Bool.{false, and-false}
use mathlib.Core.List.{List, [], ◌∷◌, ◌++◌, append_assoc}
use mathlib.Core.Logic.{◌⊎◌, inl, inr, ◌↔◌}
use mathlib.Core.Path.{◌≡◌, refl, sym, ap, ◌∙◌}
use Prim.Native.Nat.{ℕ, ◌+◌, ◌-◌, ◌≤◌}
use native.Mathlib.Omega.{arith}
use lib.Dec.{eqb}
use lib.ListN.{length, take, drop, take-append-drop}
use lib.Seq.{take-append-add}
use Rattle.std.specs.Prelude.{Option, Some, None}
use Rattle.numbers.specs.declared.refusals.Refusal.TheVariants.{BrokenListing, UnlikeListing}
use Rattle.expansions.specs.declared.families.Family.{Family}
use Rattle.expansions.specs.declared.families.Family.TheVariants.{One, Two}
use Rattle.listings.specs.Parts.{parts, bytes, same, fields, field}
use Rattle.listings.specs.Listing.{tabbed, line, form_word, form_line}
use Rattle.listings.specs.Meaning.{shown_field}
use Rattle.listings.proofs.Joined.{parts-lines}
use Rattle.listings.proofs.Lengths.{digits_of-le, length-form_word, length-form_line, length-form_fields}
use Rattle.listings.proofs.Meaning.{plain_form}
use Rattle.listings.proofs.Parts.{separated, parts-joined}
use Rattle.fields.specs.declared.heading.Heading.{Heading}
use Rattle.fields.specs.Fields.{headed, family_of, heading_said, digit, one_digit, number, mixed_said}
use Rattle.table_texts.specs.declared.sizes.Sizes.{Sizes}
use Rattle.listing_texts.specs.declared.form.Form.{Form}
use Rattle.listing_texts.specs.Form.{sizes_of, first_line, stated_fields, FormListing, KronListing}
use Rattle.listing_texts.specs.Read.{refused, all_lines, listing_reading, beside_line, beside_lines, beside_kronecker}
use Rattle.listing_texts.proofs.FormRead.{plain-stated, form-said, form-read}
use Rattle.listing_texts.proofs.Length.{mark-le}

-- ---- a `form` or `form2` listing

form-beside : (s : List ℕ) → FormListing s → beside_kronecker s ≡ UnlikeListing
unfolding beside_kronecker beside_lines
form-beside s g =
    let family : Family = g.form.sizes.family in
    ap beside_kronecker g.characters
    ∙ rw (
      parts-lines (form_word family) (stated_fields g.form) g.rest (plain_form family) (plain-stated g.form),
      form-said g.form g.digits,
    )

lines-form : (s l : List ℕ) (ls : List (List ℕ)) → l ++ separated 10 ls ≡ s → beside_lines l ls ≡ UnlikeListing → FormListing s
unfolding beside_lines separated line
lines-form s l [] e h = cc
lines-form s l (l' ∷ ls) e h = go (first_line l) refl h where
  go : (x : Option Form) → first_line l ≡ x → beside_line x ≡ UnlikeListing → FormListing s
  go (Some f) says h =
      let read = form-read l f says in
      let rest : List ℕ = l' ++ separated 10 ls in
      let word : List ℕ = form_word f.sizes.family ++ tabbed (stated_fields f) in
      record {
        form = f;
        digits = read.1;
        rest = rest;
        characters = sym e ∙ ap (λ (a : List ℕ). a ++ 10 ∷ rest) read.0 ∙ sym (append_assoc word (10 ∷ []) rest);
      }
  go None says h = cc

pub form-exactly : (s : List ℕ) → (beside_kronecker s ≡ UnlikeListing) ↔ FormListing s
unfolding beside_kronecker
form-exactly s = (lines-form s (parts 10 s).first (parts 10 s).others (parts-joined 10 s), form-beside s)

-- ---- any other

lines-either : (l : List ℕ) (ls : List (List ℕ)) → (beside_lines l ls ≡ BrokenListing) ⊎ (beside_lines l ls ≡ UnlikeListing)
unfolding beside_lines
lines-either l [] = inl refl
lines-either l (l' ∷ ls) = go (first_line l) where
  go : (x : Option Form) → (beside_line x ≡ BrokenListing) ⊎ (beside_line x ≡ UnlikeListing)
  go (Some f) = inr refl
  go None = inl refl

pub beside-either : (s : List ℕ) → (beside_kronecker s ≡ BrokenListing) ⊎ (beside_kronecker s ≡ UnlikeListing)
unfolding beside_kronecker
beside-either s = lines-either (parts 10 s).first (parts 10 s).others

pub other-exactly : (s : List ℕ) → (beside_kronecker s ≡ BrokenListing) ↔ (FormListing s → ⊥)
other-exactly s = (λ e g. cc (form-beside s g), λ none. go none (beside-either s)) where
  go : (FormListing s → ⊥) → (beside_kronecker s ≡ BrokenListing) ⊎ (beside_kronecker s ≡ UnlikeListing) → beside_kronecker s ≡ BrokenListing
  go none (inl e) = e
  go none (inr e) = absurd (none ((form-exactly s).0 e))

-- ---- the first 8,192 bytes

first-le : (f : Form) → length (line (form_word f.sizes.family) (stated_fields f)) ≤ 42
unfolding form_line
first-le f =
    let z = f.sizes in
    omega (
      arith,
      length-form_line z.family (stated_fields f),
      length-form_word z.family,
      length-form_fields z.class z.n z.m z.k f.mixed f.fixed f.products f.literals,
      digits_of-le (z.n ∷ z.m ∷ z.k ∷ f.mixed ∷ f.fixed ∷ f.products ∷ f.literals ∷ []),
      mark-le z.class,
    )

form-first : (s : List ℕ) → FormListing s → FormListing (take 8192 s)
form-first s g =
    let first : List ℕ = line (form_word g.form.sizes.family) (stated_fields g.form) in
    let long : 8192 ≡ length first + (8192 - length first) = omega (arith, first-le g.form) in
    record {
      form = g.form;
      digits = g.digits;
      rest = take (8192 - length first) g.rest;
      characters =
          ap (take 8192) g.characters
          ∙ ap (λ (i : ℕ). take i (first ++ g.rest)) long
          ∙ take-append-add first g.rest (8192 - length first);
    }

form-whole : (s : List ℕ) → FormListing (take 8192 s) → FormListing s
form-whole s g =
    let first : List ℕ = line (form_word g.form.sizes.family) (stated_fields g.form) in
    record {
      form = g.form;
      digits = g.digits;
      rest = g.rest ++ drop 8192 s;
      characters =
          sym (take-append-drop 8192 s)
          ∙ ap (λ (l : List ℕ). l ++ drop 8192 s) g.characters
          ∙ append_assoc first g.rest (drop 8192 s);
    }

pub beside_first : (s : List ℕ) → beside_kronecker (take 8192 s) ≡ beside_kronecker s
beside_first s = go (beside-either s) where
  go : (beside_kronecker s ≡ BrokenListing) ⊎ (beside_kronecker s ≡ UnlikeListing) → beside_kronecker (take 8192 s) ≡ beside_kronecker s
  go (inl e) = (other-exactly (take 8192 s)).1 (λ g. (other-exactly s).0 e (form-whole s g)) ∙ sym e
  go (inr e) = (form-exactly (take 8192 s)).1 (form-first s ((form-exactly s).0 e)) ∙ sym e

-- ---- a first line that is wrong

wrong-lines : (l : List ℕ) (ls : List (List ℕ)) → first_line l ≡ None → beside_lines l ls ≡ BrokenListing
unfolding beside_lines
wrong-lines l [] e = refl
wrong-lines l (l' ∷ ls) e = ap beside_line e

pub wrong-beside : (s : List ℕ) → first_line (parts 10 s).first ≡ None → beside_kronecker s ≡ BrokenListing
unfolding beside_kronecker
wrong-beside s e = wrong-lines (parts 10 s).first (parts 10 s).others e

wrong-all : (z : Sizes) (l : List ℕ) (ls : List (List ℕ)) → first_line l ≡ None → all_lines z l ls ≡ refused BrokenListing 1
unfolding all_lines
wrong-all z l [] e = refl
wrong-all z l (l' ∷ ls) e = rw e

pub wrong-read : (z : Sizes) (s : List ℕ) → first_line (parts 10 s).first ≡ None → listing_reading z s ≡ refused BrokenListing 1
unfolding listing_reading
wrong-read z s e = wrong-all z (parts 10 s).first (parts 10 s).others e

-- no line of the word `kron` is a `form` or `form2` line
kron-headed : (l : List ℕ) (family : Family) → field 0 l ≡ bytes "kron" → headed 8 (form_word family) l ≡ false
unfolding headed form_word same bytes
kron-headed l One e = rw e (and-false (eqb (length (fields l)) 8))
kron-headed l Two e = rw e (and-false (eqb (length (fields l)) 8))

pub kron-wrong : (s : List ℕ) → KronListing s → first_line (parts 10 s).first ≡ None
unfolding first_line family_of
kron-wrong s e = let l : List ℕ = (parts 10 s).first in rw (kron-headed l One e, kron-headed l Two e)

-- nor has one a `-` for k, which says no class

no-class : (h : Option Heading) → ◌≡◌ {A = Option Sizes} (sizes_of h None) None
no-class (Some h) = refl
no-class None = refl

dash-no-class : mixed_said (bytes "-") ≡ None
unfolding mixed_said one_digit digit bytes
dash-no-class = refl

pub dash-wrong : (s : List ℕ) → shown_field s ≡ bytes "-" → first_line (parts 10 s).first ≡ None
unfolding first_line
dash-wrong s e =
    let l : List ℕ = (parts 10 s).first in
    let h : Option Heading = heading_said (family_of 8 (form_word One) (form_word Two) l) (number 4 (field 1 l)) (number 4 (field 2 l)) in
    let none : sizes_of h (mixed_said (field 3 l)) ≡ None = ap (sizes_of h) (ap mixed_said e ∙ dash-no-class) ∙ no-class h in
    rw none
