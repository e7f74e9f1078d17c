-- The first line of a listing: the line that is written for a family, a class and seven numbers says them (`form-said`), and a line that says them is the
-- one that is written for them (`form-read`).
use mathlib.Core.Bool.{false}
use mathlib.Core.List.{List, ◌++◌}
use mathlib.Core.Path.{◌≡◌, refl, ap, ◌∙◌}
use Prim.Native.Nat.{ℕ}
use lib.Dec.{lit≤}
use Rattle.std.specs.Prelude.{Option, Some, None}
use Rattle.expansions.specs.declared.families.Family.{Family}
use Rattle.expansions.specs.declared.families.Family.TheVariants.{One, Two}
use Rattle.listings.specs.Parts.{parts, bytes, same, field, fields}
use Rattle.listings.specs.Listing.{tabbed, form_word}
use Rattle.listings.proofs.Joined.{AllPlain, parts-fields}
use Rattle.listings.proofs.Forms.{plain_fields}
use Rattle.listings.proofs.Meaning.{plain_form}
use Rattle.fields.specs.declared.heading.Heading.{Heading}
use Rattle.fields.specs.declared.values.Mixed.{Mixed}
use Rattle.fields.specs.Fields.{number, family_of, heading_said}
use Rattle.fields.proofs.Written.{number-decimal, mixed_is_said}
use Rattle.fields.proofs.FieldsRead.{number_read, mixed-read}
use Rattle.fields.proofs.Headed.{list-each, family-said, family-read, heading-fields}
use Rattle.table_texts.specs.declared.sizes.Sizes.{Sizes}
use Rattle.listing_texts.specs.declared.form.Form.{Form}
use Rattle.listing_texts.specs.Form.{sizes_of, form_of, first_line, stated_fields, Digits}

-- ---- the line that is written

pub plain-stated : (f : Form) → AllPlain (stated_fields f)
plain-stated f = let z = f.sizes in plain_fields z.class z.n z.m z.k f.mixed f.fixed f.products f.literals

other_word : same (form_word Two) (form_word One) ≡ false
unfolding form_word bytes same
other_word = refl

pub form-said : (f : Form) → Digits f → first_line (form_word f.sizes.family ++ tabbed (stated_fields f)) ≡ Some f
unfolding first_line fields
form-said f d =
    let family : Family = f.sizes.family in
    rw (
      family-said form_word plain_form other_word family (stated_fields f) (plain-stated f),
      parts-fields (form_word family) (stated_fields f) (plain_form family) (plain-stated f),
      number-decimal 4 f.sizes.n (lit≤ tt) (lit≤ tt) d.n,
      number-decimal 4 f.sizes.m (lit≤ tt) (lit≤ tt) d.m,
      mixed_is_said f.sizes.class f.sizes.k d.k,
      number-decimal 4 f.mixed (lit≤ tt) (lit≤ tt) d.mixed,
      number-decimal 4 f.fixed (lit≤ tt) (lit≤ tt) d.fixed,
      number-decimal 4 f.products (lit≤ tt) (lit≤ tt) d.products,
      number-decimal 4 f.literals (lit≤ tt) (lit≤ tt) d.literals,
    )

-- ---- a line that is read

-- what the fields of the sizes say
record SizesSaid (h : Option Heading) (k : Option Mixed) (z : Sizes) : Type 0 where
  heading_is_said : h ≡ Some (record { family = z.family; n = z.n; m = z.m })
  k_said : k ≡ Some (record { class = z.class; k = z.k })

sizes-fields : (h : Option Heading) (k : Option Mixed) (z : Sizes) → sizes_of h k ≡ Some z → SizesSaid h k z
sizes-fields (Some h) (Some x) z e =
    let same : record { n = h.n; m = h.m; class = x.class; k = x.k; family = h.family } ≡ z = cc in
    rw (← same) (record { heading_is_said = refl; k_said = refl })
sizes-fields (Some h) None z e = cc
sizes-fields None k z e = cc

-- what the other fields say
record Said (z : Option Sizes) (M i p l : Option ℕ) (f : Form) : Type 0 where
  sizes_said : z ≡ Some f.sizes
  mixed_is_said : M ≡ Some f.mixed
  fixed_said : i ≡ Some f.fixed
  products_said : p ≡ Some f.products
  literals_said : l ≡ Some f.literals

form-fields : (z : Option Sizes) (M i p l : Option ℕ) (f : Form) → form_of z M i p l ≡ Some f → Said z M i p l f
form-fields (Some z) (Some M) (Some i) (Some p) (Some l) f e =
    let same : record { sizes = z; mixed = M; fixed = i; products = p; literals = l } ≡ f = cc in
    rw (← same) (record { sizes_said = refl; mixed_is_said = refl; fixed_said = refl; products_said = refl; literals_said = refl })
form-fields (Some z) (Some M) (Some i) (Some p) None f e = cc
form-fields (Some z) (Some M) (Some i) None l f e = cc
form-fields (Some z) (Some M) None p l f e = cc
form-fields (Some z) None i p l f e = cc
form-fields None M i p l f e = cc

pub form-read : (l : List ℕ) (f : Form) → first_line l ≡ Some f
    → (l ≡ form_word f.sizes.family ++ tabbed (stated_fields f)) × Digits f
unfolding first_line fields
form-read l f e =
    let x : Option Family = family_of 8 (form_word One) (form_word Two) l in
    let said = form-fields _ _ _ _ _ f e in
    let sizes = sizes-fields (heading_said x (number 4 (field 1 l)) (number 4 (field 2 l))) _ f.sizes said.sizes_said in
    let head = heading-fields x (number 4 (field 1 l)) (number 4 (field 2 l)) _ sizes.heading_is_said in
    let shape = family-read form_word 7 l f.sizes.family head.0 in
    let n = number_read 4 (field 1 l) _ (lit≤ tt) head.1 in
    let m = number_read 4 (field 2 l) _ (lit≤ tt) head.2 in
    let k = mixed-read (field 3 l) _ sizes.k_said in
    let M = number_read 4 (field 4 l) _ (lit≤ tt) said.mixed_is_said in
    let i = number_read 4 (field 5 l) _ (lit≤ tt) said.fixed_said in
    let p = number_read 4 (field 6 l) _ (lit≤ tt) said.products_said in
    let c = number_read 4 (field 7 l) _ (lit≤ tt) said.literals_said in
    let stated : (parts 9 l).others ≡ stated_fields f =
    list-each (parts 9 l).others 7 shape.1 ∙ cc (n.0, m.0, k.0, M.0, i.0, p.0, c.0) in (
      shape.0 ∙ ap (λ (fs : List (List ℕ)). form_word f.sizes.family ++ tabbed fs) stated,
      record { n = n.1; m = m.1; k = k.1; mixed = M.1; fixed = i.1; products = p.1; literals = c.1 },
    )
