-- A listing whose n, m, k, class or family is not its table's, in document 02's words: it is 12, line 1, whatever its later lines are (`unlike-read`).
use mathlib.Core.Bool.{Bool, true, false}
use mathlib.Core.List.{List}
use mathlib.Core.Path.{◌≡◌, refl, ap, ◌∙◌}
use Prim.Native.Nat.{ℕ}
use Rattle.numbers.specs.declared.refusals.Refusal.TheVariants.{UnlikeListing}
use Rattle.expansions.specs.declared.families.Family.{Family}
use Rattle.listings.specs.Listing.{form_word}
use Rattle.listings.proofs.Joined.{parts-lines}
use Rattle.listings.proofs.Meaning.{plain_form}
use Rattle.table_texts.specs.declared.sizes.Sizes.{Sizes}
use Rattle.listing_texts.specs.Form.{stated_fields, FormListing}
use Rattle.listing_texts.specs.Read.{refused, alike, all_lines, listing_reading}
use Rattle.listing_texts.proofs.Compared.{alike-sizes}
use Rattle.listing_texts.proofs.FormRead.{plain-stated, form-said}

unlike-sizes : (z y : Sizes) → (y ≡ z → ⊥) → alike z y ≡ false
unlike-sizes z y none = go (alike z y) refl where
  go : (b : Bool) → alike z y ≡ b → alike z y ≡ false
  go true e = absurd (none (alike-sizes z y e).1)
  go false e = e

-- "n, m or k unlike the table's is 12 with line 1, before any later line is read"; "a listing of the other family than its table is 12, line 1"; W-207: an
-- `f` field beside a digit, or "`f` with a digit above 2 or above n", too
pub unlike-read : (z : Sizes) (s : List ℕ) (g : FormListing s) → (g.form.sizes ≡ z → ⊥) → listing_reading z s ≡ refused UnlikeListing 1
unfolding listing_reading all_lines
unlike-read z s g none =
    let family : Family = g.form.sizes.family in
    ap (listing_reading z) g.characters
    ∙ rw (
      parts-lines (form_word family) (stated_fields g.form) g.rest (plain_form family) (plain-stated g.form),
      form-said g.form g.digits,
      unlike-sizes z g.form.sizes none,
    )
