-- A listing whose first line passes and whose second line is not `inv` and m characters is 11, line 2, whatever its later lines are (`second-refused`).
use mathlib.Core.Bool.{true}
use mathlib.Core.List.{List, [], ◌∷◌}
use mathlib.Core.Path.{◌≡◌, refl, ap, ◌∙◌}
use Prim.Native.Nat.{ℕ, ◌<◌}
use native.Mathlib.Decide.{dec_lt}
use native.Mathlib.Omega.{arith}
use lib.ListN.{length}
use Rattle.std.specs.Prelude.{Option, Some, None}
use Rattle.numbers.specs.declared.refusals.Refusal.TheVariants.{BrokenListing}
use Rattle.numbers.specs.Refusals.{Sized}
use Rattle.expansions.specs.declared.families.Family.{Family}
use Rattle.expansions.specs.Classes.{most_mixed}
use Rattle.listings.specs.Parts.{parts, bytes}
use Rattle.listings.specs.Listing.{output_bytes, form_word, inv_line}
use Rattle.listings.proofs.Joined.{parts-lines}
use Rattle.listings.proofs.Meaning.{plain_form}
use Rattle.table_texts.specs.declared.sizes.Sizes.{Sizes}
use Rattle.listing_texts.specs.declared.form.Form.{Form}
use Rattle.listing_texts.specs.Form.{stated_fields, FormListing}
use Rattle.listing_texts.specs.Inv.{inv_said, NoInv}
use Rattle.listing_texts.specs.Read.{refused, alike, all_lines, listing_reading}
use Rattle.listing_texts.specs.Inner.Judging.{second_at}
use Rattle.listing_texts.proofs.Compared.{alike_self}
use Rattle.listing_texts.proofs.FormRead.{plain-stated, form-said}
use Rattle.listing_texts.proofs.InvRead.{inv-read}
use Rattle.listing_texts.proofs.Opened.{second-split, split-joined, second-unfinished}

no-inv : (z : Sizes) (f : Form) (s : List ℕ) → NoInv z.m s → second_at z f s 0 ≡ refused BrokenListing 2
unfolding inv_line
no-inv z f s none = go (dec_lt (length (parts 10 s).first) (length s)) where
  by-line : length (parts 10 s).first < length s → (x : Option ℕ) → inv_said z.m (parts 10 s).first ≡ x → second_at z f s 0 ≡ refused BrokenListing 2
  by-line h (Some v) says =
      let inv = inv-read z.m (parts 10 s).first v says in
      absurd (none v _ inv.1 (split-joined s h (bytes "inv") (output_bytes z.m v ∷ []) inv.0))
  by-line h None says = second-split s h z f ∙ rw says

  go : Dec (length (parts 10 s).first < length s) → second_at z f s 0 ≡ refused BrokenListing 2
  go (yes h) = by-line h (inv_said z.m (parts 10 s).first) refl
  go (no h) = second-unfinished s (omega arith) z f

-- "A broken listing line .. is 11 with its line in the listing": the second line, which is broken or is not there
pub second-refused : (z : Sizes) (s : List ℕ) → Sized z.n z.m (most_mixed z.class) z.k → (g : FormListing s) → g.form.sizes ≡ z → NoInv z.m g.rest
    → listing_reading z s ≡ refused BrokenListing 2
unfolding listing_reading all_lines
second-refused z s sized g same none =
    let family : Family = g.form.sizes.family in
    let passes : alike z g.form.sizes ≡ true = ap (alike z) same ∙ alike_self z sized in
    ap (listing_reading z) g.characters
    ∙ rw (
      parts-lines (form_word family) (stated_fields g.form) g.rest (plain_form family) (plain-stated g.form),
      form-said g.form g.digits,
      passes,
    )
    (no-inv z g.form g.rest none)
