-- The second line of a listing: the line that is written for a mask says it (`inv-said`), and a line that says a mask is the one that is written for it
-- (`inv-read`).
use mathlib.Core.List.{List, [], ◌∷◌, ◌++◌}
use mathlib.Core.Path.{◌≡◌, ap, ◌∙◌}
use Prim.Native.Nat.{ℕ, ◌^◌, ◌<◌}
use Rattle.std.specs.Prelude.{Some}
use Rattle.listings.specs.Parts.{bytes, same, field, fields}
use Rattle.listings.specs.Listing.{tabbed, output_bytes}
use Rattle.listings.proofs.Joined.{parts-fields}
use Rattle.listings.proofs.Meaning.{plain-outputs, plain-inv}
use Rattle.fields.specs.Fields.{mask, headed}
use Rattle.fields.proofs.Numbers.{under-test, mask_lt}
use Rattle.fields.proofs.Written.{mask-written}
use Rattle.fields.proofs.FieldsRead.{mask-read}
use Rattle.fields.proofs.Headed.{headed-fields}
use Rattle.listing_texts.specs.Inv.{inv_said}

pub inv-said : (m v : ℕ) → v < 2 ^ m → inv_said m (bytes "inv" ++ tabbed (output_bytes m v ∷ [])) ≡ Some v
unfolding inv_said headed fields same bytes
inv-said m v h = rw (parts-fields (bytes "inv") (output_bytes m v ∷ []) plain-inv (plain-outputs m v, tt)) (mask-written m v h)

pub inv-read : (m : ℕ) (l : List ℕ) (v : ℕ) → inv_said m l ≡ Some v → (l ≡ bytes "inv" ++ tabbed (output_bytes m v ∷ [])) × (v < 2 ^ m)
unfolding inv_said
inv-read m l v e =
    let passes = under-test (headed 2 (bytes "inv") l) (mask m (field 1 l)) v e in (
      headed-fields 1 (bytes "inv") l passes.0 ∙ ap (λ (f : List ℕ). bytes "inv" ++ tabbed (f ∷ [])) (mask-read m (field 1 l) v passes.1),
      mask_lt m (field 1 l) v passes.1,
    )
