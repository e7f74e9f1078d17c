-- The first line of a `form` or a `form2` listing around its field k: its parts (`form_line-parts`), and their lengths together (`length-parts`).
use mathlib.Core.List.{List, [], ◌∷◌, ◌++◌, map, append_assoc}
use mathlib.Core.Path.{◌≡◌}
use Prim.Native.Nat.{ℕ, ◌+◌}
use native.Mathlib.Omega.{arith}
use lib.ListN.{length, length-append}
use Rattle.expansions.specs.declared.families.Family.{Family}
use Rattle.listings.specs.Listing.{tabbed, line, decimal, form_word, form_line}
use Rattle.listings.specs.Inner.Lengths.{digits_of}
use Rattle.listings.proofs.Lengths.{tabbed-append, length-numbers, length-form_line}

module _ (family : Family) (sizes : List ℕ) (f : List ℕ) (counts : List ℕ) where
  pub form_line-parts : form_line family (map decimal sizes ++ f ∷ map decimal counts)
      ≡ form_word family ++ tabbed (map decimal sizes) ++ (9 ∷ f) ++ tabbed (map decimal counts) ++ 10 ∷ []
  unfolding form_line line tabbed
  form_line-parts = rw (tabbed-append (map decimal sizes) (f ∷ map decimal counts)) (simp append_assoc)

  pub length-parts : length (form_line family (map decimal sizes ++ f ∷ map decimal counts))
      ≡ length (form_word family) + (length sizes + digits_of sizes) + (1 + length f) + (length counts + digits_of counts) + 1
  unfolding tabbed
  length-parts =
      rw (length-form_line family (map decimal sizes ++ f ∷ map decimal counts), tabbed-append (map decimal sizes) (f ∷ map decimal counts))
      (omega (
        arith,
        length-append (tabbed (map decimal sizes)) (9 ∷ f ++ tabbed (map decimal counts)),
        length-append f (tabbed (map decimal counts)),
        length-numbers sizes,
        length-numbers counts,
      ))
