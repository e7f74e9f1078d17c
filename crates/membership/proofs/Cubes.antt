-- What a cube shows: its term, and of a polarity the bits at the term, and no more (`cube-same`, `cube-shown`). So the cubes of a listing tell
-- its terms and what they show (`printed_cubes-same`), and cubes and lines follow from that (`printed_cubes-shown`, `term_lines-shown`).
use mathlib.Core.List.{List, [], ◌∷◌}
use mathlib.Core.Path.{◌≡◌, sym, ap, ◌∙◌}
use Prim.Native.Nat.{ℕ, ◌^◌, ◌<◌}
use native.Mathlib.Decide.{ℕ_discrete}
use lib.Bits.{bit_and}
use Rattle.numbers.proofs.Nonzero.{nonzero-ext, over_nonzero-ext, over_nonzero-same}
use Rattle.listings.specs.Listing.{line, cube, output_bytes, cube_line, term_line, term_lines, printed_cubes}
use Rattle.listings.specs.Parts.{bytes}
use Rattle.listings.proofs.Cubes.{cube-masked}
use Rattle.fields.specs.Cubes.{term_shown, complement_shown}
use Rattle.fields.proofs.Cubes.{term-cube, complement-cube}

-- ---- one cube

-- two cubes that are one have one term, and show the same inputs complemented
pub cube-same : (n t w t' w' : ℕ) → t < 2 ^ n → t' < 2 ^ n → cube n t w ≡ cube n t' w' → (t ≡ t') × (bit_and t w ≡ bit_and t' w')
cube-same n t w t' w' h h' e = (
  sym (term-cube n t w h) ∙ ap term_shown e ∙ term-cube n t' w' h',
  sym (complement-cube n t w h) ∙ ap complement_shown e ∙ complement-cube n t' w' h',
)

-- of a polarity only the bits at the term count: for its cube and its line
module _ (t w w' : ℕ) (e : bit_and t w ≡ bit_and t w') where
  cube-shown : (n : ℕ) → cube n t w ≡ cube n t w'
  cube-shown n = sym (cube-masked n t w) ∙ ap (cube n t) e ∙ cube-masked n t w'

  term_line-shown : (n m c : ℕ) → term_line n m t w c ≡ term_line n m t w' c
  unfolding cube_line
  term_line-shown n m c = ap (λ (x : List ℕ). line (bytes "term") (x ∷ output_bytes m c ∷ [])) (cube-shown n)

-- ---- all cubes

module _ (n : ℕ) (w c w' c' : ℕ → ℕ) (e : printed_cubes n w c ≡ printed_cubes n w' c') where
  used-same : (t : ℕ) → t < 2 ^ n → (c t ≡ 0 → ⊥) → (c' t ≡ 0 → ⊥) × (cube n t (w t) ≡ cube n t (w' t))
  used-same =
      over_nonzero-same (λ t. cube n t (w t)) (λ t. cube n t (w' t)) c c' (2 ^ n) (λ s t hs ht x. (cube-same n s (w s) t (w' t) hs ht x).0) e

  none-back : (t : ℕ) → t < 2 ^ n → c' t ≡ 0 → c t ≡ 0
  none-back t h z = go (ℕ_discrete (c t) 0) where
    go : Dec (c t ≡ 0) → c t ≡ 0
    go (yes y) = y
    go (no y) = absurd ((used-same t h y).0 z)

-- two listings with the same cubes have the same terms, and show the same inputs complemented
pub printed_cubes-same : (n : ℕ) (w c w' c' : ℕ → ℕ) → printed_cubes n w c ≡ printed_cubes n w' c' → (t : ℕ) → t < 2 ^ n
    → (c t ≡ 0 → c' t ≡ 0) × (c' t ≡ 0 → c t ≡ 0) × ((c t ≡ 0 → ⊥) → bit_and t (w t) ≡ bit_and t (w' t))
printed_cubes-same n w c w' c' e t h = (
  none-back n w' c' w c (sym e) t h,
  none-back n w c w' c' e t h,
  λ u. (cube-same n t (w t) t (w' t) h h (used-same n w c w' c' e t h u).1).1,
)

-- cubes and lines depend on no more
module _ (n : ℕ) (w w' c : ℕ → ℕ) (e : (t : ℕ) → t < 2 ^ n → (c t ≡ 0 → ⊥) → bit_and t (w t) ≡ bit_and t (w' t)) where
  pub printed_cubes-shown : printed_cubes n w c ≡ printed_cubes n w' c
  printed_cubes-shown =
      over_nonzero-ext _ _ c c (2 ^ n) (λ t h. nonzero-ext (c t) _ _ (λ u. ap (λ (x : List ℕ). x ∷ []) (cube-shown t (w t) (w' t) (e t h u) n)))

  pub term_lines-shown : (m : ℕ) → term_lines n m w c (2 ^ n) ≡ term_lines n m w' c (2 ^ n)
  term_lines-shown m = over_nonzero-ext _ _ c c (2 ^ n) (λ t h. nonzero-ext (c t) _ _ (λ u. term_line-shown t (w t) (w' t) (e t h u) n m (c t)))
