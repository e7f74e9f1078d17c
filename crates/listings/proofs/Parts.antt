-- A text parted at a byte. Its first part is the text up to that byte, or the whole text; the other parts are those of what follows
-- the byte. So a loop that finds the byte finds the parts. A text is its parts with a separator between each two (`parts-joined`).
use mathlib.Core.Bool.{Bool, true, false}
use mathlib.Core.List.{List, [], ◌∷◌, ◌++◌}
use mathlib.Core.Path.{◌≡◌, refl, sym, ap, ap₂, ◌∙◌}
use Prim.Native.Nat.{ℕ, zero, suc, ◌+◌, ◌-◌, ◌<◌, ◌≤◌, zero-le, suc-le-suc}
use native.Mathlib.Nat.{not-suc-le-zero}
use native.Mathlib.Numerals.{add-one}
use native.Mathlib.Omega.{arith}
use borrow.Author.Tests.{eqb-true, eq-eqb, ne_eqb}
use lib.Dec.{eqb}
use lib.ListN.{length, get_or, take, drop, drop_of_length-le, length-drop}
use lib.Seq.{drop-cons, drop-drop}
use Rattle.listings.specs.Parts.{Parts, all, with_byte, parts}
use Rattle.listings.specs.Inner.Stops.{stop}

-- ---- the first part

pub first-le : (separator : ℕ) (s : List ℕ) → length (parts separator s).first ≤ length s
unfolding parts
first-le separator [] = zero-le
first-le separator (b ∷ s) = go (eqb b separator) (first-le separator s) where
  go : (t : Bool) → length (parts separator s).first ≤ length s → length (with_byte t b (parts separator s)).first ≤ suc (length s)
  go true h = zero-le
  go false h = suc-le-suc h

pub first-take : (separator : ℕ) (s : List ℕ) → take (length (parts separator s).first) s ≡ (parts separator s).first
unfolding parts
first-take separator [] = refl
first-take separator (b ∷ s) = go (eqb b separator) (first-take separator s) where
  go : (t : Bool) → take (length (parts separator s).first) s ≡ (parts separator s).first
      → take (length (with_byte t b (parts separator s)).first) (b ∷ s) ≡ (with_byte t b (parts separator s)).first
  go true h = refl
  go false h = ap (λ l. b ∷ l) h

-- ---- the other parts

pub others-none : (separator : ℕ) (s : List ℕ) → length s ≤ length (parts separator s).first → (parts separator s).others ≡ []
unfolding parts
others-none separator [] h = refl
others-none separator (b ∷ s) h = go (eqb b separator) (others-none separator s) h where
  go : (t : Bool) → (length s ≤ length (parts separator s).first → (parts separator s).others ≡ [])
      → suc (length s) ≤ length (with_byte t b (parts separator s)).first → (with_byte t b (parts separator s)).others ≡ []
  go true f g = absurd (not-suc-le-zero g)
  go false f g = f (omega arith)

pub others-more : (separator : ℕ) (s : List ℕ) → length (parts separator s).first < length s
    → (parts separator s).others ≡ all (parts separator (drop (suc (length (parts separator s).first)) s))
unfolding parts
others-more separator [] h = absurd (not-suc-le-zero h)
others-more separator (b ∷ s) h = go (eqb b separator) (others-more separator s) h where
  go : (t : Bool)
      → (length (parts separator s).first < length s
      → (parts separator s).others ≡ all (parts separator (drop (suc (length (parts separator s).first)) s)))
      → length (with_byte t b (parts separator s)).first < suc (length s)
      → (with_byte t b (parts separator s)).others ≡ all (parts separator (drop (suc (length (with_byte t b (parts separator s)).first)) (b ∷ s)))
  go true f g = refl
  go false f g = f (omega arith)

pub others-le : (separator : ℕ) (s : List ℕ) → length (parts separator s).others ≤ length s
unfolding parts
others-le separator [] = omega arith
others-le separator (b ∷ s) = go (eqb b separator) (others-le separator s) where
  go : (t : Bool) → length (parts separator s).others ≤ length s → length (with_byte t b (parts separator s)).others ≤ suc (length s)
  go true h = omega arith
  go false h = omega arith

-- ---- a text from its parts

-- parts, each after a separator
unfoldable pub separated : ℕ → List (List ℕ) → List ℕ
separated b [] = []
separated b (f ∷ fs) = b ∷ f ++ separated b fs

pub parts-joined : (b : ℕ) (s : List ℕ) → (parts b s).first ++ separated b (parts b s).others ≡ s
unfolding parts separated
parts-joined b [] = refl
parts-joined b (c ∷ s) = go (eqb c b) refl (parts-joined b s) where
  go : (t : Bool) → eqb c b ≡ t → (parts b s).first ++ separated b (parts b s).others ≡ s
      → (with_byte t c (parts b s)).first ++ separated b (with_byte t c (parts b s)).others ≡ c ∷ s
  go true e h = ap₂ ◌∷◌ (sym (eqb-true c b e)) h
  go false e h = ap (λ (l : List ℕ). c ∷ l) h

-- ---- the parts from a place on

pub parts-step : (separator : ℕ) (s : List ℕ) (i : ℕ) → i < length s
    → parts separator (drop i s) ≡ with_byte (eqb (get_or s i 0) separator) (get_or s i 0) (parts separator (drop (i + 1) s))
unfolding parts
parts-step separator s i h = rw (drop-cons s i 0 h, add-one)

pub parts-end : (separator : ℕ) (s : List ℕ) (i : ℕ) → length s ≤ i → parts separator (drop i s) ≡ record { first = []; others = [] }
unfolding parts
parts-end separator s i h = rw (drop_of_length-le s h)

-- ---- the length of the first part from a place on

pub length-here : (separator : ℕ) (s : List ℕ) (i : ℕ) → i < length s → get_or s i 0 ≡ separator
    → length (parts separator (drop i s)).first ≡ 0
length-here separator s i h e = rw (parts-step separator s i h, eq-eqb (get_or s i 0) separator e)

pub length-on : (separator : ℕ) (s : List ℕ) (i : ℕ) → i < length s → (get_or s i 0 ≡ separator → ⊥)
    → length (parts separator (drop i s)).first ≡ suc (length (parts separator (drop (i + 1) s)).first)
length-on separator s i h e = rw (parts-step separator s i h, ne_eqb (get_or s i 0) separator e)

pub length-end : (separator : ℕ) (s : List ℕ) (i : ℕ) → length s ≤ i → length (parts separator (drop i s)).first ≡ 0
length-end separator s i h = rw (parts-end separator s i h)

-- ---- from a place to where its part stops

module _ (separator : ℕ) (s : List ℕ) (i : ℕ) where
  pub stop_le : i ≤ length s → stop separator s i ≤ length s
  stop_le h = omega (arith, first-le separator (drop i s), length-drop i s)

  pub first-slice : take (stop separator s i - i) (drop i s) ≡ (parts separator (drop i s)).first
  first-slice =
      let k : stop separator s i - i ≡ length (parts separator (drop i s)).first = omega arith in
      rw k (first-take separator (drop i s))

  pub others-last : length s ≤ stop separator s i → (parts separator (drop i s)).others ≡ []
  others-last h = others-none separator (drop i s) (rw length-drop (omega arith))

  pub others-next : stop separator s i < length s → (parts separator (drop i s)).others ≡ all (parts separator (drop (stop separator s i + 1) s))
  others-next h =
      let after : i + suc (length (parts separator (drop i s)).first) ≡ stop separator s i + 1 = omega arith in
      others-more separator (drop i s) (rw length-drop (omega arith)) ∙ rw (drop-drop, after)

-- ---- a part by its number

pub part-later : (p : Parts) (j : ℕ) → 0 < j → get_or (all p) j [] ≡ get_or p.others (j - 1) []
part-later p zero h = absurd (not-suc-le-zero h)
part-later p (suc j) h = let e : suc j - 1 ≡ j = omega arith in rw e

pub part_none : (p : Parts) (j : ℕ) → 0 < j → p.others ≡ [] → get_or (all p) j [] ≡ []
part_none p j h e = part-later p j h ∙ rw e
