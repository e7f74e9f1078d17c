-- A line from its fields: a line that passes for a word and so many fields is the word and these fields, each after a tab (`headed-read`). A line
-- says a family exactly where its word is that of the family (`family-said`, `family-read`). Where the family, n and m are had from a first line, each
-- field says its own (`heading-fields`).
use mathlib.Core.Bool.{Bool, true, false, cond}
use mathlib.Core.List.{List, [], ◌∷◌, ◌++◌}
use mathlib.Core.Path.{◌≡◌, refl, sym, ap, ap₂, ◌∙◌}
use Prim.Native.Nat.{ℕ, zero, suc}
use native.Mathlib.Omega.{arith}
use borrow.Author.Tests.{eqb-true, eq-eqb}
use lib.Dec.{eqb}
use lib.ListN.{length, get_or}
use Rattle.numbers.proofs.Tests.{both_left, both_right}
use Rattle.expansions.specs.declared.families.Family.{Family}
use Rattle.expansions.specs.declared.families.Family.TheVariants.{One, Two}
use Rattle.listings.specs.Parts.{parts, same, field, fields}
use Rattle.listings.specs.Listing.{tabbed}
use Rattle.listings.proofs.Parts.{separated, parts-joined}
use Rattle.listings.proofs.Joined.{Plain, AllPlain, parts-fields}
use Rattle.listings.proofs.Words.{same-equal, same_self}
use Rattle.std.specs.Prelude.{Option, Some, None}
use Rattle.fields.specs.declared.heading.Heading.{Heading}
use Rattle.fields.specs.Fields.{headed, family_of, heading_said}

tabbed-separated : (fs : List (List ℕ)) → tabbed fs ≡ separated 9 fs
unfolding tabbed separated
tabbed-separated [] = refl
tabbed-separated (f ∷ fs) = ap (λ (l : List ℕ). 9 ∷ f ++ l) (tabbed-separated fs)

fields-joined : (l : List ℕ) → l ≡ (parts 9 l).first ++ tabbed (parts 9 l).others
fields-joined l = sym (ap (λ (r : List ℕ). (parts 9 l).first ++ r) (tabbed-separated (parts 9 l).others) ∙ parts-joined 9 l)

-- ---- the fields of a line, by their number

-- g 0, g 1, .., g (n - 1)
abbrev pub each : ℕ → (ℕ → List ℕ) → List (List ℕ)
each zero g = []
each (suc n) g = g 0 ∷ each n (λ i. g (suc i))

-- so many fields are the field of each number below that
pub list-each : (fs : List (List ℕ)) (n : ℕ) → length fs ≡ n → fs ≡ each n (λ i. get_or fs i [])
list-each [] zero e = refl
list-each [] (suc n) e = absurd (omega arith)
list-each (f ∷ fs) zero e = absurd (omega arith)
list-each (f ∷ fs) (suc n) e = ap (λ (l : List (List ℕ)). f ∷ l) (list-each fs n (omega arith))

pub headed-read : (count : ℕ) (word l : List ℕ) → headed (suc count) word l ≡ true
    → (l ≡ word ++ tabbed (parts 9 l).others) × (length (parts 9 l).others ≡ count)
unfolding headed fields
headed-read count word l e =
    let many : suc (length (parts 9 l).others) ≡ suc count = eqb-true _ (suc count) (both_left _ (same (parts 9 l).first word) e) in
    let first : (parts 9 l).first ≡ word = same-equal (parts 9 l).first word (both_right (eqb (suc (length (parts 9 l).others)) (suc count)) _ e) in
    (fields-joined l ∙ ap (λ (w : List ℕ). w ++ tabbed (parts 9 l).others) first, omega arith)

-- a line of a word and so many fields
pub headed-fields : (count : ℕ) (word l : List ℕ) → headed (suc count) word l ≡ true → l ≡ word ++ tabbed (each count (λ i. field (suc i) l))
unfolding fields
headed-fields count word l h =
    let shape = headed-read count word l h in
    shape.0 ∙ ap (λ (fs : List (List ℕ)). word ++ tabbed fs) (list-each (parts 9 l).others count shape.1)

-- a line of a word and two fields
pub two_fields : (word l a b : List ℕ) → headed 3 word l ≡ true → field 1 l ≡ a → field 2 l ≡ b → l ≡ word ++ tabbed (a ∷ b ∷ [])
two_fields word l a b h ea eb = headed-fields 2 word l h ∙ ap₂ (λ (f g : List ℕ). word ++ tabbed (f ∷ g ∷ [])) ea eb

-- ---- the family, by the first word

module _ (word : Family → List ℕ) where
  pub family-read : (count : ℕ) (l : List ℕ) (x : Family) → family_of (suc count) (word One) (word Two) l ≡ Some x
      → (l ≡ word x ++ tabbed (parts 9 l).others) × (length (parts 9 l).others ≡ count)
  unfolding family_of
  family-read count l x e = go (headed (suc count) (word One) l) refl (headed (suc count) (word Two) l) refl e where
    go : (a : Bool) → headed (suc count) (word One) l ≡ a → (b : Bool) → headed (suc count) (word Two) l ≡ b
        → cond a (Some One) (cond b (Some Two) None) ≡ Some x → (l ≡ word x ++ tabbed (parts 9 l).others) × (length (parts 9 l).others ≡ count)
    go true h b g e = let is : One ≡ x = cc in rw (← is) (headed-read count (word One) l h)
    go false h true g e = let is : Two ≡ x = cc in rw (← is) (headed-read count (word Two) l g)
    go false h false g e = cc

  pub family-said : ((x : Family) → Plain (word x)) → same (word Two) (word One) ≡ false → (x : Family) (fs : List (List ℕ)) → AllPlain fs
      → family_of (suc (length fs)) (word One) (word Two) (word x ++ tabbed fs) ≡ Some x
  unfolding family_of headed fields
  family-said plain other One fs p = rw (parts-fields (word One) fs (plain One) p, eq-eqb (suc (length fs)) _ refl, same_self (word One))
  family-said plain other Two fs p = rw (parts-fields (word Two) fs (plain Two) p, eq-eqb (suc (length fs)) _ refl, other, same_self (word Two))

-- ---- what stands before the field k

pub heading-fields : (x : Option Family) (n m : Option ℕ) (h : Heading) → heading_said x n m ≡ Some h → (x ≡ Some h.family) × (n ≡ Some h.n) × (m ≡ Some h.m)
heading-fields (Some F) (Some a) (Some b) h e = (cc, cc, cc)
heading-fields (Some F) (Some a) None h e = cc
heading-fields (Some F) None m h e = cc
heading-fields None n m h e = cc
