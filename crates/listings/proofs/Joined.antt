-- Lines made of fields, parted again: the lines of a text and the fields of a line are those that it was made of (`lines-line`,
-- `fields-line`), where no byte of a field is a separator.
use mathlib.Core.Bool.{false}
use mathlib.Core.List.{List, [], ◌∷◌, ◌++◌, append_assoc, append-nil}
use mathlib.Core.Path.{◌≡◌, refl, ◌∙◌}
use Prim.Native.Nat.{ℕ, zero, suc, ◌≤◌, ◌<◌}
use native.Mathlib.Omega.{arith}
use borrow.Author.Tests.{eq-eqb, ne_eqb}
use lib.Dec.{eqb}
use Rattle.numbers.specs.Bytes.{tabulate}
use Rattle.listings.specs.Parts.{all, parts}
use Rattle.listings.specs.Listing.{tabbed, line, descending}

-- ---- bytes that are no separators

-- no byte is the separator
abbrev pub Without : ℕ → List ℕ → Type 0
Without separator [] = Unit
Without separator (b ∷ v) = (eqb b separator ≡ false) × Without separator v

-- every byte is above the separators, byte 9 and byte 10
abbrev pub Plain : List ℕ → Type 0
Plain [] = Unit
Plain (b ∷ v) = (10 < b) × Plain v

abbrev pub AllPlain : List (List ℕ) → Type 0
AllPlain [] = Unit
AllPlain (f ∷ fs) = Plain f × AllPlain fs

plain-without : (separator : ℕ) (v : List ℕ) → separator ≤ 10 → Plain v → Without separator v
plain-without separator [] h p = tt
plain-without separator (b ∷ v) h p = (ne_eqb b separator (λ e. let l = p.0 in omega arith), plain-without separator v h p.1)

without-append : (separator : ℕ) (v w : List ℕ) → Without separator v → Without separator w → Without separator (v ++ w)
without-append separator [] w p q = q
without-append separator (b ∷ v) w p q = (p.0, without-append separator v w p.1 q)

without-tabbed : (fs : List (List ℕ)) → AllPlain fs → Without 10 (tabbed fs)
unfolding tabbed
without-tabbed [] p = tt
without-tabbed (f ∷ fs) p = (refl, without-append 10 f (tabbed fs) (plain-without 10 f (omega arith) p.0) (without-tabbed fs p.1))

pub plain-descending : (N : ℕ) (g : ℕ → ℕ) → ((i : ℕ) → 10 < g i) → Plain (descending N g)
unfolding descending
plain-descending zero g h = tt
plain-descending (suc N) g h = (h N, plain-descending N g h)

pub plain-tabulate : (N : ℕ) (g : ℕ → ℕ) → ((i : ℕ) → 10 < g i) → Plain (tabulate N g)
unfolding tabulate
plain-tabulate zero g h = tt
plain-tabulate (suc N) g h = (h 0, plain-tabulate N (λ i. g (suc i)) (λ i. h (suc i)))

-- ---- a text parted

parts-front : (separator : ℕ) (v s : List ℕ) → Without separator v → parts separator (v ++ separator ∷ s) ≡ record { first = v; others = all (parts separator s) }
unfolding parts
parts-front separator [] s p = rw (eq-eqb separator separator refl)
parts-front separator (b ∷ v) s p = rw (p.0, parts-front separator v s p.1)

parts_whole : (separator : ℕ) (v : List ℕ) → Without separator v → parts separator v ≡ record { first = v; others = [] }
unfolding parts
parts_whole separator [] p = refl
parts_whole separator (b ∷ v) p = rw (p.0, parts_whole separator v p.1)

-- ---- a line's fields, and a text's lines

pub parts-fields : (f : List ℕ) (fs : List (List ℕ)) → Plain f → AllPlain fs → parts 9 (f ++ tabbed fs) ≡ record { first = f; others = fs }
unfolding tabbed
parts-fields f [] p ps = rw (append-nil f) (parts_whole 9 f (plain-without 9 f (omega arith) p))
parts-fields f (g ∷ fs) p ps =
    parts-front 9 f (g ++ tabbed fs) (plain-without 9 f (omega arith) p) ∙ rw (parts-fields g fs ps.0 ps.1)

pub parts-lines : (f : List ℕ) (fs : List (List ℕ)) (s : List ℕ) → Plain f → AllPlain fs
    → parts 10 (line f fs ++ s) ≡ record { first = f ++ tabbed fs; others = all (parts 10 s) }
unfolding line
parts-lines f fs s p ps =
    rw (append_assoc (f ++ tabbed fs) (10 ∷ []) s)
    (parts-front 10 (f ++ tabbed fs) s (without-append 10 f (tabbed fs) (plain-without 10 f (omega arith) p) (without-tabbed fs ps)))
