-- The main laws of the class judgement, for every class. The test passes exactly when polarities of the class with the listing's M and i print the listing's
-- cubes (`class-exactly`), and fails exactly when none do (`not_of_class`). Where it passes, the choices that the cubes show are a member's
-- (`class-member`), and its lines are the listing's (`class-lines`). The lines of every expansion of the class pass (`class-passes`).
use mathlib.Core.Bool.{Bool, true, false, ◌&&◌, ◌||◌, or-true, true≢false}
use mathlib.Core.Logic.{◌↔◌}
use mathlib.Core.Path.{◌≡◌, refl, sym, ap, ◌∙◌, subst}
use Prim.Native.Nat.{ℕ, ◌+◌, ◌^◌, ◌≤◌, ◌<◌}
use native.Mathlib.Decide.{ℕ_discrete}
use borrow.Author.Tests.{ltb-true, lt-ltb, eqb-true, eq-eqb, ne_eqb}
use lib.Bits.{bit_and, and_comm}
use lib.Dec.{T, eqb, ltb}
use lib.Ieee.Bits.{is_true}
use Rattle.numbers.specs.Tests.{every}
use Rattle.numbers.proofs.Ands.{and_again, inside-and}
use Rattle.numbers.proofs.Tests.{both_left, both_right, both_true, every-to, every-from}
use Rattle.expansions.specs.declared.kinds.Class.{Class}
use Rattle.expansions.specs.Split.{spread}
use Rattle.expansions.specs.Classes.{most_mixed, place_polarity}
use Rattle.expansions.specs.Members.{block, place, IsPair, InClass, Gives, polarity, Member, shows, shown_choice}
use Rattle.expansions.specs.Costs.{counted}
use Rattle.expansions.specs.Inner.Answer.{valid_pair}
use Rattle.expansions.proofs.Counted.{counted_none, counted-some}
use Rattle.expansions.proofs.Masks.{valid-from, valid-size, valid-clear}
use Rattle.expansions.proofs.Members as members
use Rattle.expansions.proofs.ShownChoices as choices
use Rattle.listings.specs.Listing.{term_lines, printed_cubes}
use Rattle.membership.specs.Class.{Shown, Printable, legal_pair, shows_back, of_class}
use Rattle.membership.proofs.Cubes.{printed_cubes-same, printed_cubes-shown, term_lines-shown}
use Rattle.membership.proofs.Shown.{shown-lt}

-- ---- M and i

pub legal-from : (n k M i : ℕ) → IsPair n k M i → legal_pair n k M i ≡ true
unfolding legal_pair
legal-from n k M i pair =
    both_true (ltb M (2 ^ n)) _ (lt-ltb M (2 ^ n) pair.mask)
    (both_true (ltb i (2 ^ n)) (valid_pair n k M i) (lt-ltb i (2 ^ n) pair.fixed)
    (is_true (valid_pair n k M i) (valid-from n k M i pair.size pair.clear)))

pub legal-pair : (n k M i : ℕ) → legal_pair n k M i ≡ true → IsPair n k M i
unfolding legal_pair
legal-pair n k M i e =
    let pair : (ltb i (2 ^ n) && valid_pair n k M i) ≡ true = both_right (ltb M (2 ^ n)) (ltb i (2 ^ n) && valid_pair n k M i) e in
    let valid : T (valid_pair n k M i) = subst T (sym (both_right (ltb i (2 ^ n)) (valid_pair n k M i) pair)) tt in
    record {
      mask = ltb-true M (2 ^ n) (both_left (ltb M (2 ^ n)) (ltb i (2 ^ n) && valid_pair n k M i) e);
      size = valid-size n k M i valid;
      fixed = ltb-true i (2 ^ n) (both_left (ltb i (2 ^ n)) (valid_pair n k M i) pair);
      clear = valid-clear n k M i valid;
    }

-- ---- one line

module _ (C : Class) (n k M i : ℕ) (x w c : ℕ → ℕ) (t : ℕ) where
  shows-to : shows_back C n k M i x w c t ≡ true → (c t ≡ 0 → ⊥) → bit_and t (polarity C n k M i x t) ≡ w t
  unfolding shows_back
  shows-to e u =
      let rest : eqb (bit_and t (polarity C n k M i x t)) (w t) ≡ true = rw (ne_eqb (c t) 0 u) at e in
      eqb-true (bit_and t (polarity C n k M i x t)) (w t) rest

  shows-from : ((c t ≡ 0 → ⊥) → bit_and t (polarity C n k M i x t) ≡ w t) → shows_back C n k M i x w c t ≡ true
  unfolding shows_back
  shows-from h = go (ℕ_discrete (c t) 0) where
    go : Dec (c t ≡ 0) → (eqb (c t) 0 || eqb (bit_and t (polarity C n k M i x t)) (w t)) ≡ true
    go (yes z) = rw (eq-eqb (c t) 0 z)
    go (no z) = rw (eq-eqb (bit_and t (polarity C n k M i x t)) (w t) (h z)) (or-true (eqb (c t) 0))

-- ---- the test passes: the terms show a member whose lines they are

module _ (C : Class) (n k M i : ℕ) (w c : ℕ → ℕ) (passes : of_class C n k M i w c ≡ true) where
  abbrev shown : ℕ → ℕ
  shown = polarity C n k M i (shown_choice C n k M w)

  pub class-pair : IsPair n k M i
  unfolding of_class
  class-pair = legal-pair n k M i (both_left (legal_pair n k M i) (every (2 ^ n) (shows_back C n k M i (shown_choice C n k M w) w c)) passes)

  pub class-member : k ≤ most_mixed C → Shown n w c → Member C n k M i (shown_choice C n k M w)
  class-member few shown = record { pair = class-pair; inner = shown-lt C n k M w c few class-pair.size shown }

  pub class-shows : (t : ℕ) → t < 2 ^ n → (c t ≡ 0 → ⊥) → bit_and t (polarity C n k M i (shown_choice C n k M w) t) ≡ w t
  unfolding of_class
  class-shows t h =
      let lines : every (2 ^ n) (shows_back C n k M i (shown_choice C n k M w) w c) ≡ true = both_right (legal_pair n k M i) _ passes in
      shows-to C n k M i (shown_choice C n k M w) w c t (every-to (2 ^ n) (shows_back C n k M i (shown_choice C n k M w) w c) lines t h)

  -- each term shows the same of the member's polarity and of its own line
  same-shown : (t : ℕ) → t < 2 ^ n → (c t ≡ 0 → ⊥) → bit_and t (shown t) ≡ bit_and t (w t)
  same-shown t h u = sym (and_again t (shown t)) ∙ ap (bit_and t) (class-shows t h u)

  pub class-cubes : printed_cubes n (polarity C n k M i (shown_choice C n k M w)) c ≡ printed_cubes n w c
  class-cubes = printed_cubes-shown n shown w c same-shown

  -- "just those lines, outputs and all"
  pub class-lines : (m : ℕ) → term_lines n m (polarity C n k M i (shown_choice C n k M w)) c (2 ^ n) ≡ term_lines n m w c (2 ^ n)
  class-lines = term_lines-shown n shown w c same-shown

  pub class-gives : (v : ℕ) (f : ℕ → ℕ) → Gives n v w c f → Gives n v (polarity C n k M i (shown_choice C n k M w)) c f
  class-gives v f = members.gives-shown n v shown w c f same-shown

-- ---- the terms show what the lines of an expansion of the class show: the test passes

module _ (C : Class) (n k M i : ℕ) (w' w c : ℕ → ℕ) (few : k ≤ most_mixed C) (in_class : InClass C n k M i w')
    (same : (t : ℕ) → t < 2 ^ n → w t ≡ shows w' c t) where
  -- a product shows as much of the choices that the terms show as of its own polarity
  back-shows : (t : ℕ) → t < 2 ^ n → (c t ≡ 0 → ⊥) → bit_and t (polarity C n k M i (shown_choice C n k M w) t) ≡ bit_and t (w' t)
  unfolding polarity
  back-shows t h u =
      ap (λ (x : ℕ). bit_and t (i + spread n M (place_polarity C k x (place n M t))))
      (choices.shown-ext C n k M w (shows w' c) (λ s l. ap (place n M) (same s l)) (block n M t))
      ∙ choices.class-shows C n k M i w' c few in_class t h u

  shown-class : of_class C n k M i w c ≡ true
  unfolding of_class shows
  shown-class =
      both_true (legal_pair n k M i) _ (legal-from n k M i in_class.pair)
      (every-from (2 ^ n) _ (λ t h.
      shows-from C n k M i (shown_choice C n k M w) w c t (λ u. back-shows t h u ∙ sym (counted-some (c t) _ u) ∙ sym (same t h))))

pub class-passes : (C : Class) (n k M i : ℕ) (w c : ℕ → ℕ) → k ≤ most_mixed C → InClass C n k M i w → of_class C n k M i (shows w c) c ≡ true
class-passes C n k M i w c few in_class = shown-class C n k M i w (shows w c) c few in_class (λ t h. refl)

-- ---- exactly

-- a listing with the cubes that polarities print shows what their lines show
printed-shows : (n : ℕ) (w' c' w c : ℕ → ℕ) → Shown n w c → printed_cubes n w' c' ≡ printed_cubes n w c → (t : ℕ) → t < 2 ^ n → w t ≡ shows w' c t
unfolding shows
printed-shows n w' c' w c shown e t h = go (ℕ_discrete (c t) 0) where
  go : Dec (c t ≡ 0) → w t ≡ counted (c t) (bit_and t (w' t))
  go (yes z) = shown.none t h z ∙ sym (counted_none (c t) (bit_and t (w' t)) z)
  go (no z) =
      sym (inside-and (w t) t (shown.within t h)) ∙ and_comm (w t) t ∙ (printed_cubes-same n w c w' c' (sym e) t h).2 z
      ∙ sym (counted-some (c t) (bit_and t (w' t)) z)

module _ (C : Class) (n k M i : ℕ) (w c : ℕ → ℕ) (few : k ≤ most_mixed C) (shown : Shown n w c) where
  printed : of_class C n k M i w c ≡ true → Printable C n k M i w c
  printed passes = (
    polarity C n k M i (shown_choice C n k M w),
    c,
    members.member-class C n k M i (shown_choice C n k M w) (class-member C n k M i w c passes few shown),
    class-cubes C n k M i w c passes,
  )

  pub class-exactly : (of_class C n k M i w c ≡ true) ↔ Printable C n k M i w c
  class-exactly = (
    printed,
    (λ p. shown-class C n k M i p.0 w c few p.2 (printed-shows n p.0 p.1 w c shown p.3)),
  )

  -- "'Not of the class' is said exactly when no member with the listing's M and i prints those cubes."
  pub not_of_class : (of_class C n k M i w c ≡ false) ↔ ((w' c' : ℕ → ℕ) → InClass C n k M i w' → printed_cubes n w' c' ≡ printed_cubes n w c → ⊥)
  not_of_class = (
    (λ fails w' c' in_class e. true≢false (sym (class-exactly.1 (w', c', in_class, e)) ∙ fails)),
    (λ none. go none (of_class C n k M i w c) refl),
  )
    where
      go : ((w' c' : ℕ → ℕ) → InClass C n k M i w' → printed_cubes n w' c' ≡ printed_cubes n w c → ⊥) → (b : Bool)
          → of_class C n k M i w c ≡ b → of_class C n k M i w c ≡ false
      go none false e = e
      go none true e = let p = printed e in absurd (none p.0 p.1 p.2 p.3)
