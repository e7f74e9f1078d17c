-- The choices that the lines of an expansion show, in any class. They make a member (`shown-member`) that shows what the expansion shows (`class-shows`), and so
-- gives its table (`shown-gives`). They are no greater than a member's own (`shown-le`): so those that an answer shows are the answer's (`answer-shown`).
use mathlib.Core.Bool.{Bool, true, false}
use mathlib.Core.Path.{◌≡◌, refl, sym, ap, ◌∙◌, subst}
use Prim.Native.Nat.{ℕ, ◌+◌, ◌-◌, ◌^◌, ◌≤◌, ◌<◌}
use native.Mathlib.Decide.{ℕ_discrete}
use native.Mathlib.Nat.{le_antisymm}
use native.Mathlib.Omega.{arith}
use lib.Bits.{bit_and, bit_or, and_comm, and_le_l, and_le_r, and_zero_r}
use lib.Dec.{T, eqb}
use Rattle.numbers.specs.Bits.{inside}
use Rattle.numbers.specs.Sums.{fold_below}
use Rattle.numbers.specs.Tests.{only}
use Rattle.numbers.proofs.Ands.{and-or, and_assoc, and_again, inside-and, inside-ors}
use Rattle.numbers.proofs.Sums.{fold-ext, fold-map}
use Rattle.expansions.specs.Split.{spread, join}
use Rattle.expansions.specs.declared.kinds.Class.{Class}
use Rattle.expansions.specs.declared.kinds.Class.TheVariants.{Free}
use Rattle.expansions.specs.declared.families.Family.{Family}
use Rattle.expansions.specs.Classes.{apart, most_mixed, own_polarity, choices, place_polarity, place_choice}
use Rattle.expansions.specs.Costs.{counted}
use Rattle.expansions.specs.Members.{block, place, InClass, Gives, polarity, Member, shows, shown_choice}
use Rattle.expansions.specs.Answers.{IsAnswer}
use Rattle.expansions.proofs.Counted.{counted-map, counted-some, counted_none, counted-le}
use Rattle.expansions.proofs.Classes.{apart-most, own-in-place, own_mono}
use Rattle.expansions.proofs.Split.{join-gather}
use Rattle.expansions.proofs.Least.{then-rest}
use Rattle.expansions.proofs.Blocks.{block-lt, place-lt, block-join, place-join, polarity-inside}
use Rattle.expansions.proofs.Polarities.{polarity-shown}
use Rattle.expansions.proofs.Shown.{places_choice, shown-places, InPlace, places-lt, places-polarity, place-shows}
use Rattle.expansions.proofs.Members.{gives-shown, member-class, class-choices}

-- ---- one block: the places r with the coefficients d r show of the choice x what is theirs

-- what the place r shows of the polarity that it has under the choice x
abbrev place_shows : Class → (k x : ℕ) → (ℕ → ℕ) → ℕ → ℕ
place_shows C k x d r = counted (d r) (bit_and r (place_polarity C k x r))

-- where the terms have one polarity: the inputs that the products of the block have
abbrev seen : ℕ → (ℕ → ℕ) → ℕ
seen N d = fold_below bit_or N (λ r. counted (d r) r)

seen-and : (N x : ℕ) (d : ℕ → ℕ) → fold_below bit_or N (λ r. counted (d r) (bit_and r x)) ≡ bit_and x (seen N d)
seen-and N x d =
    fold-ext bit_or N _ (λ r. bit_and x (counted (d r) r)) (λ r l. ap (counted (d r)) (and_comm r x) ∙ sym (counted-map (bit_and x) (and_zero_r x) (d r) r))
    ∙ sym (fold-map bit_or (bit_and x) (and_zero_r x) (and-or x) N (λ r. counted (d r) r))

seen-place : (N : ℕ) (d : ℕ → ℕ) (r : ℕ) → r < N → (d r ≡ 0 → ⊥) → bit_and r (seen N d) ≡ r
seen-place N d r h u =
    inside-and r (seen N d) (subst (λ (y : ℕ). T (inside y (seen N d))) (counted-some (d r) r u) (inside-ors N (λ r. counted (d r) r) r h))

-- a product has as much of what is seen as of the whole
seen-shows : (N x : ℕ) (d : ℕ → ℕ) (r : ℕ) → r < N → (d r ≡ 0 → ⊥) → bit_and r (fold_below bit_or N (λ r. counted (d r) (bit_and r x))) ≡ bit_and r x
seen-shows N x d r h u =
    ap (bit_and r) (seen-and N x d ∙ and_comm x (seen N d)) ∙ sym (and_assoc r (seen N d) x) ∙ ap (λ (y : ℕ). bit_and y x) (seen-place N d r h u)

seen-le : (N x : ℕ) (d : ℕ → ℕ) → fold_below bit_or N (λ r. counted (d r) (bit_and r x)) ≤ x
seen-le N x d = rw (seen-and N x d) (and_le_l x (seen N d))

-- where they choose apart, of two mixed inputs: each place its own bits
module _ (x : ℕ) (d : ℕ → ℕ) (h : x < 16) where
  abbrev ρ : ℕ → ℕ
  ρ = place_shows Free 2 x d

  own-places : InPlace 2 ρ
  own-places r l =
      counted-map (bit_and r) (and_zero_r r) (d r) (bit_and r (own_polarity x r)) ∙ ap (counted (d r)) (and_again r (own_polarity x r))

  own-shown : (r : ℕ) → r < 4 → own_polarity (places_choice Free 2 ρ) r ≡ ρ r
  own-shown r l =
      sym (own-in-place (places_choice Free 2 ρ) r (places-lt 2 ρ (omega arith) own-places) l) ∙ places-polarity 2 ρ (omega arith) own-places r l

  own-le : places_choice Free 2 ρ ≤ x
  own-le =
      own_mono (places_choice Free 2 ρ) x (places-lt 2 ρ (omega arith) own-places) h
      (λ r l. rw (own-shown r l) (counted-le (d r) (bit_and r (own_polarity x r)) (own_polarity x r) (and_le_r r (own_polarity x r))))

  own-shows : (r : ℕ) → r < 4 → (d r ≡ 0 → ⊥) → bit_and r (own_polarity (places_choice Free 2 ρ) r) ≡ bit_and r (own_polarity x r)
  own-shows r l u = places-polarity 2 ρ (omega arith) own-places r l ∙ counted-some (d r) (bit_and r (own_polarity x r)) u

-- in any class
module _ (C : Class) (k x : ℕ) (d : ℕ → ℕ) (few : k ≤ most_mixed C) (h : x < choices C k) where
  places-le : places_choice C k (place_shows C k x d) ≤ x
  places-le = go (apart C k) refl
    where
      go : (b : Bool) → apart C k ≡ b → places_choice C k (place_shows C k x d) ≤ x
      go true e = rw (e, apart-most C k few e) (own-le x d (rw e at h))
      go false e = rw e (seen-le (2 ^ k) x d)

  places-shows : (r : ℕ) → r < 2 ^ k → (d r ≡ 0 → ⊥)
      → bit_and r (place_polarity C k (places_choice C k (place_shows C k x d)) r) ≡ bit_and r (place_polarity C k x r)
  places-shows r l u = go (apart C k) refl
    where
      go : (b : Bool) → apart C k ≡ b → bit_and r (place_polarity C k (places_choice C k (place_shows C k x d)) r) ≡ bit_and r (place_polarity C k x r)
      go true e = let two = apart-most C k few e in rw (e, two) (own-shows x d (rw e at h) r (rw two at l) u)
      go false e = rw e (seen-shows (2 ^ k) x d r l u)

-- ---- what a member's lines show

module _ (C : Class) (n k M i : ℕ) (x c : ℕ → ℕ) (few : k ≤ most_mixed C) (member : Member C n k M i x) where
  abbrev shown : ℕ → ℕ
  shown = shown_choice C n k M (shows (polarity C n k M i x) c)

  -- block by block
  shown-block : (j : ℕ) → j < 2 ^ (n - k) → shown j ≡ places_choice C k (place_shows C k (x j) (λ r. c (join n M j r)))
  shown-block j h =
      let size = member.pair.size in
      shown-places C n k M (shows (polarity C n k M i x) c) j size h
      ∙ fold-ext bit_or (2 ^ k) _ (λ r. place_choice C k r (place_shows C k (x j) (λ r. c (join n M j r)) r))
      (λ r l.
      ap (place_choice C k r)
      (place-shows n M (polarity C n k M i x) c (join n M j r)
      ∙ ap (λ (y : ℕ). counted (c (join n M j r)) (bit_and (place n M (join n M j r)) y)) (polarity-inside C n k M i x member (join n M j r))
      ∙ rw (block-join n k M size j r h, place-join n k M size j r l)))

  pub shown-le : (j : ℕ) → j < 2 ^ (n - k) → shown_choice C n k M (shows (polarity C n k M i x) c) j ≤ x j
  shown-le j h = rw (shown-block j h) (places-le C k (x j) (λ r. c (join n M j r)) few (member.inner j h))

  member-shown : Member C n k M i shown
  member-shown = record { pair = member.pair; inner = λ j l. omega (arith, shown-le j l, member.inner j l) }

  -- they show what the member's own show
  pub member-shows : (t : ℕ) → t < 2 ^ n → (c t ≡ 0 → ⊥)
      → bit_and t (polarity C n k M i (shown_choice C n k M (shows (polarity C n k M i x) c)) t) ≡ bit_and t (polarity C n k M i x t)
  member-shows t h u =
      let size = member.pair.size in
      let j = block n M t in
      let r = place n M t in
      polarity-shown C n k M i shown x member-shown member t h
      (ap (λ (y : ℕ). bit_and r (place_polarity C k y r)) (shown-block j (block-lt n k M size t))
      ∙ places-shows C k (x j) (λ r. c (join n M j r)) few (member.inner j (block-lt n k M size t)) r (place-lt n k M size t)
      (λ z. u (sym (ap c (join-gather n M t h)) ∙ z)))

-- ---- what the lines of any expansion of the class show

-- only what the lines show counts
pub shown-ext : (C : Class) (n k M : ℕ) (w w' : ℕ → ℕ) → ((t : ℕ) → t < 2 ^ n → place n M (w t) ≡ place n M (w' t)) → (j : ℕ)
    → shown_choice C n k M w j ≡ shown_choice C n k M w' j
unfolding shown_choice
shown-ext C n k M w w' e j = fold-ext bit_or (2 ^ n) _ _ (λ t h. ap (λ (y : ℕ). only (eqb (block n M t) j) (place_choice C k (place n M t) y)) (e t h))

-- polarities that products show alike
pub shows_same : (w w' c : ℕ → ℕ) (t : ℕ) → ((c t ≡ 0 → ⊥) → bit_and t (w t) ≡ bit_and t (w' t)) → shows w c t ≡ shows w' c t
unfolding shows
shows_same w w' c t e = go (ℕ_discrete (c t) 0)
  where
    go : Dec (c t ≡ 0) → counted (c t) (bit_and t (w t)) ≡ counted (c t) (bit_and t (w' t))
    go (yes z) = counted_none (c t) (bit_and t (w t)) z ∙ sym (counted_none (c t) (bit_and t (w' t)) z)
    go (no u) = ap (counted (c t)) (e u)

module _ (C : Class) (n k M i : ℕ) (w c : ℕ → ℕ) (few : k ≤ most_mixed C) (in_class : InClass C n k M i w) where
  -- a member shows the same
  abbrev alike : (x : ℕ → ℕ) × Member C n k M i x × ((t : ℕ) → t < 2 ^ n → (c t ≡ 0 → ⊥) → bit_and t (polarity C n k M i x t) ≡ bit_and t (w t))
  alike = class-choices C n k M i w c few in_class

  same-choice : (j : ℕ) → shown_choice C n k M (shows (polarity C n k M i alike.0) c) j ≡ shown_choice C n k M (shows w c) j
  same-choice =
      shown-ext C n k M (shows (polarity C n k M i alike.0) c) (shows w c)
      (λ t h. ap (place n M) (shows_same (polarity C n k M i alike.0) w c t (alike.2 t h)))

  pub shown-member : Member C n k M i (shown_choice C n k M (shows w c))
  shown-member =
      record { pair = in_class.pair; inner = λ j l. rw (← same-choice j) ((member-shown C n k M i alike.0 c few alike.1).inner j l) }

  pub class-shows : (t : ℕ) → t < 2 ^ n → (c t ≡ 0 → ⊥) → bit_and t (polarity C n k M i (shown_choice C n k M (shows w c)) t) ≡ bit_and t (w t)
  unfolding polarity
  class-shows t h u =
      ap (λ (y : ℕ). bit_and t (i + spread n M (place_polarity C k y (place n M t)))) (sym (same-choice (block n M t)))
      ∙ member-shows C n k M i alike.0 c few alike.1 t h u ∙ alike.2 t h u

  pub shown-gives : (v : ℕ) (f : ℕ → ℕ) → Gives n v w c f → Gives n v (polarity C n k M i (shown_choice C n k M (shows w c))) c f
  shown-gives v f = gives-shown n v (polarity C n k M i (shown_choice C n k M (shows w c))) w c f class-shows

-- ---- what an answer's lines show

module _ (C : Class) (F : Family) (n k : ℕ) (f : ℕ → ℕ) (v M i : ℕ) (x c : ℕ → ℕ) (few : k ≤ most_mixed C) (answer : IsAnswer C F n k f v M i x c) where
  abbrev answer_shows : ℕ → ℕ
  answer_shows = shown_choice C n k M (shows (polarity C n k M i x) c)

  -- the choices that they show give the table too, so that the answer's, which come first, are no greater
  answer_le : (j : ℕ) → j < 2 ^ (n - k) → x j ≤ answer_shows j
  answer_le =
      let in_class = member-class C n k M i x answer.member in
      then-rest i i refl
      (then-rest M M refl
      (then-rest v v refl
      (then-rest _ _ refl
      (then-rest _ _ refl
      (answer.first v M i answer_shows c (shown-member C n k M i (polarity C n k M i x) c few in_class)
      (shown-gives C n k M i (polarity C n k M i x) c few in_class v f answer.gives))))))

  -- "Reading a listing that we wrote yields the record it came from": the choices that its lines show are the answer's
  pub answer-shown : (j : ℕ) → j < 2 ^ (n - k) → shown_choice C n k M (shows (polarity C n k M i x) c) j ≡ x j
  answer-shown j h = le_antisymm (shown-le C n k M i x c few answer.member j h) (answer_le j h)
