-- The choice of a block that its lines show. It is found place by place (`shown-places`); in the free class each place has its own bits of it, so that it shows
-- what polarities over M show, whatever they are (`free-member`, `free-shows`).
use mathlib.Core.Bool.{Bool, true, false, ◌&&◌}
use mathlib.Core.Path.{◌≡◌, refl, sym, ap, ◌∙◌}
use Prim.Native.Nat.{ℕ, zero, suc, ◌-◌, ◌*◌, ◌/◌, ◌^◌, ◌≤◌, ◌<◌}
use native.Mathlib.Decide.{ℕ_discrete}
use native.Mathlib.Omega.{arith}
use borrow.Author.Tests.{eqb-true, ltb-true, eq-eqb, ne_eqb}
use lib.Bits.{bit_and, bit_or, or_comm, or_zero_r, and_le_l, and_step, and_zero_r}
use lib.Count.{ones_in}
use lib.Dec.{eqb, ltb, lit<}
use Rattle.numbers.specs.Sums.{fold_below}
use Rattle.numbers.specs.Tests.{only, every}
use Rattle.numbers.proofs.Ands.{or_assoc, and_again}
use Rattle.numbers.proofs.Sums.{fold-ext, fold-zero}
use Rattle.numbers.proofs.Tests.{both_left, both_right, every-to}
use Rattle.expansions.specs.Split.{outside, join}
use Rattle.expansions.specs.declared.kinds.Class.{Class}
use Rattle.expansions.specs.declared.kinds.Class.TheVariants.{Free}
use Rattle.expansions.specs.Classes.{own_polarity, choices, place_polarity, own_choice, place_choice}
use Rattle.expansions.specs.Costs.{counted}
use Rattle.expansions.specs.Members.{block, place, InClass, polarity, Member, shows, shown_choice}
use Rattle.expansions.proofs.Counted.{counted-map, counted-some}
use Rattle.expansions.proofs.Split.{ones-others, gather-zero, join-gather, sums}
use Rattle.expansions.proofs.Blocks.{block-lt, place-lt, place-join, polarity-outside, polarity-inside}
use Rattle.expansions.proofs.Polarities.{gather-and, parts-equal}

-- ---- place by place

or-none : (N : ℕ) → fold_below bit_or N (λ r. 0) ≡ 0
or-none = fold-zero bit_or or_assoc or_comm or_zero_r

or-only : (N : ℕ) (a : Bool) (g : ℕ → ℕ) → fold_below bit_or N (λ r. only a (g r)) ≡ only a (fold_below bit_or N g)
unfolding only
or-only N true g = refl
or-only N false g = or-none N

-- of all indices only j counts
or-past : (N j : ℕ) (g : ℕ → ℕ) → N ≤ j → fold_below bit_or N (λ q. only (eqb q j) (g q)) ≡ 0
unfolding only
or-past N j g h = fold-ext bit_or N _ (λ q. 0) (λ q l. rw (ne_eqb q j (omega arith))) ∙ or-none N

or_at : (N j : ℕ) (g : ℕ → ℕ) → j < N → fold_below bit_or N (λ q. only (eqb q j) (g q)) ≡ g j
unfolding fold_below only
or_at zero j g h = absurd (omega arith)
or_at (suc N) j g h = go (ℕ_discrete N j) (or_at N j g)
  where
    go : Dec (N ≡ j) → (j < N → fold_below bit_or N (λ q. only (eqb q j) (g q)) ≡ g j)
        → bit_or (fold_below bit_or N (λ q. only (eqb q j) (g q))) (only (eqb N j) (g N)) ≡ g j
    go (yes e) before = rw (or-past N j g (omega arith), eq-eqb N j e) (ap g e)
    go (no u) before = rw (before (omega arith), ne_eqb N j u) (or_zero_r (g j))

-- the choice of a block, from the polarities that its places show
abbrev pub places_choice : Class → ℕ → (ℕ → ℕ) → ℕ
places_choice C k ρ = fold_below bit_or (2 ^ k) (λ r. place_choice C k r (ρ r))

pub shown-places : (C : Class) (n k M : ℕ) (w : ℕ → ℕ) (j : ℕ) → ones_in n M ≡ k → j < 2 ^ (n - k)
    → shown_choice C n k M w j ≡ places_choice C k (λ r. place n M (w (join n M j r)))
unfolding shown_choice
shown-places C n k M w j size h =
    fold-ext bit_or (2 ^ n) _ (λ t. summand (block n M t) (place n M t))
    (λ t l. ap (λ (x : ℕ). only (eqb (block n M t) j) (place_choice C k (place n M t) (place n M (w x)))) (sym (join-gather n M t l)))
    ∙ sums bit_or or_assoc or_comm or_zero_r n M summand
    ∙ rw (ones-others n k M size, size)
    (fold-ext bit_or (2 ^ (n - k)) _ _ (λ q l. or-only (2 ^ k) (eqb q j) (λ r. place_choice C k r (place n M (w (join n M q r)))))
    ∙ or_at (2 ^ (n - k)) j (λ q. places_choice C k (λ r. place n M (w (join n M q r)))) h)
  where
    summand : ℕ → ℕ → ℕ
    summand q r = only (eqb q j) (place_choice C k r (place n M (w (join n M q r))))

-- ---- the free class: each place has its own bits

-- polarities of places over their own inputs
abbrev pub InPlace : ℕ → (ℕ → ℕ) → Type 0
InPlace k ρ = (r : ℕ) → r < 2 ^ k → bit_and r (ρ r) ≡ ρ r

-- the bits of the places 1, 2 and 3, joined
unfoldable joined : (a b d : ℕ) → ℕ
joined a b d = bit_or (bit_or (bit_or (bit_or 0 0) (a * 8)) (b * 2 * 2)) d

unfoldable joined_right : (a b d : ℕ) → Bool
joined_right a b d =
    ltb (joined a b d) 16 && (eqb (own_polarity (joined a b d) 1) a && (eqb (own_polarity (joined a b d) 2) (b * 2) && eqb (own_polarity (joined a b d) 3) d))

joined-all : every 2 (λ a. every 2 (λ b. every 4 (λ d. joined_right a b d))) ≡ true
unfolding every joined_right joined own_polarity
joined-all = refl

module _ (a b d : ℕ) (ha : a < 2) (hb : b < 2) (hd : d < 4) where
  right : joined_right a b d ≡ true
  right =
      every-to 4 (λ d. joined_right a b d)
      (every-to 2 (λ b. every 4 (λ d. joined_right a b d)) (every-to 2 (λ a. every 2 (λ b. every 4 (λ d. joined_right a b d))) joined-all a ha) b hb) d hd

  joined-lt : joined a b d < 16
  unfolding joined_right
  joined-lt = ltb-true (joined a b d) 16 (both_left (ltb (joined a b d) 16) _ right)

  joined-one : own_polarity (joined a b d) 1 ≡ a
  unfolding joined_right
  joined-one = eqb-true (own_polarity (joined a b d) 1) a (both_left (eqb (own_polarity (joined a b d) 1) a) _ (both_right (ltb (joined a b d) 16) _ right))

  joined-two : own_polarity (joined a b d) 2 ≡ b * 2
  unfolding joined_right
  joined-two =
      eqb-true (own_polarity (joined a b d) 2) (b * 2)
      (both_left (eqb (own_polarity (joined a b d) 2) (b * 2)) _
      (both_right (eqb (own_polarity (joined a b d) 1) a) _ (both_right (ltb (joined a b d) 16) _ right)))

  joined-three : own_polarity (joined a b d) 3 ≡ d
  unfolding joined_right
  joined-three =
      eqb-true (own_polarity (joined a b d) 3) d
      (both_right (eqb (own_polarity (joined a b d) 2) (b * 2)) _
      (both_right (eqb (own_polarity (joined a b d) 1) a) _ (both_right (ltb (joined a b d) 16) _ right)))

-- what two mixed inputs have in place
module _ (ρ : ℕ → ℕ) (e : InPlace 2 ρ) where
  one-lt : ρ 1 < 2
  one-lt = omega (arith, e 1 (lit< tt), and_le_l 1 (ρ 1))

  two-lt : ρ 2 / 2 < 2
  two-lt = omega (arith, e 2 (lit< tt), and_le_l 2 (ρ 2))

  two-even : ρ 2 / 2 * 2 ≡ ρ 2
  two-even = omega (arith, e 2 (lit< tt), and_step 2 (ρ 2))

  three-lt : ρ 3 < 4
  three-lt = omega (arith, e 3 (lit< tt), and_le_l 3 (ρ 3))

  places-joined : places_choice Free 2 ρ ≡ joined (ρ 1) (ρ 2 / 2) (ρ 3)
  unfolding fold_below own_choice joined
  places-joined = rw two-even

pub places-lt : (k : ℕ) (ρ : ℕ → ℕ) → k ≤ 2 → InPlace k ρ → places_choice Free k ρ < choices Free k
unfolding fold_below
places-lt zero ρ h e = let none : ρ 0 ≡ 0 = sym (e 0 (lit< tt)) in rw none (lit< tt)
places-lt (suc zero) ρ h e = let none : ρ 0 ≡ 0 = sym (e 0 (lit< tt)) in rw none (omega (arith, e 1 (lit< tt), and_le_l 1 (ρ 1)))
places-lt (suc (suc zero)) ρ h e = rw (places-joined ρ e) (joined-lt (ρ 1) (ρ 2 / 2) (ρ 3) (one-lt ρ e) (two-lt ρ e) (three-lt ρ e))
places-lt (suc (suc (suc k))) ρ h e = absurd (omega arith)

-- each place has back what it shows
pub places-polarity : (k : ℕ) (ρ : ℕ → ℕ) → k ≤ 2 → InPlace k ρ → (r : ℕ) → r < 2 ^ k → bit_and r (place_polarity Free k (places_choice Free k ρ) r) ≡ ρ r
unfolding fold_below
places-polarity zero ρ h e zero l = e 0 l
places-polarity zero ρ h e (suc r) l = absurd (omega arith)
places-polarity (suc zero) ρ h e zero l = e 0 l
places-polarity (suc zero) ρ h e (suc zero) l = let none : ρ 0 ≡ 0 = sym (e 0 (lit< tt)) in rw none (e 1 l)
places-polarity (suc zero) ρ h e (suc (suc r)) l = absurd (omega arith)
places-polarity (suc (suc zero)) ρ h e zero l = e 0 l
places-polarity (suc (suc zero)) ρ h e (suc zero) l =
    ap (bit_and 1) (ap (λ (x : ℕ). own_polarity x 1) (places-joined ρ e) ∙ joined-one (ρ 1) (ρ 2 / 2) (ρ 3) (one-lt ρ e) (two-lt ρ e) (three-lt ρ e)) ∙ e 1 l
places-polarity (suc (suc zero)) ρ h e (suc (suc zero)) l =
    ap (bit_and 2)
    (ap (λ (x : ℕ). own_polarity x 2) (places-joined ρ e) ∙ joined-two (ρ 1) (ρ 2 / 2) (ρ 3) (one-lt ρ e) (two-lt ρ e) (three-lt ρ e) ∙ two-even ρ e)
    ∙ e 2 l
places-polarity (suc (suc zero)) ρ h e (suc (suc (suc zero))) l =
    ap (bit_and 3) (ap (λ (x : ℕ). own_polarity x 3) (places-joined ρ e) ∙ joined-three (ρ 1) (ρ 2 / 2) (ρ 3) (one-lt ρ e) (two-lt ρ e) (three-lt ρ e)) ∙ e 3 l
places-polarity (suc (suc zero)) ρ h e (suc (suc (suc (suc r)))) l = absurd (omega arith)
places-polarity (suc (suc (suc k))) ρ h e r l = absurd (omega arith)

-- ---- what an expansion of the free class shows

-- the place of what a term shows, in its own place
pub place-shows : (n M : ℕ) (w c : ℕ → ℕ) (t : ℕ) → place n M (shows w c t) ≡ counted (c t) (bit_and (place n M t) (place n M (w t)))
unfolding shows
place-shows n M w c t = counted-map (place n M) (gather-zero n M) (c t) (bit_and t (w t)) ∙ ap (counted (c t)) (gather-and n M t (w t))

pub shows-in-place : (n M : ℕ) (w c : ℕ → ℕ) (t : ℕ) → bit_and (place n M t) (place n M (shows w c t)) ≡ place n M (shows w c t)
shows-in-place n M w c t =
    ap (bit_and (place n M t)) (place-shows n M w c t)
    ∙ counted-map (bit_and (place n M t)) (and_zero_r (place n M t)) (c t) (bit_and (place n M t) (place n M (w t)))
    ∙ ap (counted (c t)) (and_again (place n M t) (place n M (w t))) ∙ sym (place-shows n M w c t)

module _ (n k M i : ℕ) (w c : ℕ → ℕ) (few : k ≤ 2) (in_class : InClass Free n k M i w) where
  abbrev size : ones_in n M ≡ k
  size = in_class.pair.size

  abbrev choice : ℕ → ℕ
  choice = shown_choice Free n k M (shows w c)

  abbrev ρ : ℕ → ℕ → ℕ
  ρ j r = place n M (shows w c (join n M j r))

  in_place_lem : (j : ℕ) → InPlace k (ρ j)
  in_place_lem j r h = let e = shows-in-place n M w c (join n M j r) in rw (place-join n k M size j r h) at e

  pub free-member : Member Free n k M i (shown_choice Free n k M (shows w c))
  free-member =
      record { pair = in_class.pair; inner = λ j l. rw (shown-places Free n k M (shows w c) j size l) (places-lt k (ρ j) few (in_place_lem j)) }

  -- a term has in M the polarity that it shows
  pub free-polarity : (t : ℕ) → t < 2 ^ n → bit_and (place n M t) (place_polarity Free k (choice (block n M t)) (place n M t)) ≡ place n M (shows w c t)
  free-polarity t h =
      ap (λ (x : ℕ). bit_and (place n M t) (place_polarity Free k x (place n M t))) (shown-places Free n k M (shows w c) (block n M t) size (block-lt n k M size t))
      ∙ places-polarity k (ρ (block n M t)) few (in_place_lem (block n M t)) (place n M t) (place-lt n k M size t)
      ∙ ap (λ (x : ℕ). place n M (shows w c x)) (join-gather n M t h)

  pub free-shows : (t : ℕ) → t < 2 ^ n → (c t ≡ 0 → ⊥) → bit_and t (polarity Free n k M i choice t) ≡ bit_and t (w t)
  free-shows t h u =
      parts-equal n M (bit_and t (polarity Free n k M i choice t)) (bit_and t (w t)) (small (polarity Free n k M i choice t)) (small (w t))
      (gather-and n (outside n M) t (polarity Free n k M i choice t)
      ∙ ap (bit_and (block n M t)) (polarity-outside Free n k M i choice free-member t ∙ sym (in_class.outer t h))
      ∙ sym (gather-and n (outside n M) t (w t)))
      (gather-and n M t (polarity Free n k M i choice t) ∙ ap (bit_and (place n M t)) (polarity-inside Free n k M i choice free-member t) ∙ free-polarity t h
      ∙ place-shows n M w c t ∙ counted-some (c t) (bit_and (place n M t) (place n M (w t))) u ∙ sym (gather-and n M t (w t)))
    where
      small : (y : ℕ) → bit_and t y < 2 ^ n
      small y = omega (arith, and_le_l t y)
