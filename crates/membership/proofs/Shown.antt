-- The choices that a listing's cubes show, in any class: they are choices of the class (`shown-lt`), there are none past the last block (`shown-past`), and
-- they are found term by term (`shown-own`, `shown-other`).
use mathlib.Core.Path.{◌≡◌, refl, sym, ap, ◌∙◌}
use Prim.Native.Nat.{ℕ, suc, ◌-◌, ◌^◌, ◌≤◌, ◌<◌}
use native.Mathlib.Decide.{ℕ_discrete}
use native.Mathlib.Omega.{arith}
use borrow.Author.Tests.{eq-eqb, ne_eqb}
use lib.Bits.{bit_and, bit_or, or_lt, or_zero_r, and_comm}
use lib.Count.{ones_in}
use lib.Dec.{eqb}
use lib.Pow.{pow_pos}
use Rattle.numbers.specs.Sums.{fold_below}
use Rattle.numbers.specs.Tests.{only}
use Rattle.numbers.proofs.Ands.{inside-and}
use Rattle.numbers.proofs.Sums.{fold-closed}
use Rattle.expansions.specs.declared.kinds.Class.{Class}
use Rattle.expansions.specs.declared.kinds.Class.TheVariants.{Block, Free}
use Rattle.expansions.specs.Classes.{most_mixed, choices, place_choice}
use Rattle.expansions.specs.Costs.{counted}
use Rattle.expansions.specs.Members.{block, place, shows, shown_choice}
use Rattle.expansions.specs.Split.{join}
use Rattle.expansions.proofs.Blocks.{block-lt, place-lt, place-join}
use Rattle.expansions.proofs.Counted.{counted_none, counted-some}
use Rattle.expansions.proofs.Shown.{places_choice, shown-places, InPlace, places-lt, shows-in-place}
use Rattle.expansions.proofs.ShownChoices.{shown-ext}
use Rattle.membership.specs.Class.{Shown}

-- ---- what a listing shows

-- a listing's cubes show what its lines show where they have the polarities w
pub shows-own : (n : ℕ) (w c : ℕ → ℕ) → Shown n w c → (t : ℕ) → t < 2 ^ n → w t ≡ shows w c t
unfolding shows
shows-own n w c shown t h = go (ℕ_discrete (c t) 0) where
  go : Dec (c t ≡ 0) → w t ≡ counted (c t) (bit_and t (w t))
  go (yes z) = shown.none t h z ∙ sym (counted_none (c t) (bit_and t (w t)) z)
  go (no u) = sym (inside-and (w t) t (shown.within t h)) ∙ and_comm (w t) t ∙ sym (counted-some (c t) (bit_and t (w t)) u)

-- ---- choices of the class

module _ (n k M : ℕ) (w c : ℕ → ℕ) (size : ones_in n M ≡ k) where
  abbrev ρ : ℕ → ℕ → ℕ
  ρ j r = place n M (shows w c (join n M j r))

  in_place : (j : ℕ) → InPlace k (ρ j)
  in_place j r h = let e = shows-in-place n M w c (join n M j r) in rw (place-join n k M size j r h) at e

  places-small : (C : Class) → k ≤ most_mixed C → (j : ℕ) → places_choice C k (ρ j) < choices C k
  places-small Block few j = fold-closed bit_or (λ x. x < 2 ^ k) (pow_pos k) (or_lt k) (2 ^ k) (ρ j) (λ r l. place-lt n k M size (shows w c (join n M j r)))
  places-small Free few j = places-lt k (ρ j) few (in_place j)

pub shown-lt : (C : Class) (n k M : ℕ) (w c : ℕ → ℕ) → k ≤ most_mixed C → ones_in n M ≡ k → Shown n w c → (j : ℕ) → j < 2 ^ (n - k)
    → shown_choice C n k M w j < choices C k
shown-lt C n k M w c few size shown j h =
    rw (shown-ext C n k M w (shows w c) (λ t l. ap (place n M) (shows-own n w c shown t l)) j, shown-places C n k M (shows w c) j size h)
    (places-small n k M w c size C few j)

-- there is no block from 2 ^ (n - k) on
pub shown-past : (C : Class) (n k M : ℕ) (w : ℕ → ℕ) (j : ℕ) → ones_in n M ≡ k → 2 ^ (n - k) ≤ j → shown_choice C n k M w j ≡ 0
unfolding shown_choice only
shown-past C n k M w j size h = fold-closed bit_or (λ x. x ≡ 0) refl (λ a b p q. rw (p, q)) (2 ^ n) _ other where
  other : (t : ℕ) → t < 2 ^ n → only (eqb (block n M t) j) (place_choice C k (place n M t) (place n M (w t))) ≡ 0
  other t l = rw (ne_eqb (block n M t) j (omega (arith, block-lt n k M size t)))

-- ---- term by term

-- what the terms below N show of the choice of the block j
abbrev pub shown_below : Class → (n k M : ℕ) → (ℕ → ℕ) → (N j : ℕ) → ℕ
shown_below C n k M w N j = fold_below bit_or N (λ t. only (eqb (block n M t) j) (place_choice C k (place n M t) (place n M (w t))))

pub shown-all : (C : Class) (n k M : ℕ) (w : ℕ → ℕ) (j : ℕ) → shown_below C n k M w (2 ^ n) j ≡ shown_choice C n k M w j
unfolding shown_choice
shown-all C n k M w j = refl

-- one term more adds to its own block, and to no other
pub shown-own : (C : Class) (n k M : ℕ) (w : ℕ → ℕ) (N : ℕ)
    → shown_below C n k M w (suc N) (block n M N) ≡ bit_or (shown_below C n k M w N (block n M N)) (place_choice C k (place n M N) (place n M (w N)))
unfolding fold_below only
shown-own C n k M w N = rw (eq-eqb (block n M N) (block n M N) refl)

pub shown-other : (C : Class) (n k M : ℕ) (w : ℕ → ℕ) (N j : ℕ) → (block n M N ≡ j → ⊥) → shown_below C n k M w (suc N) j ≡ shown_below C n k M w N j
unfolding fold_below only
shown-other C n k M w N j h = rw (ne_eqb (block n M N) j h) (or_zero_r (shown_below C n k M w N j))
