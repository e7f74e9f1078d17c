-- What no cube shows is 0 in the choices that the lines of an expansion show, in each class (`unshown-plain`).
use mathlib.Core.Path.{◌≡◌, refl, ap, ◌∙◌}
use Prim.Native.Nat.{ℕ, ◌-◌, ◌%◌, ◌^◌, ◌≤◌, ◌<◌, max}
use native.Mathlib.Decide.{ℕ_discrete}
use native.Mathlib.Nat.{zero-div}
use native.Mathlib.Omega.{arith}
use lib.Bits.{bit_and}
use lib.Count.{ones_in}
use Rattle.numbers.specs.Bits.{bit}
use Rattle.numbers.proofs.Ands.{bit-and}
use Rattle.numbers.proofs.Bits.{bit-lt}
use Rattle.numbers.proofs.Pack.{bit-ors}
use Rattle.numbers.proofs.Sums.{fold-closed}
use Rattle.expansions.specs.declared.kinds.Class.{Class}
use Rattle.expansions.specs.declared.kinds.Class.TheVariants.{Block, Free}
use Rattle.expansions.specs.Classes.{most_mixed, place_polarity}
use Rattle.expansions.specs.Costs.{counted}
use Rattle.expansions.specs.Members.{block, place, InClass, shows, shown_choice}
use Rattle.expansions.specs.Split.{join}
use Rattle.expansions.proofs.Blocks.{block-lt, block-join}
use Rattle.expansions.proofs.Counted.{counted-map, counted_none, counted-le}
use Rattle.expansions.proofs.Shown.{shown-places, place-shows, free-polarity}
use Rattle.expansions.proofs.Split.{join-lt}
use Rattle.listing_texts.specs.ReadBack.{OnePolarity}

bit-none : (b : ℕ) → bit b 0 ≡ 0
bit-none b = ap (λ (x : ℕ). x % 2) (zero-div (2 ^ b))

module _ (n k M : ℕ) (w c : ℕ → ℕ) (size : ones_in n M ≡ k) where
  -- one product of a block
  term-plain : (b s : ℕ) → (bit b (place n M s) ≡ 1 → c s ≡ 0) → bit b (place n M (shows w c s)) ≡ 0
  term-plain b s none = ap (bit b) (place-shows n M w c s) ∙ go (ℕ_discrete (bit b (place n M s)) 1)
    where
      both : ℕ
      both = bit_and (place n M s) (place n M (w s))

      go : Dec (bit b (place n M s) ≡ 1) → bit b (counted (c s) both) ≡ 0
      go (yes e) = ap (bit b) (counted_none (c s) both (none e)) ∙ bit-none b
      go (no u) =
          let zero : bit b both ≡ 0 = bit-and b (place n M s) (place n M (w s)) ∙ omega (arith, bit-lt b (place n M s)) in
          counted-map (bit b) (bit-none b) (c s) both ∙ omega (arith, counted-le (c s) (bit b both) 0 (omega (arith, zero)))

  block-plain : (b j : ℕ) → j < 2 ^ (n - k) → ((s : ℕ) → s < 2 ^ n → block n M s ≡ j → bit b (place n M s) ≡ 1 → c s ≡ 0)
      → bit b (shown_choice Block n k M (shows w c) j) ≡ 0
  block-plain b j h none =
      ap (bit b) (shown-places Block n k M (shows w c) j size h)
      ∙ bit-ors b (2 ^ k) (λ r. place n M (shows w c (join n M j r)))
      ∙ fold-closed max (λ x. x ≡ 0) refl (λ x y p q. rw (p, q)) (2 ^ k) _
      (λ r l. term-plain b (join n M j r) (none (join n M j r) (join-lt n M j r) (block-join n k M size j r h)))

-- where no product with the polarity of the term t has a literal of an input of M that t has, the choices shown have 0 there
pub unshown-plain : (C : Class) (n k M i : ℕ) (w c : ℕ → ℕ) → k ≤ most_mixed C → InClass C n k M i w → (t b : ℕ) → t < 2 ^ n
    → bit b (place n M t) ≡ 1 → ((s : ℕ) → s < 2 ^ n → OnePolarity C n M s t → bit b (place n M s) ≡ 1 → c s ≡ 0)
    → bit b (place_polarity C k (shown_choice C n k M (shows w c) (block n M t)) (place n M t)) ≡ 0
unshown-plain Block n k M i w c few in_class t b h e none =
    let size = in_class.pair.size in
    block-plain n k M w c size b (block n M t) (block-lt n k M size t) none
unshown-plain Free n k M i w c few in_class t b h e none =
    let shown : ℕ = place_polarity Free k (shown_choice Free n k M (shows w c) (block n M t)) (place n M t) in
    let none-own : bit b (bit_and (place n M t) shown) ≡ 0 =
    ap (bit b) (free-polarity n k M i w c few in_class t h) ∙ term-plain n k M w c in_class.pair.size b t (none t h refl) in
    omega (arith, bit-and b (place n M t) shown, bit-lt b shown)
