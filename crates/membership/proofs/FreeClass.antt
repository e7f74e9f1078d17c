-- The judgement of the free class, W-207: "each term having its own polarities in M". Only literals outside M bind (`free-exactly`): a listing passes exactly
-- where its M and i are a pair, and each cube shows complemented, of its inputs outside M, those that i has.
use mathlib.Core.Bool.{true}
use mathlib.Core.Logic.{◌↔◌}
use mathlib.Core.Path.{◌≡◌, sym, ap, ◌∙◌}
use Prim.Native.Nat.{ℕ, ◌^◌, ◌≤◌, ◌<◌}
use native.Mathlib.Omega.{arith}
use lib.Bits.{bit_and, and_le_l}
use Rattle.numbers.proofs.Ands.{and_again}
use Rattle.expansions.specs.declared.kinds.Class.TheVariants.{Free}
use Rattle.expansions.specs.Split.{outside, join}
use Rattle.expansions.specs.Members.{block, place, IsPair, InClass, polarity, Member, shown_choice}
use Rattle.expansions.proofs.Split.{join-lt}
use Rattle.expansions.proofs.Blocks.{block-lt, place-lt, block-join, place-join, polarity-outside}
use Rattle.expansions.proofs.Polarities.{gather-and, parts-equal}
use Rattle.listings.specs.Listing.{printed_cubes}
use Rattle.membership.specs.Class.{Shown, of_class}
use Rattle.membership.proofs.Cubes.{printed_cubes-shown}
use Rattle.membership.proofs.Class.{class-pair, class-member, class-shows, class-exactly}

-- each cube "outside M" follows i
abbrev pub FollowsFixed : (n M i : ℕ) → (w c : ℕ → ℕ) → Type 0
FollowsFixed n M i w c = (t : ℕ) → t < 2 ^ n → (c t ≡ 0 → ⊥) → block n M (w t) ≡ bit_and (block n M t) (block n M i)

module _ (n k M i : ℕ) (w c : ℕ → ℕ) (pair : IsPair n k M i) (follows : FollowsFixed n M i w c) where
  -- the polarities that have in M what the cubes show
  own : ℕ → ℕ
  own t = join n M (block n M i) (place n M (w t))

  own-outside : (t : ℕ) → block n M (own t) ≡ block n M i
  unfolding own
  own-outside t = block-join n k M pair.size (block n M i) (place n M (w t)) (block-lt n k M pair.size i)

  own-class : InClass Free n k M i own
  unfolding own
  own-class = record { pair = pair; within = λ t h. join-lt n M (block n M i) (place n M (w t)); outer = λ t h. own-outside t; shared = tt }

  own-shows : (t : ℕ) → t < 2 ^ n → (c t ≡ 0 → ⊥) → bit_and t (own t) ≡ bit_and t (w t)
  unfolding own
  own-shows t h u =
      parts-equal n M (bit_and t (own t)) (bit_and t (w t)) (small (own t)) (small (w t))
      (gather-and n (outside n M) t (own t) ∙ ap (bit_and (block n M t)) (own-outside t) ∙ sym (and_again (block n M t) (block n M i))
      ∙ ap (bit_and (block n M t)) (sym (follows t h u)) ∙ sym (gather-and n (outside n M) t (w t)))
      (gather-and n M t (own t)
      ∙ ap (bit_and (place n M t)) (place-join n k M pair.size (block n M i) (place n M (w t)) (place-lt n k M pair.size (w t)))
      ∙ sym (gather-and n M t (w t)))
    where
      small : (y : ℕ) → bit_and t y < 2 ^ n
      small y = omega (arith, and_le_l t y)

  own-cubes : printed_cubes n own c ≡ printed_cubes n w c
  own-cubes = printed_cubes-shown n own w c own-shows

module _ (n k M i : ℕ) (w c : ℕ → ℕ) (few : k ≤ 2) (shown : Shown n w c) where
  follows : of_class Free n k M i w c ≡ true → FollowsFixed n M i w c
  follows passes t h u =
      let x : ℕ → ℕ = shown_choice Free n k M w in
      let member : Member Free n k M i x = class-member Free n k M i w c passes few shown in
      ap (block n M) (sym (class-shows Free n k M i w c passes t h u))
      ∙ gather-and n (outside n M) t (polarity Free n k M i x t) ∙ ap (bit_and (block n M t)) (polarity-outside Free n k M i x member t)

  pub free-exactly : (of_class Free n k M i w c ≡ true) ↔ (IsPair n k M i × FollowsFixed n M i w c)
  free-exactly = (
    (λ passes. (class-pair Free n k M i w c passes, follows passes)),
    (λ p. (class-exactly Free n k M i w c few shown).1 (own n k M i w c p.0 p.1, c, own-class n k M i w c p.0 p.1, own-cubes n k M i w c p.0 p.1)),
  )
