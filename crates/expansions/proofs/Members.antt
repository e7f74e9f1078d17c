-- A member's polarities are in its class (`member-class`), and those in the class show what some member's show (`class-choices`). What an expansion gives
-- rests on its polarities only as far as its lines show them (`gives-shown`).
use mathlib.Core.Path.{◌≡◌, sym, ap, ◌∙◌}
use Prim.Native.Nat.{ℕ, ◌^◌, ◌≤◌, ◌<◌}
use lib.Bits.{bit_and, bit_xor}
use lib.Count.{ones_in}
use Rattle.algebra.proofs.Value.{value-shown}
use Rattle.expansions.specs.declared.kinds.Class.{Class}
use Rattle.expansions.specs.declared.kinds.Class.TheVariants.{Block, Free}
use Rattle.expansions.specs.Split.{join}
use Rattle.expansions.specs.Classes.{most_mixed}
use Rattle.expansions.specs.Members.{block, place, Shared, InClass, Gives, polarity, Member, shows, shown_choice}
use Rattle.expansions.proofs.Split.{join-lt}
use Rattle.expansions.proofs.Blocks.{block-lt, place-lt, block-join, polarity-lt, polarity-outside, polarity-inside}
use Rattle.expansions.proofs.Polarities.{parts-equal}
use Rattle.expansions.proofs.Shown.{free-member, free-shows}

pub gives-shown : (n v : ℕ) (w w' c f : ℕ → ℕ) → ((t : ℕ) → t < 2 ^ n → (c t ≡ 0 → ⊥) → bit_and t (w t) ≡ bit_and t (w' t)) → Gives n v w' c f → Gives n v w c f
gives-shown n v w w' c f e gives p h = ap (λ (y : ℕ). bit_xor y v) (value-shown n w w' c e p) ∙ gives p h

member-shared : (C : Class) (n k M i : ℕ) (x : ℕ → ℕ) → Member C n k M i x → Shared C n M (polarity C n k M i x)
member-shared Block n k M i φ member =
    λ s t hs ht e. polarity-inside Block n k M i φ member s ∙ ap φ e ∙ sym (polarity-inside Block n k M i φ member t)
member-shared Free n k M i x member = tt

pub member-class : (C : Class) (n k M i : ℕ) (x : ℕ → ℕ) → Member C n k M i x → InClass C n k M i (polarity C n k M i x)
member-class C n k M i x member =
    record {
      pair = member.pair;
      within = λ t h. polarity-lt C n k M i x member t;
      outer = λ t h. polarity-outside C n k M i x member t;
      shared = member-shared C n k M i x member;
    }

-- ---- choices for polarities in the class

-- in document 01's class, the polarity of a term of the block
module _ (n k M i : ℕ) (w : ℕ → ℕ) (in_class : InClass Block n k M i w) where
  abbrev size : ones_in n M ≡ k
  size = in_class.pair.size

  pub shared_choice : ℕ → ℕ
  shared_choice j = place n M (w (join n M j 0))

  pub shared-member : Member Block n k M i shared_choice
  unfolding shared_choice
  shared-member = record { pair = in_class.pair; inner = λ j l. place-lt n k M size (w (join n M j 0)) }

  pub shared-polarity : (t : ℕ) → t < 2 ^ n → polarity Block n k M i shared_choice t ≡ w t
  unfolding shared_choice
  shared-polarity t h =
      parts-equal n M (polarity Block n k M i shared_choice t) (w t) (polarity-lt Block n k M i shared_choice shared-member t) (in_class.within t h)
      (polarity-outside Block n k M i shared_choice shared-member t ∙ sym (in_class.outer t h))
      (polarity-inside Block n k M i shared_choice shared-member t
      ∙ in_class.shared (join n M (block n M t) 0) t (join-lt n M (block n M t) 0) h (block-join n k M size (block n M t) 0 (block-lt n k M size t)))

pub class-choices : (C : Class) (n k M i : ℕ) (w c : ℕ → ℕ) → k ≤ most_mixed C → InClass C n k M i w
    → (x : ℕ → ℕ) × Member C n k M i x × ((t : ℕ) → t < 2 ^ n → (c t ≡ 0 → ⊥) → bit_and t (polarity C n k M i x t) ≡ bit_and t (w t))
class-choices Block n k M i w c few in_class =
    (shared_choice n k M i w in_class, shared-member n k M i w in_class, λ t h u. ap (bit_and t) (shared-polarity n k M i w in_class t h))
class-choices Free n k M i w c few in_class =
    (shown_choice Free n k M (shows w c), free-member n k M i w c few in_class, free-shows n k M i w c few in_class)
