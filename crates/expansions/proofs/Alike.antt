-- W-207: `f0` and `f1` have the answers of `0` and `1`. Where one input is mixed, or none, a block has one choice in both classes, so that the members are the same
-- (`member_alike`, `polarity-alike`), and the answers (`answer-alike`); each rival of the one class costs what a rival of the other does (`rival-block`,
-- `rival-free`), and the least costs are the same (`least-alike`).
use mathlib.Core.Path.{◌≡◌, refl, subst}
use Prim.Native.Nat.{ℕ, zero, suc, ◌<◌}
use native.Mathlib.Omega.{arith}
use Rattle.expansions.specs.declared.families.Family.{Family}
use Rattle.expansions.specs.declared.kinds.Kind.TheVariants.{Mixed}
use Rattle.expansions.specs.declared.kinds.Class.TheVariants.{Block, Free}
use Rattle.expansions.specs.Members.{Gives, polarity, Member, shown_choice}
use Rattle.expansions.specs.Inner.Answer.{member_coefficient, block_charge}
use Rattle.expansions.specs.Inner.Answer.{answer_pair, answer_mixed, answer_fixed, answer_choice, expanded_coefficient, answer_inverted, answer_coefficient}
use Rattle.expansions.specs.Rivals.{Rival, mixed, LeastCost}
use Rattle.expansions.proofs.Members.{member-class}
use Rattle.expansions.proofs.Rivals.{mixed-rivals}

-- ---- members

pub polarity-alike : (n k M i : ℕ) (x : ℕ → ℕ) → k < 2 → polarity Free n k M i x ≡ polarity Block n k M i x
unfolding polarity
polarity-alike n zero M i x h = refl
polarity-alike n (suc zero) M i x h = refl
polarity-alike n (suc (suc k)) M i x h = absurd (omega arith)

pub member_alike : (n k M i : ℕ) (x : ℕ → ℕ) → k < 2 → Member Free n k M i x → Member Block n k M i x
member_alike n zero M i x h member = record { pair = member.pair; inner = member.inner }
member_alike n (suc zero) M i x h member = record { pair = member.pair; inner = member.inner }
member_alike n (suc (suc k)) M i x h member = absurd (omega arith)

-- the choice that lines show
pub shown-alike : (n k M : ℕ) (w : ℕ → ℕ) (j : ℕ) → k < 2 → shown_choice Free n k M w j ≡ shown_choice Block n k M w j
unfolding shown_choice
shown-alike n zero M w j h = refl
shown-alike n (suc zero) M w j h = refl
shown-alike n (suc (suc k)) M w j h = absurd (omega arith)

-- ---- answers

pub answer-alike : (F : Family) (n k : ℕ) (f : ℕ → ℕ) → k < 2
    → (answer_inverted Free F n k f ≡ answer_inverted Block F n k f) × (answer_mixed Free F n k f ≡ answer_mixed Block F n k f)
    × (answer_fixed Free F n k f ≡ answer_fixed Block F n k f) × ((j : ℕ) → answer_choice Free F n k f j ≡ answer_choice Block F n k f j)
    × ((t : ℕ) → answer_coefficient Free F n k f t ≡ answer_coefficient Block F n k f t)
unfolding answer_inverted answer_mixed answer_fixed answer_choice answer_coefficient expanded_coefficient member_coefficient answer_pair block_charge
answer-alike F n zero f h = (refl, refl, refl, λ j. refl, λ t. refl)
answer-alike F n (suc zero) f h = (refl, refl, refl, λ j. refl, λ t. refl)
answer-alike F n (suc (suc k)) f h = absurd (omega arith)

-- ---- rivals

-- a rival of the free class by the choices that its lines show, which are choices of document 01's class
pub rival-block : (n k : ℕ) (f : ℕ → ℕ) (p l : ℕ) → k < 2 → Rival n f (Mixed Free k) p l → Rival n f (Mixed Block k) p l
rival-block n k f p l h =
    mixed-rivals Free n k f (omega arith) (Rival n f (Mixed Block k))
    (λ v M i x c member gives.
    mixed Block k v M i (polarity Block n k M i x) c (member-class Block n k M i x (member_alike n k M i x h member))
    (subst (λ (w : ℕ → ℕ). Gives n v w c f) (polarity-alike n k M i x h) gives))
    p l

-- with any number of mixed inputs a rival of document 01's class is one of the free class
pub rival-free : (n k : ℕ) (f : ℕ → ℕ) (p l : ℕ) → Rival n f (Mixed Block k) p l → Rival n f (Mixed Free k) p l
rival-free n k f _ _ (mixed _ _ v M i w c in_class gives) =
    mixed Free k v M i w c (record { pair = in_class.pair; within = in_class.within; outer = in_class.outer; shared = tt }) gives

pub least-alike : (n k : ℕ) (F : Family) (f : ℕ → ℕ) (p l : ℕ) → k < 2 → LeastCost n F (Mixed Free k) f p l → LeastCost n F (Mixed Block k) f p l
least-alike n k F f p l h least =
    record { reached = rival-block n k f p l h least.reached; cheapest = λ p' l' rival. least.cheapest p' l' (rival-free n k f p' l' rival) }

pub least-alike-free : (n k : ℕ) (F : Family) (f : ℕ → ℕ) (p l : ℕ) → k < 2 → LeastCost n F (Mixed Block k) f p l → LeastCost n F (Mixed Free k) f p l
least-alike-free n k F f p l h least =
    record { reached = rival-free n k f p l least.reached; cheapest = λ p' l' rival. least.cheapest p' l' (rival-block n k f p' l' h rival) }
