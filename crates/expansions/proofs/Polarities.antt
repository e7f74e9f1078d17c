-- What a cube shows of a polarity, by the inputs outside M and those in it: gathering keeps AND (`gather-and`), and a number of n inputs is
-- known by its two parts (`parts-equal`). So a term shows the same of two members that agree on its place in its block (`polarity-shown`).
use mathlib.Core.Path.{◌≡◌, refl, sym, ap, ap₂, ◌∙◌}
use Prim.Native.Nat.{ℕ, zero, suc, ◌+◌, ◌*◌, ◌/◌, ◌%◌, ◌^◌, ◌<◌, min}
use native.Mathlib.Omega.{arith}
use lib.Arith.{digits_div, digits_mod}
use lib.Bits.{bit_and, and_step, and_le_l}
use Rattle.numbers.proofs.Ands.{and-half, and_low}
use Rattle.numbers.proofs.Xor.{low-lt}
use Rattle.expansions.specs.Split.{put_digit, gather, outside, join}
use Rattle.expansions.specs.declared.kinds.Class.{Class}
use Rattle.expansions.specs.Classes.{place_polarity}
use Rattle.expansions.specs.Members.{block, place, polarity, Member}
use Rattle.expansions.proofs.Split.{join-gather}
use Rattle.expansions.proofs.Blocks.{polarity-outside, polarity-inside}

-- ---- gathering keeps AND

put_digit-and : (m x y b c : ℕ) → b < 2 → c < 2 → put_digit m (bit_and x y) (min b c) ≡ bit_and (put_digit m x b) (put_digit m y c)
unfolding put_digit
put_digit-and zero x y b c hb hc = refl
put_digit-and (suc m) x y b c hb hc = sym (and_step (x * 2 + b) (y * 2 + c) ∙ rw (digits_div x hb, digits_div y hc, digits_mod x hb, digits_mod y hc))

pub gather-and : (n M a b : ℕ) → gather n M (bit_and a b) ≡ bit_and (gather n M a) (gather n M b)
unfolding gather
gather-and zero M a b = refl
gather-and (suc n) M a b = rw (and-half, and_low, gather-and n (M / 2) (a / 2) (b / 2)) (put_digit-and (M % 2) _ _ (a % 2) (b % 2) (low-lt a) (low-lt b))

-- ---- a number by its two parts

pub parts-equal : (n M x y : ℕ) → x < 2 ^ n → y < 2 ^ n → block n M x ≡ block n M y → place n M x ≡ place n M y → x ≡ y
parts-equal n M x y hx hy o p = sym (join-gather n M x hx) ∙ ap₂ (join n M) o p ∙ join-gather n M y hy

-- ---- what a term shows of a member's polarities

module _ (C : Class) (n k M i : ℕ) (x : ℕ → ℕ) (member : Member C n k M i x) (t : ℕ) where
  -- outside M what it shows of i
  block-shown : block n M (bit_and t (polarity C n k M i x t)) ≡ bit_and (block n M t) (block n M i)
  block-shown = gather-and n (outside n M) t (polarity C n k M i x t) ∙ ap (bit_and (block n M t)) (polarity-outside C n k M i x member t)

  -- in M what its place shows of the polarity that it has under the choice of its block
  pub place-shown : place n M (bit_and t (polarity C n k M i x t)) ≡ bit_and (place n M t) (place_polarity C k (x (block n M t)) (place n M t))
  place-shown = gather-and n M t (polarity C n k M i x t) ∙ ap (bit_and (place n M t)) (polarity-inside C n k M i x member t)

pub polarity-shown : (C : Class) (n k M i : ℕ) (x x' : ℕ → ℕ) → Member C n k M i x → Member C n k M i x' → (t : ℕ) → t < 2 ^ n
    → bit_and (place n M t) (place_polarity C k (x (block n M t)) (place n M t)) ≡ bit_and (place n M t) (place_polarity C k (x' (block n M t)) (place n M t))
    → bit_and t (polarity C n k M i x t) ≡ bit_and t (polarity C n k M i x' t)
polarity-shown C n k M i x x' member member' t h e =
    parts-equal n M (bit_and t (polarity C n k M i x t)) (bit_and t (polarity C n k M i x' t)) (small x) (small x')
    (block-shown C n k M i x member t ∙ sym (block-shown C n k M i x' member' t))
    (place-shown C n k M i x member t ∙ e ∙ sym (place-shown C n k M i x' member' t))
  where
    small : (y : ℕ → ℕ) → bit_and t (polarity C n k M i y t) < 2 ^ n
    small y = omega (arith, and_le_l t (polarity C n k M i y t))
