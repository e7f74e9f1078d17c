-- Inverters. An output inverted is the constant 1 on it (`value-inverted`), so that a member that gives a table with a mask has, with no inverter, the
-- mask on its constant (`gives-unique`); and to take the constant for the mask changes nothing (`constant-inverted`). A rival costs no less than
-- with its constant in its mask, and as much only where it has it there (`rival-step`).
use mathlib.Core.Path.{◌≡◌, refl, sym, ap, ap₂, ◌∙◌}
use mathlib.Core.Bool.{Bool}
use mathlib.Core.Logic.{inl, inr}
use Prim.Native.Nat.{ℕ, zero, suc, ◌+◌, ◌-◌, ◌^◌, ◌<◌}
use native.Mathlib.Omega.{arith}
use lib.Bits.{bit_xor, xor_zero_l, xor_zero_r}
use lib.Pow.{pow_pos, suc_ones}
use Rattle.numbers.specs.Sums.{fold_below, xor_below}
use Rattle.numbers.specs.Tests.{only}
use Rattle.numbers.proofs.Tests.{only_zero}
use Rattle.algebra.specs.Terms.{holds, value}
use Rattle.algebra.proofs.Terms.{holds-zero}
use Rattle.algebra.proofs.Value.{value-ext, value-xor}
use Rattle.expansions.specs.declared.kinds.Class.{Class}
use Rattle.expansions.specs.Members.{polarity, Member, Gives}
use Rattle.expansions.specs.Costs.{counted}
use Rattle.expansions.specs.Rules.{Rule, weight}
use Rattle.expansions.specs.Inner.Answer.{member_coefficient, without_constant}
use Rattle.expansions.specs.Least.{LeastThen}
use Rattle.expansions.proofs.Blocks.{member-unique}
use Rattle.expansions.proofs.Costs.{charge, charge-ext, charge-apart}
use Rattle.expansions.proofs.Rules.{weight-product}

-- ---- the constant

-- the coefficients of the constant v, and of no other term
unfoldable pub constant : ℕ → ℕ → ℕ
constant v zero = v
constant v (suc t) = 0

xor_first : (N : ℕ) (g : ℕ → ℕ) → ((t : ℕ) → g (suc t) ≡ 0) → xor_below (suc N) g ≡ g 0
unfolding fold_below
xor_first zero g z = xor_zero_l (g 0)
xor_first (suc N) g z = ap₂ bit_xor (xor_first N g z) (z N) ∙ xor_zero_r (g 0)

-- the constant v is v at every point
value-constant : (n : ℕ) (pol : ℕ → ℕ) (v p : ℕ) → value n pol (constant v) p ≡ v
unfolding value constant only
value-constant n pol v p =
    rw (← suc_ones n)
    (xor_first (2 ^ n - 1) (λ t. only (holds t (pol t) p) (constant v t)) (λ t. only_zero (holds (suc t) (pol (suc t)) p))
    ∙ ap (λ (b : Bool). only b v) (holds-zero (pol 0) p))

pub value-inverted : (n : ℕ) (pol c : ℕ → ℕ) (v p : ℕ) → value n pol (λ t. bit_xor (c t) (constant v t)) p ≡ bit_xor (value n pol c p) v
value-inverted n pol c v p = value-xor n pol c (constant v) p ∙ ap (bit_xor (value n pol c p)) (value-constant n pol v p)

constant-apart : (c : ℕ → ℕ) (t : ℕ) → bit_xor (without_constant c t) (constant (c 0) t) ≡ c t
unfolding without_constant constant
constant-apart c zero = xor_zero_l (c 0)
constant-apart c (suc t) = xor_zero_r (c (suc t))

pub constant-inverted : (n : ℕ) (pol c : ℕ → ℕ) (p : ℕ) → bit_xor (value n pol (without_constant c) p) (c 0) ≡ value n pol c p
constant-inverted n pol c p = sym (value-inverted n pol (without_constant c) (c 0) p) ∙ value-ext n pol _ c p (λ t l. constant-apart c t)

pub without-ext : (n : ℕ) (c d : ℕ → ℕ) → ((t : ℕ) → t < 2 ^ n → c t ≡ d t) → (t : ℕ) → t < 2 ^ n → without_constant c t ≡ without_constant d t
unfolding without_constant
without-ext n c d e zero h = refl
without-ext n c d e (suc t) h = e (suc t) h

-- ---- a member with a mask

module _ (C : Class) (n k v M i : ℕ) (x : ℕ → ℕ) (member : Member C n k M i x) (f c : ℕ → ℕ) (gives : Gives n v (polarity C n k M i x) c f) where
  e : ℕ → ℕ
  e = member_coefficient C n k f M i x

  pub gives-unique : (t : ℕ) → t < 2 ^ n → bit_xor (c t) (constant v t) ≡ member_coefficient C n k f M i x t
  gives-unique =
      member-unique C n k M i x member f (λ t. bit_xor (c t) (constant v t)) (λ p l. value-inverted n (polarity C n k M i x) c v p ∙ gives p l)

  rival-constant : bit_xor (c 0) v ≡ e 0
  unfolding constant e
  rival-constant = gives-unique 0 (pow_pos n)

  rival-others : (t : ℕ) → t < 2 ^ n → without_constant e t ≡ without_constant c t
  unfolding without_constant constant e
  rival-others zero h = refl
  rival-others (suc t) h = sym (gives-unique (suc t) h) ∙ xor_zero_r (c (suc t))

  pub rival-step : (R : Rule) → 0 < R.product
      → LeastThen (charge R n (without_constant (member_coefficient C n k f M i x))) (charge R n c) (member_coefficient C n k f M i x 0 ≡ v)
  unfolding counted e
  rival-step R some = rw (charge-ext R n _ _ rival-others, charge-apart R n c) (go (c 0) rival-constant)
    where
      go : (y : ℕ) → bit_xor y v ≡ e 0 → LeastThen (charge R n (without_constant c)) (charge R n (without_constant c) + counted y (weight R 0)) (e 0 ≡ v)
      go zero z = inr (omega arith, sym z ∙ xor_zero_l v)
      go (suc y) z = inl (omega (arith, some, weight-product R 0))
