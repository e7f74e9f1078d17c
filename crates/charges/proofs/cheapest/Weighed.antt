-- What a small sum stands for, as code computes it from the two weights of a family's rule: it is the charge (`weighed-is`), and it and its parts are
-- small (`outside-le`, `product_le`, `products-le`, `weighed-le`, `sum_charge-most`, `masked-fits`).
use mathlib.Core.Path.{◌≡◌, refl}
use Prim.Native.Nat.{ℕ, ◌+◌, ◌*◌, ◌/◌, ◌^◌, ◌≤◌, ◌<◌}
use native.Mathlib.Nat.{mul-le-mul}
use native.Mathlib.Omega.{arith}
use lib.Bits.{bit_and, and_mask, and_le_l, mask_lt}
use Rattle.expansions.specs.declared.families.Family.{Family}
use Rattle.expansions.specs.Rules.{weight, rule_of}
use Rattle.expansions.specs.Inner.Charges.{sum_charge}
use Rattle.expansions.proofs.Rules.{rule-small}

module _ (F : Family) (more sum product literal : ℕ) (ep : product ≡ (rule_of F).product) (el : literal ≡ (rule_of F).literal) where
  abbrev weighed : ℕ
  weighed = sum / 16 * (product + more * literal) + bit_and sum 15 * literal

  pub weighed-is : weighed ≡ sum_charge (rule_of F) more sum
  unfolding sum_charge weight
  weighed-is = rw (ep, el, and_mask sum 4)

  module _ (hm : more ≤ 8) (hs : sum < 256) where
    pub outside-le : more * literal ≤ 4096
    outside-le = let small : literal ≤ 512 = omega (arith, el, rule-small F) in omega (arith, mul-le-mul hm small)

    pub product_le : product + more * literal ≤ 8192
    product_le = omega (arith, ep, rule-small F, outside-le)

    pub products-le : sum / 16 * (product + more * literal) ≤ 15 * 8192
    products-le = let few : sum / 16 ≤ 15 = omega arith in mul-le-mul few product_le

    pub weighed-le : weighed ≤ 15 * 8192 + 15 * 512
    weighed-le =
        let few : bit_and sum 15 ≤ 15 = omega (arith, mask_lt sum 4) in
        let small : literal ≤ 512 = omega (arith, el, rule-small F) in
        omega (arith, products-le, mul-le-mul few small)

-- so the charge that a sum stands for is small
pub sum_charge-most : (F : Family) (more sum : ℕ) → more ≤ 8 → sum < 256 → sum_charge (rule_of F) more sum ≤ 15 * 8192 + 15 * 512
sum_charge-most F more sum hm hs =
    rw (← weighed-is F more sum (rule_of F).product (rule_of F).literal refl refl) (weighed-le F more sum (rule_of F).product (rule_of F).literal refl refl hm hs)

-- with a mask below it
pub masked-fits : (charge sum mask : ℕ) → charge < 2 ^ 20 → sum < 65536 → charge * 256 + bit_and sum mask < 2 ^ 32
masked-fits charge sum mask hc hs = omega (arith, and_le_l sum mask)
