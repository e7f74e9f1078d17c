-- The loop over the bytes of a word of small sums, and of a word of masks beside it. It holds the first least of the sums tried and what is left of each
-- word (`Tried`); at the end that is the first least of all (`tried-all`). Of two words it is the lesser of their two (`lesser-high`, `lesser-low`), and
-- by it the cheapest choice of a block is had (`cheapest-masked`, `cheapest-sum`).
use mathlib.Core.Logic.{inl}
use mathlib.Core.Path.{◌≡◌, refl, sym, ap, ap₂, ◌∙◌, subst}
use mathlib.Core.Bool.{Bool, true, false}
use Prim.Native.Nat.{ℕ, suc, ◌+◌, ◌-◌, ◌*◌, ◌/◌, ◌%◌, ◌^◌, ◌≤◌, ◌<◌}
use native.Mathlib.Nat.{mod-eq_of_lt, zero-add}
use native.Mathlib.Numerals.{add-one}
use native.Mathlib.Decide.{dec_lt}
use native.Mathlib.Omega.{arith}
use lib.Bits.{bit_and, and_mask}
use lib.Dec.{lit<}
use lib.Pow.{pow_pos, pow_mono, shr-shr}
use Rattle.numbers.specs.Words.{byte}
use Rattle.numbers.proofs.Words.{byte-zero, byte-lt}
use Rattle.expansions.specs.Inner.Answer.{least_choice}
use Rattle.expansions.specs.declared.families.Family.{Family}
use Rattle.expansions.specs.Rules.{rule_of}
use Rattle.expansions.specs.Least.{LeastThen, better, first_least}
use Rattle.expansions.specs.Inner.Charges.{small_sum, used_charge, sum_charge}
use Rattle.expansions.specs.Inner.Leading.{Leading}
use Rattle.expansions.proofs.Least.{then-le, then_map, then-from, IsFirst, first-unique, leading-take, leading-keep, leading-chosen}
use Rattle.expansions.proofs.Minimal.{choice-first, least_choice-ext}
use Rattle.expansions.proofs.Rules.{rule-outweighs}
use Rattle.expansions.proofs.SmallSums.{stands-for, least_choice-scaled, least_choice-sums, sum_charge-least}
use Rattle.charges.specs.Inner.Charges.{compared, IsLeastSum, IsCheapest}
use Rattle.charges.specs.declared.cheapest.LeastSum.{LeastSum}
use Rattle.charges.specs.declared.cheapest.Cheapest.{Cheapest}

-- what is compared of the choice φ
abbrev pub number : (masked : Bool) (sums masks φ : ℕ) → ℕ
number masked sums masks φ = compared masked (byte φ sums) (byte φ masks)

number-lt : (masked : Bool) (sums masks φ : ℕ) → number masked sums masks φ < 65536
number-lt true sums masks φ = omega (arith, byte-lt φ sums, byte-lt φ masks)
number-lt false sums masks φ = omega (arith, byte-lt φ sums)

-- the sum and the choice of `least` are the first least of the choices below phi
abbrev LeadsBelow : (masked : Bool) (sums masks : ℕ) → LeastSum → ℕ → Type 0
LeadsBelow masked sums masks least phi =
    Leading 65536 (number masked sums masks) (first_least phi (λ φ. true) (number masked sums masks)) least.sum least.choice

-- the choices below phi are tried, and the rest of each word has the bytes from phi on
pub record Tried (masked : Bool) (sums masks : ℕ) (least : LeastSum) (rest rest_masks phi : ℕ) : Type 0 where
  pub best : LeadsBelow masked sums masks least phi
  pub sums_left : rest ≡ sums / 2 ^ (8 * phi)
  pub masks_left : rest_masks ≡ masks / 2 ^ (8 * phi)

pub tried-first : (masked : Bool) (sums masks sum : ℕ) → sum ≡ number masked sums masks 0 → Tried masked sums masks (record { sum = sum; choice = 0 }) (sums / 256) (masks / 256) 1
unfolding first_least better
tried-first masked sums masks sum e = record { best = (refl, e); sums_left = refl; masks_left = refl }

module _ (masked : Bool) (sums masks : ℕ) (least : LeastSum) (rest rest_masks phi sum : ℕ) (tried : Tried masked sums masks least rest rest_masks phi)
    (e : sum ≡ number masked rest rest_masks 0) where
  -- what is left of a word from its byte phi on
  left-byte : (w rest : ℕ) → rest ≡ w / 2 ^ (8 * phi) → byte 0 rest ≡ byte phi w
  unfolding byte
  left-byte w rest h = byte-zero rest ∙ ap (λ (x : ℕ). x % 256) h

  left-more : (w rest : ℕ) → rest ≡ w / 2 ^ (8 * phi) → rest / 256 ≡ w / 2 ^ (8 * (phi + 1))
  left-more w rest h =
      let bits : 8 * phi + 8 ≡ 8 * (phi + 1) = omega arith in
      ap (λ (x : ℕ). x / 256) h ∙ shr-shr w (8 * phi) 8 ∙ ap (λ (x : ℕ). w / 2 ^ x) bits

  read : sum ≡ number masked sums masks phi
  read = e ∙ ap₂ (compared masked) (left-byte sums rest tried.sums_left) (left-byte masks rest_masks tried.masks_left)

  -- one more choice, after which `next` is the best
  tried-more : (next : LeastSum) → LeadsBelow masked sums masks next (suc phi) → Tried masked sums masks next (rest / 256) (rest_masks / 256) (phi + 1)
  tried-more next best =
      record { best = rw (add-one phi) best; sums_left = left-more sums rest tried.sums_left; masks_left = left-more masks rest_masks tried.masks_left }

  pub tried-take : sum < least.sum → Tried masked sums masks (record { sum = sum; choice = phi }) (rest / 256) (rest_masks / 256) (phi + 1)
  tried-take h =
      tried-more (record { sum = sum; choice = phi })
      (leading-take 65536 (λ φ. true) (number masked sums masks) phi least.sum least.choice tried.best sum refl read h)

  pub tried-keep : least.sum ≤ sum → Tried masked sums masks least (rest / 256) (rest_masks / 256) (phi + 1)
  tried-keep h =
      tried-more least
      (leading-keep 65536 (λ φ. true) (number masked sums masks) phi least.sum least.choice tried.best sum refl read (omega (arith, read, number-lt masked sums masks phi)) h)

pub tried-all : (masked : Bool) (count sums masks : ℕ) (least : LeastSum) (rest rest_masks phi : ℕ) → 0 < count → phi ≡ count
    → Tried masked sums masks least rest rest_masks phi → IsLeastSum count (number masked sums masks) least
unfolding least_choice
tried-all masked count sums masks least rest rest_masks phi some e t =
    let d = leading-chosen 65536 (λ φ. true) (number masked sums masks) count least.sum least.choice (rw e at t.best) 0 some tt in
    record { choice = d.0; sum = d.1 }

-- ---- from two words

-- the first least of sixteen numbers is that of the first eight, and where those of the last eight have a lesser one, that of these
module _ (sums : ℕ → ℕ) (low high : LeastSum) (a : IsLeastSum 8 sums low) (b : IsLeastSum 8 (λ x. sums (8 + x)) high) where
  abbrev Low : IsFirst 8 (λ x. true) sums (least_choice 8 sums)
  Low = choice-first 8 (lit< tt) sums

  abbrev High : IsFirst 8 (λ x. true) (λ x. sums (8 + x)) (least_choice 8 (λ x. sums (8 + x)))
  High = choice-first 8 (lit< tt) (λ x. sums (8 + x))

  least-from : (x : ℕ) → IsFirst 16 (λ y. true) sums x → (sum : ℕ) → sum ≡ sums x → IsLeastSum 16 sums (record { sum = sum; choice = x })
  least-from x is sum e =
      let same : x ≡ least_choice 16 sums = first-unique 16 (λ y. true) sums x (least_choice 16 sums) is (choice-first 16 (lit< tt) sums) in
      record { choice = same; sum = e ∙ ap sums same }

  -- the first least of each eight, counted from 0
  abbrev lc : ℕ
  lc = least_choice 8 sums

  abbrev hc : ℕ
  hc = least_choice 8 (λ x. sums (8 + x))

  pub lesser-high : high.sum < low.sum → IsLeastSum 16 sums (record { sum = high.sum; choice = high.choice + 8 })
  lesser-high h = let place : high.choice + 8 ≡ 8 + hc = omega (arith, b.choice) in rw place (least-from (8 + hc) is high.sum b.sum)
    where
      go : (i : ℕ) → i < 16 → Dec (i < 8) → LeastThen (sums (8 + hc)) (sums i) (8 + hc ≤ i)
      go i l (yes s) = inl (omega (arith, a.sum, b.sum, then-le _ _ (Low.first i s tt)))
      go i l (no s) =
          let e : 8 + (i - 8) ≡ i = omega arith in
          let r : LeastThen (sums (8 + hc)) (sums (8 + (i - 8))) (8 + hc ≤ i) = then_map _ _ (λ o. omega arith) (High.first (i - 8) (omega arith) tt) in
          subst (λ (x : ℕ). LeastThen (sums (8 + hc)) (sums x) (8 + hc ≤ i)) e r

      is : IsFirst 16 (λ y. true) sums (8 + hc)
      is = record { below = omega (arith, High.below); fits = tt; first = λ i l t. go i l (dec_lt i 8) }

  pub lesser-low : low.sum ≤ high.sum → IsLeastSum 16 sums low
  lesser-low h = let least = least-from lc is low.sum a.sum in record { choice = a.choice ∙ least.choice; sum = least.sum }
    where
      go : (i : ℕ) → i < 16 → Dec (i < 8) → LeastThen (sums lc) (sums i) (lc ≤ i)
      go i l (yes s) = Low.first i s tt
      go i l (no s) =
          let e : 8 + (i - 8) ≡ i = omega arith in
          let later : sums (8 + hc) ≤ sums (8 + (i - 8)) = then-le _ _ (High.first (i - 8) (omega arith) tt) in
          then-from (sums lc) (sums i) (omega (arith, a.sum, b.sum, later, ap sums e)) (λ c. omega (arith, Low.below))

      is : IsFirst 16 (λ y. true) sums lc
      is = record { below = omega (arith, Low.below); fits = tt; first = λ i l t. go i l (dec_lt i 8) }

-- ---- the block's cost, from the least sum

module _ (F : Family) (N more : ℕ) (some : 0 < N) (used masks : ℕ → ℕ) (least : LeastSum) (bytes : (x : ℕ) → x < N → used x < 2 ^ 8)
    (small : (x : ℕ) → x < N → masks x < 256) where
  abbrev sums : ℕ → ℕ
  sums x = small_sum (used x)

  -- with masks below the sums
  pub cheapest-masked : IsLeastSum N (λ x. sums x * 256 + masks x) least
      → (charge : ℕ) → charge ≡ sum_charge (rule_of F) more (least.sum / 256) * 256 + bit_and least.sum 255
      → IsCheapest N (λ x. used_charge (rule_of F) more (used x) * 256 + masks x) (record { charge = charge; choice = least.choice })
  cheapest-masked is charge e =
      record {
        choice = is.choice ∙ least_choice-sums (rule_of F) (rule-outweighs F) N more some sums used masks bytes (λ x h. refl) small;
        charge =
            e ∙ ap₂ (λ (x y : ℕ). sum_charge (rule_of F) more (x / 256) * 256 + y) is.sum (and_mask least.sum 8 ∙ ap (λ (x : ℕ). x % 256) is.sum)
            ∙ sum_charge-least (rule_of F) (rule-outweighs F) N more some sums used masks bytes (λ x h. refl) small;
      }

-- with no masks
module _ (F : Family) (N more : ℕ) (some : 0 < N) (used : ℕ → ℕ) (least : LeastSum) (bytes : (x : ℕ) → x < N → used x < 2 ^ 8) where
  abbrev cost : ℕ → ℕ
  cost x = used_charge (rule_of F) more (used x)

  pub cheapest-sum : IsLeastSum N (λ x. small_sum (used x)) least → (charge : ℕ) → charge ≡ sum_charge (rule_of F) more least.sum
      → IsCheapest N cost (record { charge = charge; choice = least.choice })
  cheapest-sum is charge e =
      let g : ℕ → ℕ = λ x. small_sum (used x) in
      let same : least_choice N g ≡ least_choice N cost =
      least_choice-scaled N some g
      ∙ least_choice-sums (rule_of F) (rule-outweighs F) N more some g used (λ x. 0) bytes (λ x h. refl) (λ x h. lit< tt)
      ∙ sym (least_choice-scaled N some cost) in
      record {
        choice = is.choice ∙ same;
        charge =
            e ∙ ap (sum_charge (rule_of F) more) is.sum
            ∙ stands-for (rule_of F) (rule-outweighs F) N more some g used (λ x. 0) bytes (λ x h. refl) (λ x h. lit< tt) (least_choice N g)
            (choice-first N some g).below
            ∙ ap cost same;
      }

-- by other sums that are the same under each choice
pub least-ext : (N : ℕ) → 0 < N → (sums other : ℕ → ℕ) (r : LeastSum) → ((x : ℕ) → x < N → sums x ≡ other x) → IsLeastSum N sums r → IsLeastSum N other r
least-ext N some sums other r e is =
    let same : least_choice N sums ≡ least_choice N other = least_choice-ext N sums other e in
    record { choice = is.choice ∙ same; sum = is.sum ∙ e (least_choice N sums) (choice-first N some sums).below ∙ ap other same }

-- from the choice 0 on
pub least_zero : (N : ℕ) → 0 < N → (sums : ℕ → ℕ) (r : LeastSum) → IsLeastSum N (λ q. sums (0 * 8 + q)) r → IsLeastSum N sums r
least_zero N some sums r = least-ext N some _ sums r (λ q l. ap sums (zero-add q))

-- where the terms do not choose apart there are 2^k choices, which the code counts in a byte
module _ (k : ℕ) (few : k ≤ 3) where
  choices-le : 2 ^ k ≤ 8
  choices-le = pow_mono {i = k} {j = 3} few

  pub choices-counted : 1 * 2 ^ k % 2 ^ 8 ≡ 2 ^ k
  choices-counted = let same : 1 * 2 ^ k ≡ 2 ^ k = omega arith in mod-eq_of_lt (omega (arith, choices-le)) ∙ same

  pub choices-counted-some : 0 < 1 * 2 ^ k % 2 ^ 8
  choices-counted-some = omega (arith, choices-counted, pow_pos k)

  pub choices-counted-le : 1 * 2 ^ k % 2 ^ 8 ≤ 8
  choices-counted-le = omega (arith, choices-counted, choices-le)

  pub least-counted : (sums : ℕ → ℕ) (r : LeastSum) → IsLeastSum (1 * 2 ^ k % 2 ^ 8) (λ q. sums (0 * 8 + q)) r → IsLeastSum (2 ^ k) sums r
  least-counted sums r is = least_zero (2 ^ k) (pow_pos k) sums r (rw choices-counted at is)

pub least_lt : (N : ℕ) → 0 < N → (sums : ℕ → ℕ) (r : LeastSum) → IsLeastSum N sums r → r.choice < N
least_lt N some sums r is = rw is.choice (choice-first N some sums).below

-- by other costs that are the same under each choice
pub cheapest-ext : (N : ℕ) → 0 < N → (cost other : ℕ → ℕ) (r : Cheapest) → ((x : ℕ) → x < N → cost x ≡ other x) → IsCheapest N cost r → IsCheapest N other r
cheapest-ext N some cost other r e is =
    let same : least_choice N cost ≡ least_choice N other = least_choice-ext N cost other e in
    record { choice = is.choice ∙ same; charge = is.charge ∙ e (least_choice N cost) (choice-first N some cost).below ∙ ap other same }
