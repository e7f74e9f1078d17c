-- Minimality, for any charge that is a sum over blocks and any number of choices for a block. Each block takes its first least choice, and each pair of M
-- and i is charged so; then the first least pair comes before every other M, i and choices of blocks, valid by whatever test (`pair-minimal`).
use mathlib.Core.Path.{◌≡◌, ap, ◌∙◌}
use mathlib.Core.Bool.{Bool, true}
use Prim.Native.Nat.{ℕ, ◌+◌, ◌-◌, ◌*◌, ◌/◌, ◌%◌, ◌^◌, ◌≤◌, ◌<◌}
use native.Mathlib.Nat.{mod-lt, div-add-mod'}
use lib.Arith.{digits_lt}
use lib.Pow.{pow_pos, high, low}
use lib.Dec.{T}
use Rattle.numbers.specs.Sums.{sum_below}
use Rattle.numbers.proofs.Sums.{fold-ext}
use Rattle.expansions.specs.Least.{LeastThen, chosen}
use Rattle.expansions.specs.Inner.Answer.{least_choice, pair_charge, least_pair}
use Rattle.expansions.proofs.Least.{then_map, then-sum, then-chain, then-digits, IsFirst, first-unique, first_alike, chosen_is, first_least-ext}
use Rattle.expansions.proofs.Costs.{sum-le}

-- every choice below N may be taken, and there is one
pub choice-first : (N : ℕ) → 0 < N → (charge : ℕ → ℕ) → IsFirst N (λ x. true) charge (least_choice N charge)
unfolding least_choice
choice-first N some charge = chosen_is (λ x. true) charge N 0 some tt

module _ (n k N : ℕ) (some : 0 < N) (valid : ℕ → ℕ → Bool) (charge : ℕ → ℕ → ℕ → ℕ → ℕ) where
  abbrev pub pair : ℕ
  pair = least_pair n k N valid charge

  abbrev pub mixed : ℕ
  mixed = pair / 2 ^ n

  abbrev pub fixed : ℕ
  fixed = pair % 2 ^ n

  -- with the least choices M and i cost no more than with any others, and as much only where each is no less
  blocks-minimal : (M i : ℕ) (x : ℕ → ℕ) → ((j : ℕ) → j < 2 ^ (n - k) → x j < N)
      → LeastThen (pair_charge n k N (charge M i)) (sum_below (2 ^ (n - k)) (λ j. charge M i j (x j)))
      ((j : ℕ) → j < 2 ^ (n - k) → least_choice N (charge M i j) ≤ x j)
  unfolding pair_charge
  blocks-minimal M i x h =
      then-sum (2 ^ (n - k)) _ _ (λ j. least_choice N (charge M i j) ≤ x j) (λ j l. (choice-first N some (charge M i j)).first (x j) (h j l) tt)

  module _ (M i : ℕ) (hM : M < 2 ^ n) (hi : i < 2 ^ n) (ok : T (valid M i)) where
    quotient : (M * 2 ^ n + i) / 2 ^ n ≡ M
    quotient = high M n hi

    rest : (M * 2 ^ n + i) % 2 ^ n ≡ i
    rest = low M n hi

    -- M and i as one number
    below : M * 2 ^ n + i < 2 ^ n * 2 ^ n
    below = digits_lt hM hi

    fits : T (valid ((M * 2 ^ n + i) / 2 ^ n) ((M * 2 ^ n + i) % 2 ^ n))
    fits = rw (quotient, rest) ok

    -- where some pair is valid the least pair is found
    pub pair-first : IsFirst (2 ^ n * 2 ^ n) (λ y. valid (y / 2 ^ n) (y % 2 ^ n)) (λ y. pair_charge n k N (charge (y / 2 ^ n) (y % 2 ^ n))) pair
    unfolding least_pair
    pair-first =
        chosen_is (λ y. valid (y / 2 ^ n) (y % 2 ^ n)) (λ y. pair_charge n k N (charge (y / 2 ^ n) (y % 2 ^ n))) (2 ^ n * 2 ^ n) (M * 2 ^ n + i) below fits

    pub pair-minimal : (x : ℕ → ℕ) → ((j : ℕ) → j < 2 ^ (n - k) → x j < N)
        → LeastThen (pair_charge n k N (charge mixed fixed)) (sum_below (2 ^ (n - k)) (λ j. charge M i j (x j)))
        (LeastThen mixed M (LeastThen fixed i ((j : ℕ) → j < 2 ^ (n - k) → least_choice N (charge mixed fixed j) ≤ x j)))
    pair-minimal x h =
        then_map _ _ (λ o. then-digits (2 ^ n) mixed fixed M i (mod-lt pair (pow_pos n)) hi (rw (div-add-mod' pair (2 ^ n)) o))
        (then-chain (λ y. (j : ℕ) → j < 2 ^ (n - k) → least_choice N (charge (y / 2 ^ n) (y % 2 ^ n) j) ≤ x j) _ _ _ pair (M * 2 ^ n + i)
        (pair-first.first (M * 2 ^ n + i) below fits) (rw (quotient, rest) (blocks-minimal M i x h)))

-- ---- only the charges of the N choices and of the blocks count

pub least_choice-ext : (N : ℕ) (charge other : ℕ → ℕ) → ((x : ℕ) → x < N → charge x ≡ other x) → least_choice N charge ≡ least_choice N other
unfolding least_choice
least_choice-ext N charge other e = ap chosen (first_least-ext N (λ x. true) charge other e)

-- charges that order the choices alike have the same first least
pub least_choice-alike : (N : ℕ) → 0 < N → (charge other : ℕ → ℕ)
    → ((x y : ℕ) → x < N → y < N → charge x < charge y → other x < other y)
    → ((x y : ℕ) → x < N → y < N → charge x ≡ charge y → other x ≡ other y)
    → least_choice N charge ≡ least_choice N other
least_choice-alike N some charge other less equal =
    first-unique N (λ x. true) other _ _ (first_alike N (λ x. true) charge other _ less equal (choice-first N some charge)) (choice-first N some other)

pub pair_charge-ext : (n k N : ℕ) → 0 < N → (charge other : ℕ → ℕ → ℕ) → ((j x : ℕ) → j < 2 ^ (n - k) → x < N → charge j x ≡ other j x)
    → pair_charge n k N charge ≡ pair_charge n k N other
unfolding pair_charge
pair_charge-ext n k N some charge other e =
    fold-ext ◌+◌ (2 ^ (n - k)) _ _
    (λ j l.
    e j (least_choice N (charge j)) l (choice-first N some (charge j)).below ∙ ap (other j) (least_choice-ext N (charge j) (other j) (λ x h. e j x l h)))

pub pair_charge-le : (n k N most : ℕ) → 0 < N → (charge : ℕ → ℕ → ℕ) → ((j x : ℕ) → j < 2 ^ (n - k) → x < N → charge j x ≤ most)
    → pair_charge n k N charge ≤ 2 ^ (n - k) * most
unfolding pair_charge
pair_charge-le n k N most some charge h = sum-le (2 ^ (n - k)) most _ (λ j l. h j (least_choice N (charge j)) l (choice-first N some (charge j)).below)
