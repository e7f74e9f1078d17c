-- A small sum, 16 for each product of a byte of terms and 1 for each literal, is at most 140 (`small_sum-le`) and stands for the byte's charge
-- under any rule, with any literals outside the mixed set (`used_charge-sum`). A byte of fewer products has at most four literals more
-- (`literals-apart`), so that under a rule by which a product weighs more than four literals a lesser sum stands for a lesser charge
-- (`used_charge-lt`), and the first least of the choices by their small sums is the first least by their charges (`least_choice-sums`).
use mathlib.Core.Path.{◌≡◌, refl, sym, ap, ap₂, ◌∙◌}
use Prim.Native.Nat.{ℕ, zero, suc, ◌+◌, ◌*◌, ◌/◌, ◌%◌, ◌^◌, ◌≤◌, ◌<◌}
use native.Mathlib.Nat.{mul-add, add-mul, mul_assoc, mul_comm, mul-le-mul, mul-le-mul_right, suc-mul, one-mul, mul-one, le_of_suc-le-suc}
use native.Mathlib.Decide.{dec_lt}
use native.Mathlib.Omega.{arith}
use lib.Arith.{digits_div, digits_mod}
use lib.Count.{ones, ones-le}
use Rattle.numbers.specs.Sums.{fold_below, sum_below}
use Rattle.numbers.specs.Bits.{bit}
use Rattle.numbers.proofs.Sums.{fold-ext}
use Rattle.numbers.proofs.Bits.{bit-lt}
use Rattle.numbers.proofs.Pack.{ones-bits}
use Rattle.expansions.specs.Rules.{Rule, weight}
use Rattle.expansions.specs.Inner.Answer.{least_choice}
use Rattle.expansions.specs.Inner.Charges.{literal_counts, literal_count, byte_charge, used_charge, sum_to, small_sum, sum_charge}
use Rattle.expansions.proofs.Costs.{sum_mono, sum-scaled, sum-digits}
use Rattle.expansions.proofs.Minimal.{choice-first, least_choice-alike}
use Rattle.expansions.proofs.Rules.{OutweighsFour, weight-product}
use Rattle.expansions.proofs.Charges.{literal_count-le}

-- ---- term by term

pub sum_to-none : (u : ℕ) → sum_to 0 u ≡ 0
unfolding sum_to fold_below
sum_to-none u = refl

pub sum_to-next : (t u : ℕ) → sum_to (suc t) u ≡ sum_to t u + bit t u * (16 + literal_count t)
unfolding sum_to fold_below
sum_to-next t u = refl

pub sum_to-le : (t u : ℕ) → t ≤ 8 → sum_to t u ≤ 19 * t
sum_to-le zero u h = omega (arith, sum_to-none u)
sum_to-le (suc t) u h =
    let w : 16 + literal_count t ≤ 19 = omega (arith, literal_count-le t h) in
    omega (arith, sum_to-next t u, sum_to-le t u (omega arith), mul-le-mul (le_of_suc-le-suc (bit-lt t u)) w)

-- ---- products and literals of a byte of terms

abbrev literals_of : ℕ → ℕ
literals_of u = sum_below 8 (λ t. bit t u * literal_count t)

sum-literals : sum_below 8 literal_count ≡ 12
unfolding fold_below literal_counts literal_count
sum-literals = refl

literals-le : (u : ℕ) → literals_of u ≤ 12
literals-le u =
    omega (
      arith,
      sum-literals,
      sum_mono 8 (λ t. bit t u * literal_count t) literal_count (λ t l.
          omega (arith, mul-le-mul_right (literal_count t) (le_of_suc-le-suc (bit-lt t u)), one-mul (literal_count t))),
    )

-- where each product counts A and each literal B
parts : (A B u : ℕ) → u < 2 ^ 8 → sum_below 8 (λ t. bit t u * (A + literal_count t * B)) ≡ ones u * A + literals_of u * B
parts A B u h =
    fold-ext ◌+◌ 8 _ _
    (λ t l. mul-add (bit t u) A (literal_count t * B) ∙ ap (λ (x : ℕ). bit t u * A + x) (sym (mul_assoc (bit t u) (literal_count t) B)))
    ∙ sum-digits 8 A (λ t. bit t u) (λ t. bit t u * literal_count t * B)
    ∙ ap₂ (λ (x y : ℕ). x * A + y) (ones-bits 8 u h) (sum-scaled 8 B (λ t. bit t u * literal_count t))

small_sum-parts : (u : ℕ) → u < 2 ^ 8 → small_sum u ≡ ones u * 16 + literals_of u
unfolding sum_to
small_sum-parts u h =
    fold-ext ◌+◌ 8 _ _ (λ t l. ap (λ (x : ℕ). bit t u * (16 + x)) (sym (mul-one (literal_count t)))) ∙ parts 16 1 u h
    ∙ ap (λ (x : ℕ). ones u * 16 + x) (mul-one (literals_of u))

pub small_sum-le : (u : ℕ) → u < 2 ^ 8 → small_sum u ≤ 140
small_sum-le u h = omega (arith, small_sum-parts u h, ones-le 8 u h, literals-le u)

-- about two literals a term: one more where all three inputs are there, and at most five fewer in all
literals-most : (b : ℕ → ℕ) → b 7 < 2 → sum_below 8 (λ t. b t * literal_count t) ≤ 2 * sum_below 8 b + 1
unfolding fold_below literal_counts literal_count
literals-most b h = omega arith

literals-fewest : (b : ℕ → ℕ) → b 0 < 2 → b 1 < 2 → b 2 < 2 → b 4 < 2 → 2 * sum_below 8 b ≤ sum_below 8 (λ t. b t * literal_count t) + 5
unfolding fold_below literal_counts literal_count
literals-fewest b h₀ h₁ h₂ h₄ = omega arith

literals-apart : (u v : ℕ) → u < 2 ^ 8 → v < 2 ^ 8 → ones u < ones v → literals_of u ≤ literals_of v + 4
literals-apart u v hu hv h =
    let most = literals-most (λ t. bit t u) (bit-lt 7 u) in
    let fewest = literals-fewest (λ t. bit t v) (bit-lt 0 v) (bit-lt 1 v) (bit-lt 2 v) (bit-lt 4 v) in
    omega (arith, most, fewest, ones-bits 8 u hu, ones-bits 8 v hv)

-- ---- the charge that a sum stands for

module _ (R : Rule) (more : ℕ) where
  -- as many products, each with its literals outside the mixed set, and the literals in the block
  used_charge-parts : (u : ℕ) → u < 2 ^ 8 → used_charge R more u ≡ ones u * weight R more + literals_of u * R.literal
  unfolding used_charge byte_charge weight
  used_charge-parts u h =
      let each : byte_charge R u ≡ ones u * R.product + literals_of u * R.literal = parts R.product R.literal u h in
      omega (arith, each, mul-add (ones u) R.product (more * R.literal), mul_comm (ones u) (more * R.literal))

  pub used_charge-sum : (u : ℕ) → u < 2 ^ 8 → used_charge R more u ≡ sum_charge R more (small_sum u)
  unfolding sum_charge
  used_charge-sum u h =
      let few : literals_of u < 16 = omega (arith, literals-le u) in
      used_charge-parts u h ∙ sym (rw (small_sum-parts u h, digits_div (ones u) few, digits_mod (ones u) few))

  used_charge-lt : OutweighsFour R → (u v : ℕ) → u < 2 ^ 8 → v < 2 ^ 8 → small_sum u < small_sum v → used_charge R more u < used_charge R more v
  used_charge-lt outweighs u v hu hv h = rw (used_charge-parts u hu, used_charge-parts v hv) (go (dec_lt (ones u) (ones v)))
    where
      go : Dec (ones u < ones v) → ones u * weight R more + literals_of u * R.literal < ones v * weight R more + literals_of v * R.literal
      go (yes l) =
          omega (
            arith,
            outweighs.four,
            mul-le-mul_right (weight R more) l,
            suc-mul (ones u) (weight R more),
            weight-product R more,
            mul-le-mul_right R.literal (literals-apart u v hu hv l),
            add-mul (literals_of v) 4 R.literal,
          )
      go (no l) =
          let same : ones u ≡ ones v = omega (arith, small_sum-parts u hu, small_sum-parts v hv, literals-le u, literals-le v) in
          let fewer : literals_of u < literals_of v = omega (arith, small_sum-parts u hu, small_sum-parts v hv) in
          omega (arith, outweighs.some, ap (λ (x : ℕ). x * weight R more) same, mul-le-mul_right R.literal fewer, suc-mul (literals_of u) R.literal)

-- ---- the first least choice

-- 256 times each charge
pub least_choice-scaled : (N : ℕ) → 0 < N → (g : ℕ → ℕ) → least_choice N g ≡ least_choice N (λ x. g x * 256 + 0)
least_choice-scaled N some g = least_choice-alike N some g (λ x. g x * 256 + 0) (λ x y h l c. omega arith) (λ x y h l c. omega arith)

-- with a mask below each sum
module _ (R : Rule) (outweighs : OutweighsFour R) (N more : ℕ) (some : 0 < N) (sums used masks : ℕ → ℕ) (bytes : (x : ℕ) → x < N → used x < 2 ^ 8)
    (e : (x : ℕ) → x < N → sums x ≡ small_sum (used x)) (small : (x : ℕ) → x < N → masks x < 256) where
  abbrev pub summed : ℕ → ℕ
  summed x = sums x * 256 + masks x

  abbrev pub charged : ℕ → ℕ
  charged x = used_charge R more (used x) * 256 + masks x

  pub stands-for : (x : ℕ) → x < N → sum_charge R more (sums x) ≡ used_charge R more (used x)
  stands-for x h = ap (sum_charge R more) (e x h) ∙ sym (used_charge-sum R more (used x) (bytes x h))

  same-charge : (x y : ℕ) → x < N → y < N → sums x ≡ sums y → used_charge R more (used x) ≡ used_charge R more (used y)
  same-charge x y h l c = sym (stands-for x h) ∙ ap (sum_charge R more) c ∙ stands-for y l

  charged-lt : (x y : ℕ) → x < N → y < N → summed x < summed y → charged x < charged y
  charged-lt x y h l c = go (dec_lt (sums x) (sums y))
    where
      go : Dec (sums x < sums y) → charged x < charged y
      go (yes d) = omega (arith, small x h, used_charge-lt R more outweighs (used x) (used y) (bytes x h) (bytes y l) (rw (← (e x h), ← (e y l)) d))
      go (no d) = omega (arith, same-charge x y h l (omega (arith, small y l)))

  pub least_choice-sums : least_choice N summed ≡ least_choice N charged
  least_choice-sums =
      least_choice-alike N some summed charged charged-lt
      (λ x y h l c. omega (arith, same-charge x y h l (omega (arith, small x h, small y l)), small x h, small y l))

  -- and the charge under it
  pub sum_charge-least : sum_charge R more (summed (least_choice N summed) / 256) * 256 + summed (least_choice N summed) % 256 ≡ charged (least_choice N charged)
  sum_charge-least =
      let x : ℕ = least_choice N summed in
      let h : x < N = (choice-first N some summed).below in
      ap₂ (λ (a b : ℕ). sum_charge R more a * 256 + b) (digits_div (sums x) (small x h)) (digits_mod (sums x) (small x h))
      ∙ ap (λ (a : ℕ). a * 256 + masks x) (stands-for x h)
      ∙ ap charged least_choice-sums
