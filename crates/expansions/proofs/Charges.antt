-- What a byte of terms is charged. The eight literal counts are the numbers of bits (`literal_count-ones`), literals outside the block add
-- their number for each bit of the byte (`byte_charge-outside`), and what a byte costs is bounded (`used_charge-le`).
use mathlib.Core.Path.{◌≡◌, refl, sym, ap, ◌∙◌}
use mathlib.Core.List.{List}
use Prim.Native.Nat.{ℕ, ◌+◌, ◌*◌, ◌^◌, ◌≤◌, ◌<◌}
use native.Mathlib.Nat.{add_assoc, add_comm, add-zero, mul-add, mul_comm, mul-le-mul, mul-le-mul_right, mul-zero, le_of_suc-le-suc}
use native.Mathlib.Omega.{arith}
use lib.Count.{ones, ones_in, ones-le}
use Rattle.numbers.specs.Bytes.{at}
use Rattle.numbers.specs.Sums.{sum_below}
use Rattle.numbers.specs.Bits.{bit}
use Rattle.numbers.proofs.Bytes.{at-tabulate}
use Rattle.numbers.proofs.Sums.{fold-ext, fold-map, fold-op}
use Rattle.expansions.specs.Rules.{Rule, weight}
use Rattle.expansions.specs.Inner.Charges.{literal_counts, literal_count, byte_charge, used_charge}
use Rattle.numbers.proofs.Tables.{matches, matches-tabulate}
use Rattle.numbers.proofs.Bits.{bit-lt}
use Rattle.numbers.proofs.Pack.{ones-bits}
use Rattle.expansions.proofs.Rules.{weight-more, weight-le}
use Rattle.expansions.proofs.Costs.{sum-le}

-- ---- literal counts

pub literal_count-ones : (t : ℕ) → t < 8 → literal_count t ≡ ones t
unfolding literal_counts literal_count ones ones_in matches
literal_count-ones t h = ap (λ (xs : List ℕ). at xs t) (matches-tabulate 8 ones literal_counts refl tt) ∙ at-tabulate 8 ones t h

pub literal_count-le : (t : ℕ) → t < 8 → literal_count t ≤ 3
literal_count-le t h = rw (literal_count-ones t h) (ones-le 3 t h)

-- ---- a byte's charge

module _ (R : Rule) where
  -- a term of a block is charged at most what three literals weigh
  byte_charge-term : (t u : ℕ) → t < 8 → bit t u * weight R (literal_count t) ≤ weight R 3
  byte_charge-term t u h =
      omega (arith, mul-le-mul (le_of_suc-le-suc (bit-lt t u)) (weight-le R (literal_count t) 3 (literal_count-le t h)))

  byte_charge-le : (u : ℕ) → byte_charge R u ≤ 8 * weight R 3
  unfolding byte_charge
  byte_charge-le u = sum-le 8 (weight R 3) (λ t. bit t u * weight R (literal_count t)) (λ t l. byte_charge-term t u l)

  -- with more literals on each term, as many as it has outside the block
  pub byte_charge-outside : (outside u : ℕ) → u < 2 ^ 8
      → sum_below 8 (λ t. bit t u * weight R (outside + literal_count t)) ≡ byte_charge R u + outside * R.literal * ones u
  unfolding byte_charge
  byte_charge-outside outside u h =
      fold-ext ◌+◌ 8 _ _ (λ t l. apart (bit t u) (literal_count t))
      ∙ fold-op ◌+◌ add_assoc add_comm add-zero 8 (λ t. bit t u * weight R (literal_count t)) (λ t. more * bit t u)
      ∙ ap (λ (x : ℕ). byte_charge R u + x)
      (sym (fold-map ◌+◌ (λ x. more * x) (mul-zero more) (mul-add more) 8 (λ t. bit t u)) ∙ ap (λ (x : ℕ). more * x) (ones-bits 8 u h))
    where
      more : ℕ
      more = outside * R.literal

      apart : (b x : ℕ) → b * weight R (outside + x) ≡ b * weight R x + more * b
      apart b x = rw (weight-more R outside x, mul-add b (weight R x) more, mul_comm b more)

  -- eight terms, each with at most three literals in the block and eight outside the mixed set
  pub used_charge-le : (more u : ℕ) → more ≤ 8 → u < 2 ^ 8 → used_charge R more u ≤ 8 * weight R 11
  unfolding used_charge weight
  used_charge-le more u hm hu = omega (arith, byte_charge-le u, mul-le-mul (mul-le-mul_right R.literal hm) (ones-le 8 u hu))
