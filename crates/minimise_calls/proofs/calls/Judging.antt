-- When the minimising call is carried out: a judgement with no refusal says that every test has passed (`refusal-none`). Where n, m and k are
-- within their bounds, only the lengths and the bytes can refuse (`refusal-lengths`, `refusal-bytes`).
use mathlib.Core.Path.{◌≡◌, ◌∙◌}
use mathlib.Core.Bool.{◌&&◌}
use mathlib.Core.List.{List}
use Prim.Native.Nat.{ℕ, ◌-◌, ◌^◌, ◌≤◌}
use native.Mathlib.Omega.{arith}
use borrow.Author.Tests.{eq-eqb}
use lib.Dec.{T, eqb, eqb→eq}
use lib.ListN.{length}
use lib.Pow.{pow_mono}
use Rattle.std.specs.Prelude.{Ok}
use Rattle.numbers.specs.Bytes.{all_below}
use Rattle.numbers.specs.declared.refusals.Refusal.TheVariants.{BufferLength, HighBit}
use Rattle.numbers.specs.Refusals.{unless, sizes_refusal, Sized}
use Rattle.numbers.proofs.Tests.{and_left, and_right}
use Rattle.numbers.proofs.refusals.Judging.{Passed, passed, or_else_none, sizes-none, sizes-accepted}
use Rattle.minimise_calls.specs.Calls.{minimise_refusal}

pub refusal-lengths : (n m k : ℕ) (table : List ℕ) (coefficients blocks : ℕ) → Sized n m 3 k → minimise_refusal n m k table coefficients blocks
    ≡ unless (eqb (length table) (2 ^ n) && (eqb coefficients (2 ^ n) && eqb blocks (2 ^ (n - k)))) BufferLength (unless (all_below (2 ^ m) table) HighBit (Ok tt))
unfolding minimise_refusal
refusal-lengths n m k table coefficients blocks b =
    rw (sizes-accepted n m 3 k b)

-- where the lengths are right too, only the bytes can
pub refusal-bytes : (n m k : ℕ) (table : List ℕ) (coefficients blocks : ℕ) → Sized n m 3 k → length table ≡ 2 ^ n → coefficients ≡ 2 ^ n → blocks ≡ 2 ^ (n - k)
    → minimise_refusal n m k table coefficients blocks ≡ unless (all_below (2 ^ m) table) HighBit (Ok tt)
refusal-bytes n m k table coefficients blocks b l c j =
    refusal-lengths n m k table coefficients blocks b ∙ rw (eq-eqb (length table) (2 ^ n) l, eq-eqb coefficients (2 ^ n) c, eq-eqb blocks (2 ^ (n - k)) j)

-- every test has passed
pub record Accepted (n m k : ℕ) (table : List ℕ) (coefficients blocks : ℕ) : Type 0 where
  pub sized : Sized n m 3 k
  pub table_long : length table ≡ 2 ^ n
  pub coefficients_long : coefficients ≡ 2 ^ n
  pub blocks_long : blocks ≡ 2 ^ (n - k)
  pub clean : T (all_below (2 ^ m) table)

pub refusal-none : (n m k : ℕ) (table : List ℕ) (coefficients blocks : ℕ) → Passed (minimise_refusal n m k table coefficients blocks)
    → Accepted n m k table coefficients blocks
unfolding minimise_refusal
refusal-none n m k table coefficients blocks e =
    let a = or_else_none (sizes_refusal n m 3 k) _ e in
    let d = passed (eqb (length table) (2 ^ n) && (eqb coefficients (2 ^ n) && eqb blocks (2 ^ (n - k)))) BufferLength _ a.1 in
    let f = passed (all_below (2 ^ m) table) HighBit _ d.1 in
    let lent = and_right (eqb (length table) (2 ^ n)) (eqb coefficients (2 ^ n) && eqb blocks (2 ^ (n - k))) d.0 in
    record {
      sized = sizes-none n m 3 k a.0;
      table_long = eqb→eq (length table) (2 ^ n) (and_left (eqb (length table) (2 ^ n)) _ d.0);
      coefficients_long = eqb→eq coefficients (2 ^ n) (and_left (eqb coefficients (2 ^ n)) (eqb blocks (2 ^ (n - k))) lent);
      blocks_long = eqb→eq blocks (2 ^ (n - k)) (and_right (eqb coefficients (2 ^ n)) (eqb blocks (2 ^ (n - k))) lent);
      clean = f.0;
    }

-- the buffers have no more places than the record
pub accepted-room : (n m k : ℕ) (table : List ℕ) (coefficients blocks : ℕ) → Accepted n m k table coefficients blocks → (coefficients ≤ 256) × (blocks ≤ 256)
accepted-room n m k table coefficients blocks a = (
  omega (arith, a.coefficients_long, pow_mono a.sized.inputs.1),
  omega (arith, a.blocks_long, pow_mono {i = n - k} {j = 8} (omega (arith, a.sized.inputs.1))),
)
