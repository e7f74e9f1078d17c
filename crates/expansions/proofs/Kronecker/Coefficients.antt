-- The coefficients of the answer in the code's terms: the letters are the digits of the kind's number, lowest first (`letters-more`), and each
-- input's letter makes one step (`coefficients-more`).
use mathlib.Core.Path.{◌≡◌, sym, ap, ◌∙◌}
use mathlib.Core.List.{List}
use Prim.Native.Nat.{ℕ, suc, ◌+◌, ◌-◌, ◌*◌, ◌/◌, ◌%◌, ◌^◌, ◌≤◌, ◌<◌}
use native.Mathlib.Nat.{pow-suc, div-one, div-div-eq-div-mul, mul-mod_left}
use native.Mathlib.Numerals.{add-one}
use native.Mathlib.Decide.{dec_lt}
use native.Mathlib.Omega.{arith}
use lib.Dec.{ltb}
use lib.ListN.{length, set, replicate, length-replicate, get_or-eq_default}
use lib.Pow.{pow-add, pow_mono}
use Rattle.numbers.specs.Bytes.{at, tabulate}
use Rattle.numbers.specs.Tests.{only}
use Rattle.numbers.proofs.Bytes.{is-table, Filled, filled_none, filled_more}
use Rattle.numbers.proofs.Shifts.{one_shifted}
use Rattle.numbers.proofs.Tests.{only_below, only_above}
use Rattle.expansions.specs.Kronecker.Letters.{letters_of}
use Rattle.expansions.specs.Kronecker.Steps.{kronecker_coefficient}
use Rattle.expansions.specs.Inner.KroneckerWalk.{Stepped}
use Rattle.expansions.proofs.Kronecker.Steps.{kronecker-step-ext}
use Rattle.expansions.proofs.Kronecker.Walking.{padded-at}

-- ---- the letters of a kind

-- the letters of the inputs below i have been written, and `rest` has the others
pub record LettersTo (kind rest i : ℕ) (letters : List ℕ) : Type 0 where
  pub within : i ≤ 8
  pub digits : rest ≡ kind / 3 ^ i
  pub filled : Filled (letters_of kind) i (replicate 8 0) letters

pub letters-none : (kind : ℕ) → LettersTo kind kind 0 (replicate 8 0)
letters-none kind = record { within = omega arith; digits = sym (div-one kind); filled = filled_none (letters_of kind) (replicate 8 0) }

pub letters-long : (kind rest i : ℕ) (letters : List ℕ) → LettersTo kind rest i letters → length letters ≡ 8
letters-long kind rest i letters l = l.filled.long ∙ length-replicate {A = ℕ} 8 0

pub letters-more : (kind rest i : ℕ) (letters : List ℕ) → i < 8 → LettersTo kind rest i letters → LettersTo kind (rest / 3) (i + 1) (set letters i (rest % 3))
unfolding letters_of
letters-more kind rest i letters h l =
    record {
      within = omega arith;
      digits = ap (λ (x : ℕ). x / 3) l.digits ∙ div-div-eq-div-mul kind (3 ^ i) 3 ∙ rw (add-one i, pow-suc 3 i);
      filled = filled_more (letters_of kind) i (replicate 8 0) letters (rest % 3) (omega (arith, letters-long kind rest i letters l))
          (ap (λ (x : ℕ). x % 3) l.digits) l.filled;
    }

pub letters-all : (kind rest i : ℕ) (letters : List ℕ) → 8 ≤ i → LettersTo kind rest i letters → letters ≡ tabulate 8 (letters_of kind)
letters-all kind rest i letters h l =
    is-table 8 (letters_of kind) letters (letters-long kind rest i letters l) (λ t k. l.filled.done t (omega arith))

-- ---- the coefficients

-- the steps for the inputs below i have been done
pub record CoefficientsTo (n size i : ℕ) (letters table values : List ℕ) : Type 0 where
  pub inputs : n ≤ 8
  pub points : size ≡ 2 ^ n
  pub within : i ≤ n
  pub done : (t : ℕ) → t < 2 ^ n → at values t ≡ kronecker_coefficient i (at letters) (at table) t
  pub past : (t : ℕ) → 2 ^ n ≤ t → at values t ≡ 0

pub coefficients-none : (n : ℕ) (letters table values : List ℕ) → n ≤ 8 → length table ≡ 2 ^ n → values ≡ tabulate 256 (at table)
    → CoefficientsTo n (1 * 2 ^ n % 2 ^ 64) 0 letters table values
unfolding kronecker_coefficient
coefficients-none n letters table values h l e =
    let m : length table ≤ 256 = omega (arith, l, pow_mono h) in
    let same : (t : ℕ) → at values t ≡ at table t = λ t. ap (λ (v : List ℕ). at v t) e ∙ padded-at table m t in
    record {
      inputs = h;
      points = one_shifted n (omega arith);
      within = omega arith;
      done = λ t k. same t;
      past = λ t k. same t ∙ get_or-eq_default table 0 (omega (arith, l));
    }

pub coefficients-fit : (n size i : ℕ) (letters table values : List ℕ) → i < n → CoefficientsTo n size i letters table values
    → (i < 8) × (size ≤ 256) × (size % 2 ^ suc i ≡ 0)
coefficients-fit n size i letters table values h c =
    let s : n ≡ n - suc i + suc i = omega arith in
    let w : 2 ^ n ≡ 2 ^ (n - suc i) * 2 ^ suc i = ap (λ (x : ℕ). 2 ^ x) s ∙ pow-add 2 (n - suc i) (suc i) in (
      omega (arith, c.inputs),
      omega (arith, c.points, pow_mono c.inputs),
      ap (λ (x : ℕ). x % 2 ^ suc i) (c.points ∙ w) ∙ mul-mod_left (2 ^ (n - suc i)) (2 ^ suc i),
    )

pub coefficients-more : (n size i : ℕ) (letters table values next : List ℕ) → i < n → CoefficientsTo n size i letters table values
    → Stepped i (at letters i) size (at values) (at next) → CoefficientsTo n size (i + 1) letters table next
unfolding kronecker_coefficient
coefficients-more n size i letters table values next h c s =
    record {
      inputs = c.inputs;
      points = c.points;
      within = omega arith;
      done = λ t l. rw (add-one i)
          (s.done t (omega (arith, c.points))
          ∙ kronecker-step-ext n i (at letters i) (at values) (kronecker_coefficient i (at letters) (at table)) h c.done t l);
      past = λ t l. s.rest t (omega (arith, c.points));
    }

pub coefficients-all : (n size i : ℕ) (letters table values : List ℕ) → length values ≡ 256 → n ≤ i → CoefficientsTo n size i letters table values
    → values ≡ tabulate 256 (λ t. only (ltb t (2 ^ n)) (kronecker_coefficient n (at letters) (at table) t))
coefficients-all n size i letters table values long h c = is-table 256 _ values long (λ t l. go t (dec_lt t (2 ^ n)))
  where
    e : i ≡ n
    e = omega (arith, c.within)

    go : (t : ℕ) → Dec (t < 2 ^ n) → at values t ≡ only (ltb t (2 ^ n)) (kronecker_coefficient n (at letters) (at table) t)
    go t (yes l) = c.done t l ∙ ap (λ (x : ℕ). kronecker_coefficient x (at letters) (at table) t) e ∙ sym (only_below t (2 ^ n) _ l)
    go t (no l) = c.past t (omega arith) ∙ sym (only_above t (2 ^ n) _ (omega arith))
