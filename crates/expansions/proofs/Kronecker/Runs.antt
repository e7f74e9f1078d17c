-- A step in the code's terms. A run is a pair of places for each number below 2 ^ i, filled pair by pair (`run_more`); the runs one after the
-- other are the whole step (`step-next`).
use mathlib.Core.Path.{◌≡◌, refl, sym, ap, ◌∙◌}
use mathlib.Core.List.{List}
use Prim.Native.Nat.{ℕ, suc, ◌+◌, ◌-◌, ◌*◌, ◌/◌, ◌%◌, ◌^◌, ◌≤◌, ◌<◌}
use native.Mathlib.Nat.{div-add-mod', pow-suc, add-mul, add-mod_right, zero-mod}
use native.Mathlib.Decide.{ℕ_discrete, dec_lt}
use native.Mathlib.Omega.{arith}
use lib.Pow.{high}
use lib.ListN.{length, set, length-set}
use Rattle.numbers.specs.Bytes.{at}
use Rattle.numbers.specs.Bits.{bit}
use lib.Seq.{get_or-set_same, get_or-set_other}
use Rattle.numbers.proofs.Shifts.{one_shifted}
use Rattle.numbers.proofs.Multiples.{multiple-room}
use Rattle.expansions.specs.Kronecker.Steps.{step_value, without, kronecker_step}
use Rattle.expansions.specs.Inner.KroneckerWalk.{RunStepped, Stepped}

-- ---- one run

pub run_none : (base half letter : ℕ) (from before : ℕ → ℕ) → RunStepped base half letter 0 from before before
run_none base half letter from before =
    record { below = λ t h. refl; lower = λ x h. absurd (omega arith); upper = λ x h. absurd (omega arith); above = λ t h. refl }

module _ (base half letter q : ℕ) (from before : ℕ → ℕ) (mid : List ℕ) (v w : ℕ) (l : q < half) (room : base + half + half ≤ length mid)
    (ev : v ≡ step_value letter 0 (from (base + q)) (from (base + q + half))) (ew : w ≡ step_value letter 1 (from (base + q)) (from (base + q + half)))
    (r : RunStepped base half letter q from before (at mid)) where
  after : List ℕ
  after = set (set mid (base + q) v) (base + q + half) w

  other : (t : ℕ) → (t ≡ base + q → ⊥) → (t ≡ base + q + half → ⊥) → at after t ≡ at mid t
  unfolding after
  other t a b = get_or-set_other (set mid (base + q) v) (base + q + half) t w 0 b ∙ get_or-set_other mid (base + q) t v 0 a

  lower-new : (x : ℕ) → x < q + 1 → Dec (x ≡ q) → at after (base + x) ≡ step_value letter 0 (from (base + x)) (from (base + x + half))
  unfolding after
  lower-new x h (yes e) =
      rw e (get_or-set_other (set mid (base + q) v) (base + q + half) (base + q) w 0 (omega arith) ∙ get_or-set_same mid (base + q) v 0 (omega arith) ∙ ev)
  lower-new x h (no n) = other (base + x) (omega arith) (omega arith) ∙ r.lower x (omega arith)

  upper-new : (x : ℕ) → x < q + 1 → Dec (x ≡ q) → at after (base + x + half) ≡ step_value letter 1 (from (base + x)) (from (base + x + half))
  unfolding after
  upper-new x h (yes e) =
      rw e (get_or-set_same (set mid (base + q) v) (base + q + half) w 0 (omega (arith, length-set mid (base + q) v)) ∙ ew)
  upper-new x h (no n) = other (base + x + half) (omega arith) (omega arith) ∙ r.upper x (omega arith)

  pub run_more : RunStepped base half letter (q + 1) from before (at (set (set mid (base + q) v) (base + q + half) w))
  unfolding after
  run_more =
      record {
        below = λ t h. other t (omega arith) (omega arith) ∙ r.below t h;
        lower = λ x h. lower-new x h (ℕ_discrete x q);
        upper = λ x h. upper-new x h (ℕ_discrete x q);
        above = λ t h. other t (omega arith) (omega arith) ∙ r.above t h;
      }

-- ---- the runs of a step

module _ (i base x : ℕ) (aligned : base % 2 ^ suc i ≡ 0) (h : x < 2 ^ i) where
  pair-bit : (d : ℕ) → d < 2 → bit i (base + x + d * 2 ^ i) ≡ d
  pair-bit d l =
      let j : ℕ = base / 2 ^ suc i in
      let m : base ≡ j * 2 ^ suc i = omega (arith, div-add-mod' base (2 ^ suc i)) in
      let p : j * 2 ^ suc i ≡ j * 2 * 2 ^ i = ap (λ (y : ℕ). j * y) (pow-suc 2 i) ∙ omega arith in
      let q : base + x + d * 2 ^ i ≡ (j * 2 + d) * 2 ^ i + x = omega (arith, add-mul (j * 2) d (2 ^ i)) in
      rw (q, high (j * 2 + d) i h) (omega arith)

  step-lower : (letter : ℕ) (g : ℕ → ℕ) → kronecker_step i letter g (base + x) ≡ step_value letter 0 (g (base + x)) (g (base + x + 2 ^ i))
  unfolding kronecker_step without
  step-lower letter g =
      let b : bit i (base + x) ≡ 0 = ap (bit i) (omega arith) ∙ pair-bit 0 (omega arith) in
      rw b (let e : base + x - 0 * 2 ^ i ≡ base + x = omega arith in rw e)

  step-upper : (letter : ℕ) (g : ℕ → ℕ) → kronecker_step i letter g (base + x + 2 ^ i) ≡ step_value letter 1 (g (base + x)) (g (base + x + 2 ^ i))
  unfolding kronecker_step without
  step-upper letter g =
      let b : bit i (base + x + 2 ^ i) ≡ 1 = ap (bit i) (omega arith) ∙ pair-bit 1 (omega arith) in
      rw b (let e : base + x + 2 ^ i - 1 * 2 ^ i ≡ base + x = omega arith in rw e)

-- the step for input i has been done at the places below `base`
pub record StepAt (i letter size half base : ℕ) (from : ℕ → ℕ) (to : List ℕ) : Type 0 where
  pub weight : half ≡ 2 ^ i
  pub input : i < 8
  pub whole : size % 2 ^ suc i ≡ 0
  pub room : size ≤ 256
  pub long : length to ≡ 256
  pub aligned : base % 2 ^ suc i ≡ 0
  pub within : base ≤ size
  pub done : (t : ℕ) → t < base → at to t ≡ kronecker_step i letter from t
  pub rest : (t : ℕ) → size ≤ t → at to t ≡ 0

pub step_start : (i letter size : ℕ) (from : ℕ → ℕ) (to : List ℕ) → i < 8 → size ≤ 256 → size % 2 ^ suc i ≡ 0 → length to ≡ 256
    → ((t : ℕ) → at to t ≡ 0) → StepAt i letter size (1 * 2 ^ i % 2 ^ 64) 0 from to
step_start i letter size from to h r w l z =
    record {
      weight = one_shifted i (omega arith);
      input = h;
      whole = w;
      room = r;
      long = l;
      aligned = zero-mod (2 ^ suc i);
      within = omega arith;
      done = λ t k. absurd (omega arith);
      rest = λ t k. z t;
    }

pub step_room : (i letter size half base : ℕ) (from : ℕ → ℕ) (to : List ℕ) → base < size → StepAt i letter size half base from to → base + half + half ≤ size
step_room i letter size half base from to h s = omega (arith, s.weight, multiple-room (2 ^ suc i) base size s.aligned s.whole h)

pub step-next : (i letter size half base : ℕ) (from : ℕ → ℕ) (mid to : List ℕ) → base < size → length to ≡ 256
    → StepAt i letter size half base from mid → RunStepped base half letter half from (at mid) (at to) → StepAt i letter size half (base + half + half) from to
step-next i letter size half base from mid to h long s r =
    record {
      weight = s.weight;
      input = s.input;
      whole = s.whole;
      room = s.room;
      long = long;
      aligned = (let e : base + half + half ≡ base + 2 ^ suc i = omega (arith, s.weight) in rw e (add-mod_right base (2 ^ suc i) ∙ s.aligned));
      within = step_room i letter size half base from mid h s;
      done = λ t l. go t l (dec_lt t base) (dec_lt t (base + half));
      rest = λ t l. r.above t (omega (arith, step_room i letter size half base from mid h s)) ∙ s.rest t l;
    }
  where
    low : (x : ℕ) → x < half → at to (base + x) ≡ kronecker_step i letter from (base + x)
    low x l =
        r.lower x l ∙ ap (λ (y : ℕ). step_value letter 0 (from (base + x)) (from (base + x + y))) s.weight
        ∙ sym (step-lower i base x s.aligned (omega (arith, s.weight)) letter from)

    up : (x : ℕ) → x < half → at to (base + x + half) ≡ kronecker_step i letter from (base + x + half)
    up x l =
        r.upper x l ∙ ap (λ (y : ℕ). step_value letter 1 (from (base + x)) (from (base + x + y))) s.weight
        ∙ sym (step-upper i base x s.aligned (omega (arith, s.weight)) letter from)
        ∙ ap (λ (y : ℕ). kronecker_step i letter from (base + x + y)) (sym s.weight)

    go : (t : ℕ) → t < base + half + half → Dec (t < base) → Dec (t < base + half) → at to t ≡ kronecker_step i letter from t
    go t l (yes k) d = r.below t k ∙ s.done t k
    go t l (no k) (yes d) = let e : base + (t - base) ≡ t = omega arith in rw e at (low (t - base) (omega arith))
    go t l (no k) (no d) = let e : base + (t - base - half) + half ≡ t = omega arith in rw e at (up (t - base - half) (omega arith))

pub step-all : (i letter size half base : ℕ) (from : ℕ → ℕ) (to : List ℕ) → size ≤ base → StepAt i letter size half base from to
    → Stepped i letter size from (at to)
step-all i letter size half base from to h s = record { done = λ t l. s.done t (omega arith); rest = s.rest }
