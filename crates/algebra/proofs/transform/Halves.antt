-- A half step done in place, pair of runs by pair of runs: what the loop of `half_step_runs` holds.
use mathlib.Core.Path.{◌≡◌, sym, ap, ap₂, ◌∙◌}
use mathlib.Core.Bool.{cond}
use mathlib.Core.List.{List}
use Prim.Native.Nat.{ℕ, zero, suc, ◌+◌, ◌-◌, ◌*◌, ◌/◌, ◌%◌, ◌^◌, ◌≤◌, ◌<◌}
use native.Mathlib.Nat.{div-add-mod', pow-suc, add-zero, one-mul, zero-mul, suc-mul, add-mul, mul_assoc, mul-le-mul_right, zero-mod, add-mod_right, le-div_iff_mul-le}
use native.Mathlib.Decide.{dec_lt}
use native.Mathlib.Omega.{arith}
use lib.Dec.{eqb}
use lib.Pow.{pow_pos, pow-add, shl_exact}
use lib.ListN.{length}
use lib.Bits.{bit_xor}
use Rattle.numbers.specs.Bytes.{at, tabulate}
use Rattle.numbers.proofs.Bytes.{Filled, filled_none, filled-all}
use Rattle.numbers.proofs.Multiples.{multiple-room, multiple-down}
use Rattle.algebra.specs.Inner.Steps.{half_step, RunJoined, RunRoom, Apart, ahead, behind}
use Rattle.algebra.proofs.HalfSteps.{half-lane, half-lowest}

-- ---- the half step at a place of a pair of runs

pair-half : (d s base e i : ℕ) (g : ℕ → ℕ) → base % 2 ^ suc s ≡ 0 → e < 2 → i < 2 ^ s
    → half_step d s g (base + e * 2 ^ s + i) ≡ cond (eqb e d) (bit_xor (g (base + e * 2 ^ s + i)) (g (base + (1 - e) * 2 ^ s + i))) (g (base + e * 2 ^ s + i))
pair-half d s base e i g a h l =
    rw (sym (place e), sym (place (1 - e)))
    (ap (λ (x : ℕ). half_step d x g ((j * 2 + e) * 2 ^ s + i)) (sym (add-zero s)) ∙ half-lane d s 0 g (j * 2 + e) i l ∙ half-lowest d (λ q. g (q * 2 ^ s + i)) j e h)
  where
    j : ℕ
    j = base / 2 ^ suc s

    place : (e : ℕ) → (j * 2 + e) * 2 ^ s + i ≡ base + e * 2 ^ s + i
    place e =
        let m : base ≡ j * 2 ^ suc s = omega (arith, div-add-mod' base (2 ^ suc s)) in
        let p : j * 2 ^ suc s ≡ j * 2 * 2 ^ s = ap (λ (y : ℕ). j * y) (pow-suc 2 s) ∙ omega arith in
        omega (arith, add-mul (j * 2) e (2 ^ s))

-- ---- the loop

-- the half step has been done below base, a multiple of the size of two runs; `to` and `from` are where the two runs begin
pub record HalvedTo (d s size to from base : ℕ) (before after : List ℕ) : Type 0 where
  pub digit : d < 2
  pub weight : size ≡ 2 ^ s
  pub taking : to ≡ d * 2 ^ s
  pub taken : from ≡ (1 - d) * 2 ^ s
  pub whole : length before % 2 ^ suc s ≡ 0
  pub aligned : base % 2 ^ suc s ≡ 0
  pub within : base ≤ length before
  pub reached : Filled (half_step d s (at before)) base before after

halved_none : (d s size to from : ℕ) (b : List ℕ) → d < 2 → size ≡ 1 * 2 ^ s → to ≡ d * 2 ^ s → from ≡ (1 - d) * 2 ^ s → length b % 2 ^ suc s ≡ 0
    → HalvedTo d s size to from 0 b b
halved_none d s size to from b h w t u e =
    record {
      digit = h;
      weight = w ∙ one-mul (2 ^ s);
      taking = t;
      taken = u;
      whole = e;
      aligned = zero-mod (2 ^ suc s);
      within = omega arith;
      reached = filled_none _ b;
    }

-- two runs, from base + to and from base + from on, lie within a list and have no byte in common
pub record PairRoom (size to from base long : ℕ) : Type 0 where
  pub pair : base + size + size ≤ long
  pub taking : to ≤ size
  pub taken : from ≤ size
  pub apart : Apart (base + to) (base + from) size

module _ (d s size to from base : ℕ) (before mid : List ℕ) (h : base < length mid) (f : HalvedTo d s size to from base before mid) where
  pub halved-room : PairRoom size to from base (length mid)
  halved-room = go d f.digit f.taking f.taken
    where
      room : base + size + size ≤ length mid
      room =
          omega (arith, f.weight, f.reached.long, multiple-room (2 ^ suc s) base (length before) f.aligned f.whole (omega (arith, f.reached.long)))

      go : (d : ℕ) → d < 2 → to ≡ d * 2 ^ s → from ≡ (1 - d) * 2 ^ s → PairRoom size to from base (length mid)
      go zero l a b = record { pair = room; taking = omega arith; taken = omega (arith, f.weight); apart = ahead (omega (arith, f.weight)) }
      go (suc zero) l a b = record { pair = room; taking = omega (arith, f.weight); taken = omega arith; apart = behind (omega (arith, f.weight)) }
      go (suc (suc d)) l a b = absurd (omega arith)

  module _ (after : List ℕ) (r : RunJoined (base + to) (base + from) size mid after) where
    joined : (d : ℕ) → to ≡ d * 2 ^ s → from ≡ (1 - d) * 2 ^ s → (i : ℕ) → i < 2 ^ s
        → at after (base + d * 2 ^ s + i) ≡ bit_xor (at before (base + d * 2 ^ s + i)) (at before (base + (1 - d) * 2 ^ s + i))
    joined d a b i l =
        let w = r.within i (omega (arith, f.weight)) ∙ ap₂ bit_xor (f.reached.kept (base + to + i) (omega arith)) (f.reached.kept (base + from + i) (omega arith)) in
        rw (a, b) at w

    pair-done : (d e i : ℕ) → d < 2 → to ≡ d * 2 ^ s → from ≡ (1 - d) * 2 ^ s → e < 2 → i < 2 ^ s
        → at after (base + e * 2 ^ s + i)
        ≡ cond (eqb e d) (bit_xor (at before (base + e * 2 ^ s + i)) (at before (base + (1 - e) * 2 ^ s + i))) (at before (base + e * 2 ^ s + i))
    pair-done zero zero i k a b l m = joined 0 a b i m
    pair-done zero (suc zero) i k a b l m = r.above _ (omega (arith, f.weight)) ∙ f.reached.kept _ (omega arith)
    pair-done (suc zero) zero i k a b l m = r.below _ (omega arith) ∙ f.reached.kept _ (omega arith)
    pair-done (suc zero) (suc zero) i k a b l m = joined 1 a b i m
    pair-done zero (suc (suc e)) i k a b l m = absurd (omega arith)
    pair-done (suc zero) (suc (suc e)) i k a b l m = absurd (omega arith)
    pair-done (suc (suc d)) e i k a b l m = absurd (omega arith)

    pair-at : (t e i : ℕ) → t ≡ base + e * 2 ^ s + i → e < 2 → i < 2 ^ s → at after t ≡ half_step d s (at before) t
    pair-at t e i q l m = rw q (pair-done d e i f.digit f.taking f.taken l m ∙ sym (pair-half d s base e i (at before) f.aligned l m))

    each : (t : ℕ) → t < base + size + size → Dec (t < base) → Dec (t < base + size) → at after t ≡ half_step d s (at before) t
    each t l (yes k) q = r.below t (omega arith) ∙ f.reached.done t k
    each t l (no k) (yes q) = pair-at t 0 (t - base) (omega arith) (omega arith) (omega (arith, f.weight))
    each t l (no k) (no q) = pair-at t 1 (t - base - size) (omega (arith, f.weight)) (omega arith) (omega (arith, f.weight))

    pub halved-more : HalvedTo d s size to from (base + size + size) before after
    halved-more =
        record {
          digit = f.digit;
          weight = f.weight;
          taking = f.taking;
          taken = f.taken;
          whole = f.whole;
          aligned = (let e : base + size + size ≡ base + 2 ^ suc s = omega (arith, f.weight) in rw e (add-mod_right base (2 ^ suc s) ∙ f.aligned));
          within = omega (arith, halved-room.pair, f.reached.long);
          reached = record {
            long = r.long ∙ f.reached.long;
            done = λ t l. each t l (dec_lt t base) (dec_lt t (base + size));
            kept = λ t l. r.above t (omega (arith, halved-room.taking)) ∙ f.reached.kept t (omega arith);
          };
        }

pub halved-all : (d s size to from base : ℕ) (before after : List ℕ) → length after ≤ base → HalvedTo d s size to from base before after
    → after ≡ tabulate (length before) (half_step d s (at before))
halved-all d s size to from base before after h f = filled-all _ base before after h f.reached

-- ---- in the code's terms: the loop's numbers count runs of 2 ^ k bytes

shifted : (d s k : ℕ) → d < 2 → s < 16 → d * 2 ^ s % 2 ^ 64 * 2 ^ k ≡ d * 2 ^ (s + k)
shifted d s k h l =
    ap (λ (x : ℕ). x * 2 ^ k) (shl_exact 1 s 64 h (omega arith)) ∙ mul_assoc d (2 ^ s) (2 ^ k) ∙ ap (λ (x : ℕ). d * x) (sym (pow-add 2 s k))

pub runs-none : (d e s k : ℕ) (b : List ℕ) → d < 2 → e ≡ 1 - d → s + k < 16 → length b % 2 ^ suc (s + k) ≡ 0
    → HalvedTo d (s + k) (1 * 2 ^ s % 2 ^ 64 * 2 ^ k) (d * 2 ^ s % 2 ^ 64 * 2 ^ k) (e * 2 ^ s % 2 ^ 64 * 2 ^ k) (0 * 2 ^ k) b b
runs-none d e s k b h i l w =
    rw (i, zero-mul (2 ^ k))
    (halved_none d (s + k) _ _ _ b h (shifted 1 s k (omega arith) (omega arith)) (shifted d s k h (omega arith)) (shifted (1 - d) s k (omega arith) (omega arith)) w)

module _ (d s k size to from base : ℕ) (before mid : List ℕ) (h : base < length before / 2 ^ k) (f : HalvedTo d s (size * 2 ^ k) (to * 2 ^ k) (from * 2 ^ k) (base * 2 ^ k) before mid) where
  start : base * 2 ^ k < length mid
  start = omega (arith, f.reached.long, (le-div_iff_mul-le (pow_pos k)).0 h, suc-mul base (2 ^ k), pow_pos k)

  pub pair-room : PairRoom (size * 2 ^ k) (to * 2 ^ k) (from * 2 ^ k) (base * 2 ^ k) (length mid)
  pair-room = halved-room d s (size * 2 ^ k) (to * 2 ^ k) (from * 2 ^ k) (base * 2 ^ k) before mid start f

  pub runs-room : RunRoom ((base + to) * 2 ^ k) ((base + from) * 2 ^ k) (size * 2 ^ k) (length mid)
  runs-room =
      let r = pair-room in
      rw (add-mul base to (2 ^ k), add-mul base from (2 ^ k))
      (record { taking = omega (arith, r.pair, r.taking); taken = omega (arith, r.pair, r.taken); apart = r.apart })

  pub runs-more : (after : List ℕ) → RunJoined ((base + to) * 2 ^ k) ((base + from) * 2 ^ k) (size * 2 ^ k) mid after
      → HalvedTo d s (size * 2 ^ k) (to * 2 ^ k) (from * 2 ^ k) ((base + 2 * size) * 2 ^ k) before after
  runs-more after r =
      let n : (base + 2 * size) * 2 ^ k ≡ base * 2 ^ k + size * 2 ^ k + size * 2 ^ k = omega arith in
      rw n (halved-more d s (size * 2 ^ k) (to * 2 ^ k) (from * 2 ^ k) (base * 2 ^ k) before mid start f after (rw (add-mul base to (2 ^ k), add-mul base from (2 ^ k)) at r))

pub runs-all : (d s k size to from base : ℕ) (before after : List ℕ) → length before / 2 ^ k ≤ base
    → HalvedTo d (s + k) (size * 2 ^ k) (to * 2 ^ k) (from * 2 ^ k) (base * 2 ^ k) before after → after ≡ tabulate (length before) (half_step d (s + k) (at before))
runs-all d s k size to from base before after h f =
    let e : length before % 2 ^ k ≡ 0 = multiple-down (suc (s + k)) k (length before) (omega arith) f.whole in
    halved-all d (s + k) (size * 2 ^ k) (to * 2 ^ k) (from * 2 ^ k) (base * 2 ^ k) before after
    (omega (arith, f.reached.long, div-add-mod' (length before) (2 ^ k), mul-le-mul_right (2 ^ k) h)) f
