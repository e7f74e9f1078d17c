-- The loops over weights, in the code's terms: the weights of one more input (`weighed-more`), and the weights of the two halves and of
-- their exclusive OR (`halves-more`).
use mathlib.Core.Path.{◌≡◌, refl, sym, ap, ap₂, ◌∙◌}
use mathlib.Core.List.{List}
use Prim.Native.Nat.{ℕ, ◌+◌, ◌*◌, ◌%◌, ◌^◌, ◌≤◌, ◌<◌}
use native.Mathlib.Decide.{ℕ_discrete}
use native.Mathlib.Numerals.{add-one}
use native.Mathlib.Omega.{arith}
use lib.Bits.{bit_xor}
use lib.ListN.{length, set, length-set}
use lib.Pow.{pow_mono}
use Rattle.numbers.specs.Bytes.{at}
use Rattle.numbers.specs.Sums.{fold_below}
use lib.Seq.{get_or-set_same, get_or-set_other}
use Rattle.numbers.proofs.Shifts.{one_shifted}
use Rattle.expansions.specs.Costs.{counted}
use Rattle.expansions.proofs.Counted.{counted-le}
use Rattle.expansions.specs.Inner.KroneckerWalk.{Light, Weighed, weight_of, Halves}

-- ---- the weights of one more input

pub record WeighedTo (i more half s : ℕ) (weights : ℕ → ℕ) (next : List ℕ) : Type 0 where
  pub input : i < 7
  pub few : more ≤ 1
  pub light : Light (2 ^ i) weights
  pub size : half ≡ 2 ^ i
  pub room : half + half ≤ 128
  pub within : s ≤ half
  pub long : length next ≡ 128
  pub absent : (x : ℕ) → x < s → at next x ≡ weights x + more
  pub present : (x : ℕ) → x < s → at next (x + half) ≡ weights x + 1

half_le : (i half k : ℕ) → i ≤ k → half ≡ 2 ^ i → half ≤ 2 ^ k
half_le i half k h e = omega (arith, e, pow_mono h)

pub weighed-none : (i more : ℕ) (weights : ℕ → ℕ) (next : List ℕ) → i < 7 → more ≤ 1 → Light (2 ^ i) weights → length next ≡ 128
    → WeighedTo i more (1 * 2 ^ i % 2 ^ 64) 0 weights next
weighed-none i more weights next h m l long =
    record {
      input = h;
      few = m;
      light = l;
      size = one_shifted i (omega arith);
      room = omega (arith, half_le i (1 * 2 ^ i % 2 ^ 64) 6 (omega arith) (one_shifted i (omega arith)));
      within = omega arith;
      long = long;
      absent = λ x k. absurd (omega arith);
      present = λ x k. absurd (omega arith);
    }

-- one more literal fits
pub weighed-fit : (i more half s : ℕ) (weights : ℕ → ℕ) (next : List ℕ) → s < half → WeighedTo i more half s weights next → weights s ≤ 8192
weighed-fit i more half s weights next h w = w.light s (omega (arith, w.size))

pub weighed-more : (i more half s : ℕ) (weights : ℕ → ℕ) (next : List ℕ) → s < half → WeighedTo i more half s weights next
    → WeighedTo i more half (s + 1) weights (set (set next s (weights s + more)) (s + half) (weights s + 1))
weighed-more i more half s weights next h w =
    record {
      input = w.input;
      few = w.few;
      light = w.light;
      size = w.size;
      room = w.room;
      within = omega arith;
      long = length-set inner (s + half) (weights s + 1) ∙ length-set next s (weights s + more) ∙ w.long;
      absent = λ x k. lower x k (ℕ_discrete x s);
      present = λ x k. upper x k (ℕ_discrete x s);
    }
  where
    inner : List ℕ
    inner = set next s (weights s + more)

    lower : (x : ℕ) → x < s + 1 → Dec (x ≡ s) → at (set inner (s + half) (weights s + 1)) x ≡ weights x + more
    lower x k (yes e) =
        rw e (get_or-set_other inner (s + half) s (weights s + 1) 0 (omega arith) ∙ get_or-set_same next s (weights s + more) 0 (omega (arith, w.room, w.long)))
    lower x k (no n) =
        get_or-set_other inner (s + half) x (weights s + 1) 0 (omega arith) ∙ get_or-set_other next s x (weights s + more) 0 n ∙ w.absent x (omega arith)

    upper : (x : ℕ) → x < s + 1 → Dec (x ≡ s) → at (set inner (s + half) (weights s + 1)) (x + half) ≡ weights x + 1
    upper x k (yes e) = rw e (get_or-set_same inner (s + half) (weights s + 1) 0 (omega (arith, w.room, w.long, length-set next s (weights s + more))))
    upper x k (no n) =
        get_or-set_other inner (s + half) (x + half) (weights s + 1) 0 (omega arith) ∙ get_or-set_other next s (x + half) (weights s + more) 0 (omega arith)
        ∙ w.present x (omega arith)

pub weighed-all : (i more half s : ℕ) (weights : ℕ → ℕ) (next : List ℕ) → half ≤ s → WeighedTo i more half s weights next → Weighed i more weights (at next)
weighed-all i more half s weights next h w =
    record {
      absent = λ x k. w.absent x (omega (arith, w.size));
      present = λ x k. ap (λ (y : ℕ). at next (x + y)) (sym w.size) ∙ w.present x (omega (arith, w.size));
    }

-- ---- the weights of the two halves

-- the first s places of each half have been weighed
pub record HalvesTo (m half s : ℕ) (values weights : ℕ → ℕ) (lower upper both : ℕ) : Type 0 where
  pub input : m < 8
  pub light : Light (2 ^ m) weights
  pub size : half ≡ 2 ^ m
  pub room : half ≤ 128
  pub within : s ≤ half
  pub lower_is : lower ≡ weight_of s weights values
  pub upper_is : upper ≡ weight_of s weights (λ x. values (x + half))
  pub both_is : both ≡ weight_of s weights (λ x. bit_xor (values x) (values (x + half)))
  pub lower_le : lower ≤ s * 8192
  pub upper_le : upper ≤ s * 8192
  pub both_le : both ≤ s * 8192

pub halves-none : (m : ℕ) (values weights : ℕ → ℕ) → m < 8 → Light (2 ^ m) weights → HalvesTo m (1 * 2 ^ m % 2 ^ 64) 0 values weights 0 0 0
unfolding weight_of fold_below
halves-none m values weights h l =
    record {
      input = h;
      light = l;
      size = one_shifted m (omega arith);
      room = half_le m (1 * 2 ^ m % 2 ^ 64) 7 (omega arith) (one_shifted m (omega arith));
      within = omega arith;
      lower_is = refl;
      upper_is = refl;
      both_is = refl;
      lower_le = omega arith;
      upper_le = omega arith;
      both_le = omega arith;
    }

-- each term adds at most 8,192
counted-light : (m half s : ℕ) (weights : ℕ → ℕ) → Light (2 ^ m) weights → half ≡ 2 ^ m → s < half → (c : ℕ) → counted c (weights s) ≤ 8192
counted-light m half s weights l e h c = counted-le c (weights s) 8192 (l s (omega (arith, e)))

weight-more : (s x y : ℕ) (weights c : ℕ → ℕ) → x ≡ weight_of s weights c → y ≡ counted (c s) (weights s) → x + y ≡ weight_of (s + 1) weights c
unfolding weight_of fold_below
weight-more s x y weights c e f = rw (add-one s) (ap₂ ◌+◌ e f)

-- so the sums stay small
pub halves-fit : (m half s : ℕ) (values weights : ℕ → ℕ) (lower upper both : ℕ) → s < half → HalvesTo m half s values weights lower upper both
    → (c a : ℕ) → a ≡ counted c (weights s) → (lower + a ≤ 1048576) × (upper + a ≤ 1048576) × (both + a ≤ 1048576)
halves-fit m half s values weights lower upper both h w c a e =
    let most : a ≤ 8192 = omega (arith, e, counted-light m half s weights w.light w.size h c) in
    let room : s * 8192 + 8192 ≤ 1048576 = omega (arith, w.room) in (
      omega (arith, w.lower_le, most, room),
      omega (arith, w.upper_le, most, room),
      omega (arith, w.both_le, most, room),
    )

pub halves-more : (m half s : ℕ) (values weights : ℕ → ℕ) (lower upper both a b d : ℕ) → s < half → HalvesTo m half s values weights lower upper both
    → a ≡ counted (values s) (weights s) → b ≡ counted (values (s + half)) (weights s) → d ≡ counted (bit_xor (values s) (values (s + half))) (weights s)
    → HalvesTo m half (s + 1) values weights (lower + a) (upper + b) (both + d)
halves-more m half s values weights lower upper both a b d h w ea eb ed =
    record {
      input = w.input;
      light = w.light;
      size = w.size;
      room = w.room;
      within = omega arith;
      lower_is = weight-more s lower a weights values w.lower_is ea;
      upper_is = weight-more s upper b weights (λ x. values (x + half)) w.upper_is eb;
      both_is = weight-more s both d weights (λ x. bit_xor (values x) (values (x + half))) w.both_is ed;
      lower_le = omega (arith, w.lower_le, ea, counted-light m half s weights w.light w.size h (values s));
      upper_le = omega (arith, w.upper_le, eb, counted-light m half s weights w.light w.size h (values (s + half)));
      both_le = omega (arith, w.both_le, ed, counted-light m half s weights w.light w.size h (bit_xor (values s) (values (s + half))));
    }

pub halves-all : (m half s : ℕ) (values weights : ℕ → ℕ) (lower upper both : ℕ) → half ≤ s → HalvesTo m half s values weights lower upper both
    → Halves m values weights lower upper both
halves-all m half s values weights lower upper both h w =
    let e : s ≡ 2 ^ m = omega (arith, w.size, w.within) in
    record {
      lower_is = w.lower_is ∙ ap (λ (y : ℕ). weight_of y weights values) e;
      upper_is = w.upper_is ∙ ap₂ (λ (y z : ℕ). weight_of y weights (λ x. values (x + z))) e w.size;
      both_is = w.both_is ∙ ap₂ (λ (y z : ℕ). weight_of y weights (λ x. bit_xor (values x) (values (x + z)))) e w.size;
      lower_le = omega (arith, w.lower_le, w.room, w.within);
      upper_le = omega (arith, w.upper_le, w.room, w.within);
      both_le = omega (arith, w.both_le, w.room, w.within);
    }
