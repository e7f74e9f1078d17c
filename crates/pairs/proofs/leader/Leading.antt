-- The leader of the pairs tried so far, past a run of numbers that are no pairs (`leads-to`, `leads-other`). For one M the pairs in ascending
-- order are those of the polarities 0, 1, .. of the inputs outside M, closed up (`tried-none`, `tried-next`, `tried-all`).
use mathlib.Core.Path.{◌≡◌, refl, sym, ap₂, ◌∙◌, subst}
use mathlib.Core.Bool.{Bool, true, false, cond, not}
use Prim.Native.Nat.{ℕ, zero, suc, ◌+◌, ◌-◌, ◌*◌, ◌%◌, ◌^◌, ◌≤◌, ◌<◌}
use native.Mathlib.Nat.{add-zero, add-suc, suc-mul, lt_of_lt_of_le, mul-le-mul}
use native.Mathlib.Omega.{arith}
use borrow.Author.Tests.{lt-ltb, le-ltb}
use lib.Count.{ones_in}
use lib.Dec.{T, ltb, ltb→lt, nltb→le}
use lib.Pow.{high, low, shl_exact, pow_mono}
use lib.Arith.{digits_lt}
use Rattle.numbers.proofs.Tests.{same_test}
use Rattle.expansions.specs.declared.kinds.Class.{Class}
use Rattle.expansions.specs.declared.families.Family.{Family}
use Rattle.expansions.specs.Rules.{rule_of}
use Rattle.expansions.specs.Least.{first_least}
use Rattle.expansions.specs.Classes.{choices}
use Rattle.expansions.specs.Inner.Answer.{valid_pair, pair_charge, block_charge}
use Rattle.expansions.specs.Split.{gather, spread, outside}
use Rattle.expansions.proofs.Least.{leading-skip, leading-take, leading-keep}
use Rattle.expansions.proofs.Masks.{valid-from, valid-size, valid-clear}
use Rattle.expansions.proofs.Ascending.{spread-less, gather-spread-outside, gather-above, spread-above}
use Rattle.expansions.proofs.Split.{ones-others, spread-lt}
use Rattle.lanes.proofs.expand.Held.{fixed-lt}
use Rattle.pairs.specs.Inner.Pairs.{Leads, led_by, pair_valid, pair_cost}
use Rattle.pairs.specs.declared.leader.Leader.{Leader}

pub leads-none : (C : Class) (F : Family) (n k : ℕ) (f : ℕ → ℕ) → Leads C F n k f 0 (record { charge = 4294967295; pair = 0 })
unfolding first_least
leads-none C F n k f = refl

-- the number of a pair tells the pair
pair-valid : (n k M i : ℕ) → i < 2 ^ n → pair_valid n k (M * 2 ^ n + i) ≡ valid_pair n k M i
pair-valid n k M i h = ap₂ (valid_pair n k) (high M n h) (low M n h)

pair-cost : (C : Class) (F : Family) (n k M i : ℕ) (f : ℕ → ℕ) → i < 2 ^ n → pair_cost C F n k f (M * 2 ^ n + i) ≡ pair_charge n k (choices C k) (block_charge C (rule_of F) n k f M i)
pair-cost C F n k M i f h = ap₂ (λ (x y : ℕ). pair_charge n k (choices C k) (block_charge C (rule_of F) n k f x y)) (high M n h) (low M n h)

-- a run of d numbers that are no pairs
leads-run : (C : Class) (F : Family) (n k M a d : ℕ) (f : ℕ → ℕ) (l : Leader) → a + d ≤ 2 ^ n → ((i : ℕ) → a ≤ i → i < a + d → T (valid_pair n k M i) → ⊥)
    → Leads C F n k f (M * 2 ^ n + a) l → Leads C F n k f (M * 2 ^ n + (a + d)) l
leads-run C F n k M a zero f l h z b = rw (add-zero a) b
leads-run C F n k M a (suc d) f l h z b =
    let none = same_test (valid_pair n k M (a + d)) false (z (a + d) (omega arith) (omega arith)) (λ t. absurd t) in
    rw (add-suc a d, add-suc (M * 2 ^ n) (a + d))
    (leading-skip 4294967295 (pair_valid n k) (pair_cost C F n k f) (M * 2 ^ n + (a + d)) l.charge l.pair
    (leads-run C F n k M a d f l (omega arith) (λ i p q. z i p (omega arith)) b) (pair-valid n k M (a + d) (omega arith) ∙ none))

-- no pair from a up to b
leads-to : (C : Class) (F : Family) (n k M a b : ℕ) (f : ℕ → ℕ) (l : Leader) → a ≤ b → b ≤ 2 ^ n → ((i : ℕ) → a ≤ i → i < b → T (valid_pair n k M i) → ⊥)
    → Leads C F n k f (M * 2 ^ n + a) l → Leads C F n k f (M * 2 ^ n + b) l
leads-to C F n k M a b f l h q z led =
    let e : a + (b - a) ≡ b = omega arith in
    rw e at (leads-run C F n k M a (b - a) f l (omega arith) (λ i p r. z i p (omega arith)) led)

-- no pair has M where M has another number of inputs
pub leads-other : (C : Class) (F : Family) (n k M : ℕ) (f : ℕ → ℕ) (l : Leader) → (ones_in n M ≡ k → ⊥) → Leads C F n k f (M * 2 ^ n) l → Leads C F n k f (suc M * 2 ^ n) l
leads-other C F n k M f l z b =
    let e : suc M * 2 ^ n ≡ M * 2 ^ n + 2 ^ n = omega (arith, suc-mul M (2 ^ n)) in
    rw e (leads-to C F n k M 0 (2 ^ n) f l (omega arith) (omega arith) (λ i p q t. z (valid-size n k M i t)) (rw (add-zero (M * 2 ^ n)) b))

-- ---- the pairs of one M

-- the first i past those of the polarities below w
abbrev pub past : (n M w : ℕ) → ℕ
past n M zero = 0
past n M (suc w) = suc (spread n (outside n M) w)

-- the leader of the pairs of a lower M, and of those of M with a polarity below w
abbrev pub Tried : (C : Class) (F : Family) (n k M : ℕ) → (ℕ → ℕ) → ℕ → Leader → Type 0
Tried C F n k M f w l = Leads C F n k f (M * 2 ^ n + past n M w) l

module _ (C : Class) (F : Family) (n k M : ℕ) (f : ℕ → ℕ) (l : Leader) where
  pub tried-none : Leads C F n k f (M * 2 ^ n) l → Tried C F n k M f 0 l
  tried-none b = rw (add-zero (M * 2 ^ n)) b

  module _ (size : ones_in n M ≡ k) where
    -- from there on the pairs are those of w or a greater polarity
    left : (w i : ℕ) → w ≤ 2 ^ (n - k) → past n M w ≤ i → i < 2 ^ n → T (valid_pair n k M i) → w ≤ gather n (outside n M) i
    left zero i h p q t = omega arith
    left (suc w) i h p q t = gather-above n M w i q (valid-clear n k M i t) (rw (ones-others n k M size) h) p

    past-le : (w : ℕ) → w < 2 ^ (n - k) → past n M w ≤ spread n (outside n M) w
    past-le zero h = omega arith
    past-le (suc w) h = spread-less n (outside n M) w (suc w) (omega arith) (rw (ones-others n k M size) h)

    past_end : (w : ℕ) → past n M w ≤ 2 ^ n
    past_end zero = omega arith
    past_end (suc w) = spread-lt n (outside n M) w

    pub tried-all : (w : ℕ) → w ≡ 2 ^ (n - k) → Tried C F n k M f w l → Leads C F n k f (suc M * 2 ^ n) l
    tried-all w e b =
        let next : suc M * 2 ^ n ≡ M * 2 ^ n + 2 ^ n = omega (arith, suc-mul M (2 ^ n)) in
        rw next
        (leads-to C F n k M (past n M w) (2 ^ n) f l (past_end w) (omega arith)
        (λ i p q t. omega (arith, left w i (omega arith) p q t, fixed-lt n k M i size)) b)

    -- one pair more, of the charge c
    module _ (w c : ℕ) (h : w < 2 ^ (n - k)) (cost : c ≡ pair_charge n k (choices C k) (block_charge C (rule_of F) n k f M (spread n (outside n M) w)))
        (bound : c < 4294967295) (b : Tried C F n k M f w l) where
      led : Leads C F n k f (M * 2 ^ n + spread n (outside n M) w) l
      led =
          leads-to C F n k M (past n M w) (spread n (outside n M) w) f l (past-le w h) (omega (arith, spread-lt n (outside n M) w))
          (λ i p q t. let q' : i < 2 ^ n = omega (arith, spread-lt n (outside n M) w) in
          omega (arith, spread-above n M w i q' (valid-clear n k M i t) (left w i (omega arith) p q' t))) b

      pub tried-next : Tried C F n k M f (suc w) (led_by c (M * 2 ^ n + spread n (outside n M) w) l)
      unfolding led_by
      tried-next = rw (add-suc (M * 2 ^ n) (spread n (outside n M) w)) (go (ltb c l.charge) refl)
        where
          i : ℕ
          i = spread n (outside n M) w

          is-pair : pair_valid n k (M * 2 ^ n + i) ≡ true
          is-pair = pair-valid n k M i (spread-lt n (outside n M) w)
              ∙ same_test _ true (λ t. tt) (λ t. valid-from n k M i size (gather-spread-outside n M w))

          its-cost : c ≡ pair_cost C F n k f (M * 2 ^ n + i)
          its-cost = cost ∙ sym (pair-cost C F n k M i f (spread-lt n (outside n M) w))

          go : (t : Bool) → ltb c l.charge ≡ t
              → Leads C F n k f (suc (M * 2 ^ n + i)) (cond t (record { charge = c; pair = M * 2 ^ n + i }) l)
          go true e =
              leading-take 4294967295 (pair_valid n k) (pair_cost C F n k f) (M * 2 ^ n + i) l.charge l.pair led c is-pair its-cost
              (ltb→lt c l.charge (subst T (sym e) tt))
          go false e =
              leading-keep 4294967295 (pair_valid n k) (pair_cost C F n k f) (M * 2 ^ n + i) l.charge l.pair led c is-pair its-cost bound
              (nltb→le c l.charge (subst (λ (x : Bool). T (not x)) (sym e) tt))

-- ---- the number of a pair, as the code computes it

pub pair-shifted : (n M : ℕ) → n ≤ 8 → M < 2 ^ n → M * 2 ^ n % 2 ^ 64 ≡ M * 2 ^ n
pair-shifted n M h l = shl_exact n n 64 l (omega arith)

pub pair_lt : (n M i : ℕ) → n ≤ 8 → M < 2 ^ n → i < 2 ^ n → M * 2 ^ n + i < 65536
pair_lt n M i h l k = lt_of_lt_of_le (digits_lt l k) (mul-le-mul (pow_mono h) (pow_mono h))

-- ---- the leader once a pair is tried

module _ (c c' : ℕ) (l : Leader) (e : c ≡ c') where
  pub led-take : (x x' : ℕ) → x ≡ x' → c < l.charge → record { charge = c; pair = x } ≡ led_by c' x' l
  unfolding led_by
  led-take x x' q h = rw (← e, ← q, lt-ltb c l.charge h)

  pub led-keep : (x : ℕ) → l.charge ≤ c → l ≡ led_by c' x l
  unfolding led_by
  led-keep x h = rw (← e, le-ltb c l.charge h)
