-- The loop over the polarities of one M, closed up: w of them are tried, and the block functions of w are held where w is one.
use mathlib.Core.Path.{◌≡◌, sym, ap, ◌∙◌}
use mathlib.Core.List.{List}
use Prim.Native.Nat.{ℕ, suc, ◌+◌, ◌-◌, ◌*◌, ◌^◌, ◌≤◌, ◌<◌}
use native.Mathlib.Numerals.{add-one}
use native.Mathlib.Omega.{arith}
use lib.ListN.{length}
use Rattle.numbers.specs.Bytes.{at}
use Rattle.expansions.specs.Rules.{rule_of}
use Rattle.expansions.specs.Classes.{choices}
use Rattle.expansions.specs.Inner.Answer.{pair_charge, block_charge}
use Rattle.expansions.specs.Split.{gather, spread, outside}
use Rattle.expansions.proofs.Split.{gather-zero, gather-spread, ones-others}
use Rattle.charges.proofs.Held.{held-pair, pair_charge-lt}
use Rattle.pairs.proofs.leader.Leading.{Tried, tried-none, tried-next, tried-all}
use Rattle.lanes.specs.Inner.Lanes.{lanes_under, block_lanes, places_byte}
use Rattle.lanes.specs.Inner.Sizes.{MixedSet}
use Rattle.pairs.specs.Inner.Pairs.{Given, pair_from, led_by, Leads}
use Rattle.lanes.specs.declared.sizes.Sizes.{Sizes}
use Rattle.pairs.specs.declared.leader.Leader.{Leader}

pub record Trying (s : Sizes) (M : ℕ) (f : ℕ → ℕ) (count w : ℕ) (lanes : List ℕ) (l : Leader) : Type 0 where
  pub all : count ≡ 2 ^ (s.n - s.k)
  pub within : w ≤ count
  pub long : length lanes ≡ 8 * 2 ^ (s.n - s.k)
  pub held : w < count → lanes ≡ block_lanes s.n s.k M w f
  pub led : Tried s.class s.family s.n s.k M f w l

pub trying-none : (s : Sizes) (M : ℕ) (f : ℕ → ℕ) (count : ℕ) (lanes : List ℕ) (l : Leader) → count ≡ 2 ^ (s.n - s.k)
    → length lanes ≡ 8 * 2 ^ (s.n - s.k) → lanes ≡ block_lanes s.n s.k M (gather s.n (outside s.n M) 0) f
    → Leads s.class s.family s.n s.k f (M * 2 ^ s.n) l → Trying s M f count 0 lanes l
trying-none s M f count lanes l all long held led =
    record {
      all = all;
      within = omega arith;
      long = long;
      held = λ h. held ∙ ap (λ (w : ℕ). block_lanes s.n s.k M w f) (gather-zero s.n (outside s.n M));
      led = tried-none s.class s.family s.n s.k M f l led;
    }

module _ (s : Sizes) (M : ℕ) (table : List ℕ) (count w : ℕ) (lanes : List ℕ) (l : Leader) (set : MixedSet s M)
    (t : Trying s M (at table) count w lanes l) where
  pub trying-all : count ≤ w → Leads s.class s.family s.n s.k (at table) (suc M * 2 ^ s.n) l
  trying-all h = tried-all s.class s.family s.n s.k M (at table) l set.size w (omega (arith, t.all, t.within)) t.led

  -- one polarity more
  pub trying-next : Given s.n table → w < count → (lanes' : List ℕ) (l' : Leader)
      → l' ≡ led_by (pair_from s (at lanes)) (M * 2 ^ s.n + spread s.n (outside s.n M) w) l
      → length lanes' ≡ length lanes
      → ((g : ℕ → ℕ → ℕ) → suc w < 2 ^ (s.n - s.k) → lanes ≡ lanes_under (s.n - s.k) w g → lanes' ≡ lanes_under (s.n - s.k) (suc w) g)
      → Trying s M (at table) count (w + 1) lanes' l'
  trying-next given h lanes' l' e same next =
      rw (add-one w)
      record {
        all = t.all;
        within = h;
        long = same ∙ t.long;
        held = λ h'. next (places_byte s.n s.k M (at table)) (omega (arith, t.all)) (t.held h);
        led = rw e (tried-next s.class s.family s.n s.k M (at table) l set.size w _ below cost
            (omega (arith, cost, pair_charge-lt s (at table) M i set (λ p q. given.bytes p))) t.led);
      }
    where
      i : ℕ
      i = spread s.n (outside s.n M) w

      below : w < 2 ^ (s.n - s.k)
      below = omega (arith, t.all)

      back : gather s.n (outside s.n M) i ≡ w
      back = gather-spread s.n (outside s.n M) w (rw (ones-others s.n s.k M set.size) below)

      cost : pair_from s (at lanes) ≡ pair_charge s.n s.k (choices s.class s.k) (block_charge s.class (rule_of s.family) s.n s.k (at table) M i)
      cost = held-pair s M i (at table) lanes (λ p q. given.bytes p) set
          (t.held h ∙ ap (λ (x : ℕ). block_lanes s.n s.k M x (at table)) (sym back))
