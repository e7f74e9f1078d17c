-- Steps for one input after the other, in place: what the loops of `join_inside` and `turn_inputs` hold.
use mathlib.Core.Path.{◌≡◌, refl, ap, ◌∙◌}
use mathlib.Core.List.{List}
use Prim.Native.Nat.{ℕ, zero, suc, ◌+◌, ◌%◌, ◌^◌, ◌≤◌, ◌<◌}
use native.Mathlib.Omega.{arith}
use native.Mathlib.Numerals.{add-one}
use lib.ListN.{length}
use Rattle.numbers.specs.Bytes.{at, tabulate}
use Rattle.numbers.proofs.Bytes.{length-tabulate, at-tabulate, is-table, tabulate-ext}
use Rattle.numbers.proofs.Multiples.{multiple-down}
use Rattle.algebra.specs.Inner.Steps.{half_step, turned_where, all_steps}
use Rattle.algebra.proofs.HalfSteps.{Below}

-- bytes are the table of what they hold
pub table-self : (b : List ℕ) → b ≡ tabulate (length b) (at b)
table-self b = is-table (length b) (at b) b refl (λ t h. refl)

-- the steps for the inputs below s have been done
pub record SteppedTo (step : ℕ → (ℕ → ℕ) → ℕ → ℕ) (low n s : ℕ) (before after : List ℕ) : Type 0 where
  pub lows : low ≤ 8
  pub inputs : n ≤ 8
  pub within : s ≤ n
  pub whole : length before % 2 ^ (low + n) ≡ 0
  pub reached : after ≡ tabulate (length before) (all_steps step s (at before))

module _ (step : ℕ → (ℕ → ℕ) → ℕ → ℕ) (low n : ℕ) (before : List ℕ) where
  pub stepped-none : (low ≤ 8) × (n ≤ 8) × (length before % 2 ^ (low + n) ≡ 0) → SteppedTo step low n 0 before before
  unfolding all_steps
  stepped-none (h, l, e) = record { lows = h; inputs = l; within = omega arith; whole = e; reached = table-self before }

  pub stepped-long : (s : ℕ) (after : List ℕ) → SteppedTo step low n s before after → length after ≡ length before
  stepped-long s after f = ap length f.reached ∙ length-tabulate (length before) _

  pub stepped-ready : (s : ℕ) (after : List ℕ) → s < n → SteppedTo step low n s before after → (low + s < 16) × (length after % 2 ^ suc (low + s) ≡ 0)
  stepped-ready s after h f =
      (omega (arith, f.lows, f.inputs), rw (stepped-long s after f) (multiple-down (low + n) (suc (low + s)) (length before) (omega arith) f.whole))

  pub stepped-more : (s : ℕ) (mid after : List ℕ) → s < n → (length before % 2 ^ suc (low + s) ≡ 0 → Below (length before) (step s))
      → SteppedTo step low n s before mid → after ≡ tabulate (length mid) (step s (at mid)) → SteppedTo step low n (s + 1) before after
  unfolding all_steps
  stepped-more s mid after h b f e =
      let same : (x : ℕ) → x < length before → at mid x ≡ all_steps step s (at before) x =
      λ x l. ap (λ (c : List ℕ). at c x) f.reached ∙ at-tabulate (length before) _ x l in
      let below = b (multiple-down (low + n) (suc (low + s)) (length before) (omega arith) f.whole) in
      record {
        lows = f.lows;
        inputs = f.inputs;
        within = omega arith;
        whole = f.whole;
        reached = e ∙ rw (stepped-long s mid f, add-one s) (tabulate-ext (length before) _ _ (below (at mid) (all_steps step s (at before)) same));
      }

-- ---- by a digit

pub turned_none : (d s : ℕ) (b : List ℕ) → d ≡ 0 → b ≡ tabulate (length b) (turned_where d s (at b))
unfolding turned_where
turned_none d s b e = rw e (table-self b)

pub turned-one : (d s : ℕ) (b c : List ℕ) → (d ≡ 0 → ⊥) → c ≡ tabulate (length b) (half_step 0 s (at b)) → c ≡ tabulate (length b) (turned_where d s (at b))
unfolding turned_where
turned-one zero s b c h e = absurd (h refl)
turned-one (suc d) s b c h e = e
