-- `step` meets its contract: after each turn the places of the runs so far have had the step.
use mathlib.Core.List.{List}
use mathlib.Core.Path.{◌≡◌}
use Prim.Native.Nat.{ℕ, ◌+◌, ◌*◌, ◌/◌, ◌%◌, ◌^◌, ◌<◌}
use native.Mathlib.Nat.{pow-suc, mul-zero}
use native.Mathlib.Numerals.{add-one}
use native.Mathlib.Omega.{arith}
use lib.ListN.{length-replicate}
use lib.Pow.{pow_pos}
use Rattle.std.proofs.Math.Nat.{div-add-mod, mul-lt-mul_of_pos_left}
use Rattle.numbers.proofs.Tables.{get_d-zeros}
use Rattle.expansions.proofs.Kronecker.Runs.{StepAt, step_start, step-next}
use Rattle.kronecker.proofs.step.step.Goals as goal

module _ {i letter size half base : ℕ} {from : ℕ → ℕ} {to : List ℕ} (s : StepAt i letter size half base from to) where
  -- the runs fill the places
  filled : 2 * half * (size / 2 ^ (i + 1)) ≡ size
  filled =
      let w : 2 * half ≡ 2 ^ (i + 1) = rw add-one (omega (arith, s.weight, pow-suc 2 i)) in
      let z : size % 2 ^ (i + 1) ≡ 0 = rw add-one s.whole in
      rw w (omega (arith, div-add-mod size (2 ^ (i + 1)), z))

  -- a run begins at a place
  begins : (run : ℕ) → run < size / 2 ^ (i + 1) → 2 * half * run < size
  begins run h =
      let below : 2 * half * run < 2 * half * (size / 2 ^ (i + 1)) = mul-lt-mul_of_pos_left h (omega (arith, s.weight, pow_pos i)) in
      rw filled at below

next_run : (half run : ℕ) → 2 * half * (run + 1) ≡ 2 * half * run + half + half
next_run half run = omega arith

pub loop-run-init : goal.loop-run-init
loop-run-init c = rw mul-zero (step_start _ _ _ _ _ c.requires.0 c.requires.1 c.requires.2 (length-replicate {A = ℕ} 256 0) (get_d-zeros 256))

pub loop-run-preserved : goal.loop-run-preserved
loop-run-preserved c =
    let s = c.loop-run.invariant in
    rw (next_run _ c.loop-run.run)
    (step-next _ _ _ _ _ _ _ _ (begins s _ c.loop-run-test.true) c.step_run.ensures.to_len s c.step_run.ensures.run_stepped)
