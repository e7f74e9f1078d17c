-- `half_step_runs` meets its contract: the half step has been done in the runs below base.
use mathlib.Core.Path.{◌≡◌, refl}
use mathlib.Core.Bool.{Bool, true, false, not}
use Prim.Native.Nat.{◌-◌, ◌<◌}
use native.Mathlib.Omega.{arith}
use lib.Dec.{lit<}
use Rattle.std.specs.Int.{from_bool}
use Rattle.algebra.proofs.transform.Halves.{runs-none, runs-room, runs-more, runs-all}
use Rattle.algebra.proofs.transform.half_step_runs.Goals as goal

-- a flag as a digit, and the other one
digit : (b : Bool) → from_bool b < 2
digit true = lit< tt
digit false = lit< tt

other : (b : Bool) → from_bool (not b) ≡ 1 - from_bool b
other true = refl
other false = refl

pub loop-base-init : goal.loop-base-init
loop-base-init g c =
    let with = c.args.with in
    (refl, rw (c.from.ensures, c.from-2.ensures) (runs-none (from_bool with) _ _ _ _ (digit with) (other with) c.requires.1 c.requires.2))

pub join_runs-requires : goal.join_runs-requires
join_runs-requires g c = (c.requires.0, runs-room _ _ _ _ _ _ _ _ _ (omega arith) c.loop-base.invariant.1)

pub loop-base-preserved : goal.loop-base-preserved
loop-base-preserved g c = (c.loop-base.invariant.0, runs-more _ _ _ _ _ _ _ _ _ (omega arith) c.loop-base.invariant.1 _ c.join_runs.ensures)

pub returns : goal.returns
returns g c = runs-all _ _ _ _ _ _ _ _ _ (omega arith) c.loop-base.invariant.1
