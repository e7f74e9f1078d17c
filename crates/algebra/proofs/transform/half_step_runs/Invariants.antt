use mathlib.Core.Path.{◌≡◌}
use lib.ListN.{length}
use Prim.Native.Nat.{◌+◌, ◌-◌, ◌*◌, ◌/◌, ◌^◌}
use Rattle.std.specs.Int.{from_bool}
use Rattle.algebra.proofs.transform.Halves.{HalvedTo}
use Rattle.algebra.proofs.transform.half_step_runs.Given as goal

abbrev pub invariant-loop-base : goal.invariant-loop-base
invariant-loop-base g l =
    let run = 2 ^ g.row.SHIFT in
    (l.count ≡ length l.initial.bytes / run) × HalvedTo (from_bool l.with) (l.s + g.row.SHIFT) (l.size * run) (l.to * run) (l.from * run) (l.base * run) l.initial.bytes l.bytes

abbrev pub decreases-loop-base : goal.decreases-loop-base
decreases-loop-base g l = l.count - l.base
