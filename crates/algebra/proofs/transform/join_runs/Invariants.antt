use Prim.Native.Nat.{◌*◌, ◌^◌}
use Rattle.algebra.specs.Inner.Steps.{RunJoined}
use Rattle.algebra.proofs.transform.join_runs.Given as goal

abbrev pub invariant-loop-q : goal.invariant-loop-q
invariant-loop-q g l = RunJoined (l.to * 2 ^ g.row.SHIFT) (l.from * 2 ^ g.row.SHIFT) (l.q * 2 ^ g.row.SHIFT) l.initial.bytes l.bytes
