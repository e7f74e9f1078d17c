use mathlib.Core.Path.{◌≡◌}
use Prim.Native.Nat.{◌≤◌, ◌<◌, ◌^◌}
use lib.ListN.{length, drop}
use Rattle.fields.specs.Cubes.{cube_said}
use Rattle.fields.proofs.values.Shown.{cube_from}
use Rattle.fields.proofs.values.read_cube.Given as goal

abbrev pub invariant-loop-b : goal.invariant-loop-b
invariant-loop-b l =
    (length l.field ≤ 8)
    × (l.cube.term < 2 ^ l.b-index)
    × (l.cube.complemented < 2 ^ l.b-index)
    × (cube_said l.n l.field ≡ cube_from l.cube.term l.cube.complemented (drop l.b-index l.field))
