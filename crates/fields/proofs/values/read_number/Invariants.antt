use mathlib.Core.Path.{◌≡◌}
use Prim.Native.Nat.{◌≤◌, ◌<◌, ◌^◌}
use lib.ListN.{length, drop}
use Rattle.fields.specs.Fields.{number, digits_from}
use Rattle.fields.proofs.values.read_number.Given as goal

abbrev pub invariant-loop-b : goal.invariant-loop-b
invariant-loop-b l = (length l.field ≤ 4) × (l.value < 10 ^ l.b-index) × (number l.most l.field ≡ digits_from l.value (drop l.b-index l.field))
