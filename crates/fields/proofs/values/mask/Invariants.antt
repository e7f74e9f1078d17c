use mathlib.Core.Path.{◌≡◌}
use Prim.Native.Nat.{◌≤◌, ◌<◌, ◌-◌, ◌^◌}
use lib.ListN.{length}
use Rattle.std.specs.Slice.Iter.{iter_rest}
use Rattle.fields.specs.Fields.{mask}
use Rattle.fields.proofs.Numbers.{bits_before}
use Rattle.fields.proofs.values.mask.Given as goal

abbrev pub invariant-loop-b : goal.invariant-loop-b
invariant-loop-b l =
    (length l.field ≤ 8)
    × (length (iter_rest l.b-iterator.iter) ≤ length l.field)
    × (l.bits < 2 ^ (length l.field - length (iter_rest l.b-iterator.iter)))
    × (mask l.m l.field ≡ bits_before l.bits (iter_rest l.b-iterator.iter))
