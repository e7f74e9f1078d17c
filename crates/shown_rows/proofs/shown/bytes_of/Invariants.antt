use Rattle.numbers.specs.Bytes.{at}
use Rattle.numbers.proofs.Bytes.{Filled}
use Prim.Native.Nat.{◌/◌, ◌%◌, ◌^◌}
use Rattle.shown_rows.proofs.shown.bytes_of.Given as goal

abbrev pub invariant-loop-t : goal.invariant-loop-t
invariant-loop-t l = Filled (λ u. at l.rows u / 2 ^ l.shift % 256) l.t l.initial.bytes l.bytes
