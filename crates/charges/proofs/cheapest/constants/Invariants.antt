use mathlib.Core.Path.{◌≡◌}
use Prim.Native.Nat.{◌+◌, ◌*◌}
use Rattle.numbers.specs.Bytes.{at}
use Rattle.numbers.specs.Bits.{bit, pack}
use Rattle.numbers.specs.Words.{word, byte}
use Rattle.charges.proofs.cheapest.constants.Given as goal

abbrev pub invariant-loop-output : goal.invariant-loop-output
invariant-loop-output l = l.all ≡ word 8 (λ q. pack l.output (λ p. bit 0 (byte q (at l.rows (l.half * 256 + at l.lanes p)))))
