use mathlib.Core.Path.{◌≡◌}
use Prim.Native.Nat.{◌+◌}
use Rattle.numbers.specs.Bytes.{at}
use Rattle.numbers.specs.Bits.{bit, pack}
use Rattle.numbers.specs.Words.{word}
use Rattle.lanes.proofs.expand.lane_word.Given as goal

abbrev pub invariant-loop-p : goal.invariant-loop-p
invariant-loop-p l = l.all ≡ word 8 (λ o. pack l.p (λ x. bit o (at l.table (l.point + at l.offsets x))))
