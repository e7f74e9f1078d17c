use lib.Bits.{bit_xor}
use Rattle.numbers.specs.Bytes.{at}
use Rattle.numbers.proofs.Bytes.{Filled}
use Rattle.algebra.proofs.transform.move_points.Given as goal

abbrev pub invariant-loop-q : goal.invariant-loop-q
invariant-loop-q l = Filled (λ x. at l.given (bit_xor x l.w)) l.q l.initial.moved l.moved
