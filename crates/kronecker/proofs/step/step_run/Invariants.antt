use mathlib.Core.Path.{◌≡◌}
use Prim.Native.Nat.{◌+◌, ◌≤◌}
use lib.ListN.{length}
use Rattle.numbers.specs.Bytes.{at}
use Rattle.expansions.specs.Inner.KroneckerWalk.{RunStepped}
use Rattle.kronecker.specs.Letters.{letter_number}
use Rattle.kronecker.proofs.step.step_run.Given as goal

abbrev pub invariant-loop-q : goal.invariant-loop-q
invariant-loop-q l = (l.q ≤ l.half) × (l.base + l.half + l.half ≤ 256) × (length l.to ≡ 256) × RunStepped l.base l.half (letter_number l.letter) l.q (at l.from) (at l.initial.to) (at l.to)
