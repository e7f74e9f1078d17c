use mathlib.Core.Path.{◌≡◌}
use lib.ListN.{take}
use Rattle.listings.specs.Inner.Lengths.{digits_of}
use Rattle.writing.proofs.line.digits_of.Given as goal

abbrev pub invariant-loop-x : goal.invariant-loop-x
invariant-loop-x l = l.digits ≡ digits_of (take l.x-index l.numbers)
