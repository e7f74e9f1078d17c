use mathlib.Core.List.{map}
use lib.ListN.{take}
use Rattle.listings.specs.Listing.{tabbed, decimal}
use Rattle.writing.specs.Put.{Put}
use Rattle.writing.proofs.line.write_numbers.Given as goal

abbrev pub invariant-loop-x : goal.invariant-loop-x
invariant-loop-x l = Put l.initial.out l.initial.place.at (tabbed (map decimal (take l.x-index l.numbers))) l.out l.place.at
