-- The rule of all 256 entries is one test, which the checker computes, as that of the block table is.
use mathlib.Core.Path.{refl}
use Rattle.numbers.specs.Sums.{fold_below}
use Rattle.numbers.specs.Bits.{inside, pack}
use Rattle.numbers.specs.Tests.{only}
use Rattle.algebra.specs.Terms.{holds, lowest, value}
use Rattle.algebra.specs.Expand.{remainder, by_digit, expand}
use Rattle.expansions.specs.Classes.{own_polarity}
use Rattle.expansions.specs.BlockTable.{own_entry, own_table}
use Rattle.numbers.proofs.Tables.{matches, matches-tabulate}
use Rattle.blocks.proofs.own_table.own_table.Goals as goal

pub returns : goal.returns
unfolding fold_below inside only holds lowest value remainder by_digit expand pack own_polarity own_entry own_table matches
returns c = matches-tabulate 256 _ _ refl tt
