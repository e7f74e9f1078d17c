-- The rule of all 2,048 entries is one test, which the checker computes; `matches-tabulate` turns it into the equation, and
-- `block_table-entry` (crates/expansions/proofs/BlockTable) reads an entry off it.
use mathlib.Core.Path.{refl}
use Rattle.numbers.specs.Sums.{fold_below}
use Rattle.numbers.specs.Bits.{inside, pack}
use Rattle.numbers.specs.Tests.{only}
use Rattle.algebra.specs.Coefficients.{xor_inside, coefficient}
use Rattle.expansions.specs.BlockTable.{entry, block_table}
use Rattle.numbers.proofs.Tables.{matches, matches-tabulate}
use Rattle.blocks.proofs.block_table.block_table.Goals as goal

pub returns : goal.returns
unfolding fold_below inside only xor_inside coefficient pack entry block_table matches
returns c = matches-tabulate 2048 _ _ refl tt
