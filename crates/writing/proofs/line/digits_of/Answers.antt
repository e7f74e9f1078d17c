-- `digits_of` meets its contract: after each turn the digits of the numbers so far are counted, four at most of each.
use mathlib.Core.Path.{refl}
use lib.ListN.{take, get_or}
use lib.Seq.{length-take-le}
use native.Mathlib.Omega.{arith}
use Rattle.listings.specs.Inner.Lengths.{digits_of}
use Rattle.listings.proofs.Characters.{digit_count-in}
use Rattle.listings.proofs.Lengths.{digits_of-le, digits_of-next}
use Rattle.writing.proofs.line.digits_of.Goals as goal

pub loop-x-init : goal.loop-x-init
unfolding digits_of
loop-x-init c = refl

pub overflow_add-digits : goal.overflow_add-digits
overflow_add-digits c =
    let xs = c.args.numbers.now in
    let j = c.loop-x.x-index in
    omega (arith, digits_of-le (take j xs), length-take-le j xs (omega arith), digit_count-in (get_or xs j 0), c.digit_count-digits.ensures)

pub loop-x-preserved : goal.loop-x-preserved
loop-x-preserved c =
    omega (arith, digits_of-next c.args.numbers.now c.loop-x.x-index c.loop-x-test.true, c.digit_count-digits.ensures)
