-- `write_numbers` meets its contract: after each turn the numbers so far are written.
use Rattle.listings.specs.Listing.{tabbed}
use Rattle.writing.proofs.Puts.{put-none, put_then, put-length}
use Rattle.listings.proofs.Lengths.{numbers-next, numbers-room}
use native.Mathlib.Omega.{arith}
use Rattle.writing.proofs.line.write_numbers.Goals as goal

pub loop-x-init : goal.loop-x-init
unfolding tabbed
loop-x-init c = put-none _ _

pub byte-requires : goal.byte-requires
byte-requires c =
    let p = c.loop-x.invariant in
    let a = c.args in
    omega (arith, p.to, put-length p, numbers-room a.numbers.now c.loop-x.x-index c.loop-x-test.true)

pub number-place-requires : goal.number-place-requires
number-place-requires c =
    let p = c.loop-x.invariant in
    let a = c.args in
    let tab = c.byte.ensures in
    omega (arith, p.to, put-length p, tab.to, put-length tab, numbers-room a.numbers.now c.loop-x.x-index c.loop-x-test.true)

pub loop-x-preserved : goal.loop-x-preserved
loop-x-preserved c =
    let a = c.args in
    let h = c.loop-x-test.true in
    let field = put_then c.byte.ensures c.number-place.ensures in
    rw (numbers-next a.numbers.now c.loop-x.x-index h) (put_then c.loop-x.invariant field)
