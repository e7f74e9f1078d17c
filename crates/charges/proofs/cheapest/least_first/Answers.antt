-- Where the terms of the block choose apart the first least is the lesser of those of the two halves.
use mathlib.Core.Bool.{cond}
use mathlib.Core.Path.{sym, ◌∙◌}
use Prim.Native.Nat.{◌<◌}
use lib.Dec.{lit<}
use Rattle.numbers.specs.Bytes.{at}
use Rattle.expansions.specs.Classes.{apart}
use Rattle.lanes.proofs.expand.Room.{few}
use Rattle.charges.specs.Inner.Charges.{masked_sum}
use Rattle.charges.proofs.cheapest.Used.{first-half}
use Rattle.charges.proofs.cheapest.Choices.{choices-counted-some, choices-counted-le, least-counted, least_zero, least_lt}
use Rattle.charges.proofs.cheapest.least_first.Goals as goal
use Rattle.charges.proofs.cheapest.least_first.Goals.{Then-apart}

-- and has sixteen choices
second-half : (c : Then-apart) → let a = c.args.search.now.sizes in 1 < cond (apart a.class a.k) 2 1
second-half c = rw (sym c.apart.ensures ∙ c.if-apart.true) (lit< tt)

pub lesser-requires : goal.lesser-requires
lesser-requires c =
    let z = c.args.search.now.sizes in
    least_lt 8 (lit< tt) _ _ (c.least_first_from-high.ensures z.class z.k c.args.search.now.rows_of_class (second-half (goal.at.lesser-requires c).Then-apart))

pub returns-then-apart : goal.returns-then-apart
returns-then-apart c =
    let z = c.args.search.now.sizes in
    let sums = masked_sum z.class z.k (at c.args.lanes.now) in
    let low = least_zero 8 (lit< tt) sums _ (c.least_first_from-low.ensures z.class z.k c.args.search.now.rows_of_class (first-half z.class z.k)) in
    let high = c.least_first_from-high.ensures z.class z.k c.args.search.now.rows_of_class (second-half (goal.at.returns-then-apart c).Then-apart) in
    rw (sym c.apart.ensures ∙ c.if-apart.true) (c.lesser.ensures sums low high)

pub least_first_from-requires : goal.least_first_from-requires
least_first_from-requires c =
    let h = few c.args.search.now.sizes in
    (lit< tt, choices-counted-some c.args.search.now.sizes.k h, choices-counted-le c.args.search.now.sizes.k h, c.requires)

pub returns : goal.returns
returns c =
    let z = c.args.search.now.sizes in
    let sums = masked_sum z.class z.k (at c.args.lanes.now) in
    rw (sym c.apart.ensures ∙ c.if-apart.false)
    (least-counted z.k (few z) sums _ (c.least_first_from.ensures z.class z.k c.args.search.now.rows_of_class (first-half z.class z.k)))
