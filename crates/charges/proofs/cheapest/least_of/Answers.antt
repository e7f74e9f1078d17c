-- Where the terms of the block choose apart the first least is the lesser of those of the two halves.
use mathlib.Core.Bool.{true, false, cond, not}
use borrow.Author.Tests.{ne_eqb}
use mathlib.Core.Path.{◌≡◌, refl, ap, ◌∙◌}
use Prim.Native.Nat.{ℕ, ◌<◌}
use lib.Dec.{lit<}
use Rattle.numbers.specs.Bytes.{at}
use Rattle.expansions.specs.Classes.{apart}
use Rattle.lanes.proofs.expand.Room.{few}
use Rattle.charges.specs.Inner.Charges.{all_sum}
use Rattle.charges.proofs.cheapest.Used.{first-half}
use Rattle.charges.proofs.cheapest.Choices.{choices-counted-some, choices-counted-le, least-counted, least_zero, least_lt}
use Rattle.charges.proofs.cheapest.least_of.Goals as goal
use Rattle.charges.proofs.cheapest.least_of.Goals.{Then-this-ne0}
use Rattle.charges.proofs.cheapest.least_of.Given.{Over}

-- there are sixteen choices
both : (g : Over) (c : Then-this-ne0 g) → apart c.args.search.now.sizes.class c.args.search.now.sizes.k ≡ true
both g c = c.requires.told ∙ ap not (ne_eqb g.row.APART 0 c.if-this-ne0.true)

second-half : (g : Over) (c : Then-this-ne0 g) → 1 < cond (apart c.args.search.now.sizes.class c.args.search.now.sizes.k) 2 1
second-half g c = rw (both g c) (lit< tt)

pub lesser-requires : goal.lesser-requires
lesser-requires g c =
    let z = c.args.search.now.sizes in
    least_lt 8 (lit< tt) _ _ (c.least_from-last.ensures z.class z.k c.args.search.now.rows_of_class (second-half g (goal.at.lesser-requires g c).Then-this-ne0))

pub returns-then-this-ne0 : goal.returns-then-this-ne0
returns-then-this-ne0 g c =
    let z = c.args.search.now.sizes in
    let start = (goal.at.returns-then-this-ne0 g c).Then-this-ne0 in
    let sums : ℕ → ℕ = all_sum z.class z.k (at c.args.lanes.now) c.args.j in
    let first = least_zero 8 (lit< tt) sums _ (c.least_from-first.ensures z.class z.k c.args.search.now.rows_of_class (first-half z.class z.k)) in
    let last = c.least_from-last.ensures z.class z.k c.args.search.now.rows_of_class (second-half g start) in
    rw (both g start) (c.lesser.ensures sums first last)

pub least_from-requires : goal.least_from-requires
least_from-requires g c =
    let h = few c.args.search.now.sizes in
    (lit< tt, choices-counted-some c.args.search.now.sizes.k h, choices-counted-le c.args.search.now.sizes.k h, c.requires.block.0, c.requires.block.1)

pub returns : goal.returns
returns g c =
    let z = c.args.search.now.sizes in
    let one-half : apart z.class z.k ≡ false = c.requires.told ∙ rw c.if-this-ne0.false refl in
    let sums : ℕ → ℕ = all_sum z.class z.k (at c.args.lanes.now) c.args.j in
    rw one-half (least-counted z.k (few z) sums _ (c.least_from.ensures z.class z.k c.args.search.now.rows_of_class (first-half z.class z.k)))
