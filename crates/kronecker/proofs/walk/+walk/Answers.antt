-- The walk meets its contract: the inputs left fall at each call, and the three places that follow a place have its kinds between them.
use mathlib.Core.Path.{◌≡◌}
use Prim.Native.Nat.{suc, ◌+◌, ◌<◌}
use native.Mathlib.Omega.{arith}
use Rattle.expansions.proofs.Kronecker.Walking.{place-light, step_fits, place-shannon, place-positive, place-negative, walked-three}
use Rattle.kronecker.specs.Letters.{letter_number}
use Rattle.kronecker.proofs.walk.+walk.Goals as goal

pub returns-then-i-n : goal.returns-then-i-n
returns-then-i-n t c = let e : suc c.args.i ≡ c.args.n = omega (arith, c.if-i-n.true) in rw e at c.try_last.ensures

pub weigh-every-requires : goal.weigh-every-requires
weigh-every-requires t c =
    let a = c.requires.1 in
    let more : c.args.i + 1 < c.args.n = omega (arith, a.depth, c.if-i-n.false) in
    (omega (arith, a.inputs), omega arith, place-light _ _ _ _ _ _ _ a)

pub walk-shannon-requires : goal.walk-shannon-requires
walk-shannon-requires t c =
    let a = c.requires.1 in
    let more : c.args.i + 1 < c.args.n = omega (arith, a.depth, c.if-i-n.false) in
    (omega (arith, c.decreases), (c.requires.0, place-shannon _ _ _ _ _ _ _ a _ more c.weigh-every.ensures))

pub weigh-some-requires : goal.weigh-some-requires
weigh-some-requires t c =
    let a = c.requires.1 in
    let more : c.args.i + 1 < c.args.n = omega (arith, a.depth, c.if-i-n.false) in
    (omega (arith, a.inputs), omega arith, place-light _ _ _ _ _ _ _ a)

pub step-plain-requires : goal.step-plain-requires
step-plain-requires t c =
    let a = c.requires.1 in
    let more : c.args.i + 1 < c.args.n = omega (arith, a.depth, c.if-i-n.false) in
    step_fits _ _ _ _ _ _ _ a more

pub walk-positive-requires : goal.walk-positive-requires
unfolding letter_number
walk-positive-requires t c =
    let a = c.requires.1 in
    let more : c.args.i + 1 < c.args.n = omega (arith, a.depth, c.if-i-n.false) in
    (omega (arith, c.decreases), (c.requires.0, place-positive _ _ _ _ _ _ _ a _ _ more c.step-plain.ensures c.weigh-some.ensures))

pub step-other-requires : goal.step-other-requires
step-other-requires t c =
    let a = c.requires.1 in
    let more : c.args.i + 1 < c.args.n = omega (arith, a.depth, c.if-i-n.false) in
    step_fits _ _ _ _ _ _ _ a more

pub walk-requires : goal.walk-requires
unfolding letter_number
walk-requires t c =
    let a = c.requires.1 in
    let more : c.args.i + 1 < c.args.n = omega (arith, a.depth, c.if-i-n.false) in
    (omega (arith, c.decreases), (c.requires.0, place-negative _ _ _ _ _ _ _ a _ _ more c.step-other.ensures c.weigh-some.ensures))

pub returns : goal.returns
unfolding letter_number
returns t c =
    let more : c.args.i + 1 < c.args.n = omega (arith, c.requires.1.depth, c.if-i-n.false) in
    λ f a.
    walked-three _ _ _ _ _ _ _ a _ _ _ _ _
    (c.walk-shannon.ensures f (place-shannon _ _ _ _ _ _ _ a _ more c.weigh-every.ensures))
    (c.walk-positive.ensures f (place-positive _ _ _ _ _ _ _ a _ _ more c.step-plain.ensures c.weigh-some.ensures))
    (c.walk.ensures f (place-negative _ _ _ _ _ _ _ a _ _ more c.step-other.ensures c.weigh-some.ensures))
