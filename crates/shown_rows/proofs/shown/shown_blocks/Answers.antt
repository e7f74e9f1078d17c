-- `shown_blocks` meets its contract: after t turns the blocks hold what the cubes of the terms below t show.
use borrow.Author.Tests.{lt-ltb, eq-eqb}
use mathlib.Core.Path.{◌≡◌, sym, ap, ap₂, ◌∙◌}
use Prim.Native.Nat.{◌≤◌, ◌<◌, ◌^◌}
use native.Mathlib.Omega.{arith}
use lib.Count.{ones_in}
use lib.Pow.{pow_mono}
use Rattle.numbers.specs.Bytes.{at}
use Rattle.numbers.proofs.Shifts.{one_shifted}
use Rattle.expansions.specs.Split.{gather, outside}
use Rattle.expansions.specs.Classes.{place_choice}
use Rattle.expansions.specs.Members.{place}
use Rattle.expansions.proofs.Blocks.{place-lt}
use Rattle.points.proofs.Bounds.{gather-small}
use Rattle.shown_rows.specs.Rows.{shown_blocks}
use Rattle.shown_rows.proofs.shown.Blocks.{blocks-none, blocks_more, blocks-all, choice-le}
use Rattle.shown_rows.proofs.shown.shown_blocks.Goals as goal
use Rattle.shown_rows.proofs.shown.shown_blocks.Goals.{After-gather-shown, After-split-parts, Else-ones_in-k, Else-size-mixed}

mixed-lt : (c : Else-size-mixed) → c.args.mixed < 2 ^ c.args.n
mixed-lt c = omega (arith, c.if-size-mixed.false, one_shifted c.args.n (omega (arith, c.requires.0)))

size_is : (c : Else-ones_in-k) → ones_in c.args.n c.args.mixed ≡ c.args.k
size_is c = sym c.ones_in.ensures ∙ c.if-ones_in-k.false

-- a block is a byte
block-lt : (c : After-split-parts) → c.split-parts.result.block < 256
block-lt c = omega (arith, c.split-parts.ensures.0, gather-small c.args.n (outside c.args.n c.args.mixed) c.loop-t.t c.requires.0)

-- what a cube shows in the mixed set is below 2^k, and so at most 7
shown-le : (c : After-gather-shown) → c.gather-shown.result ≤ 7
shown-le c =
    let most : 2 ^ c.args.k ≤ 8 = pow_mono {i = c.args.k} {j = 3} c.requires.1 in
    let size = size_is (goal.at.After-gather-shown c).Else-ones_in-k in
    omega (arith, c.gather-shown.ensures.value, place-lt c.args.n c.args.k c.args.mixed size c.from.result)

pub loop-t-init : goal.loop-t-init
loop-t-init c = blocks-none _ _ _ _ _

pub place_choice-requires : goal.place_choice-requires
place_choice-requires c = omega (arith, shown-le c)

pub overflow_cast-blocks : goal.overflow_cast-blocks
overflow_cast-blocks c =
    omega (
      arith,
      c.place_choice.ensures,
      choice-le c.args.class c.args.k c.split-parts.result.place c.gather-shown.result,
      shown-le (goal.at.overflow_cast-blocks c).After-gather-shown,
    )

pub bounds-blocks-parts : goal.bounds-blocks-parts
bounds-blocks-parts c = block-lt (goal.at.bounds-blocks-parts c).After-split-parts

pub bounds-blocks-parts-in-loop-t : goal.bounds-blocks-parts-in-loop-t
bounds-blocks-parts-in-loop-t c = block-lt (goal.at.bounds-blocks-parts-in-loop-t c).After-split-parts

pub loop-t-preserved : goal.loop-t-preserved
loop-t-preserved c =
    let l = c.loop-t in
    let a = c.args in
    let shown : c.gather-shown.result ≡ gather a.n a.mixed (at a.complements.now l.t) =
    c.gather-shown.ensures.value ∙ ap (gather a.n a.mixed) c.from.ensures in
    let x : c.place_choice.result ≡ place_choice a.class a.k (place a.n a.mixed l.t) (place a.n a.mixed (at a.complements.now l.t)) =
    c.place_choice.ensures ∙ ap₂ (place_choice a.class a.k) c.split-parts.ensures.1 shown in
    blocks_more _ _ _ _ _ l.t _ _ _ c.split-parts.ensures.0 x (block-lt (goal.at.loop-t-preserved c).After-split-parts) l.invariant

pub returns : goal.returns
unfolding shown_blocks
returns c =
    let l = c.loop-t in
    let e : l.t ≡ 2 ^ c.args.n = omega (arith, l.auto.t-end, c.loop-t-test.false, one_shifted c.args.n (omega (arith, c.requires.0))) in
    let at = goal.at.returns c in
    rw (lt-ltb _ _ (mixed-lt at.Else-size-mixed), eq-eqb _ _ (size_is at.Else-ones_in-k)) (blocks-all _ _ _ _ _ _ (rw e at l.invariant))
