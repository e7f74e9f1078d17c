-- The term is split into its block and its place; the answer on either side of the last term is one case of `coefficient_at`.
use mathlib.Core.Path.{◌≡◌, sym, ap₂, ◌∙◌}
use mathlib.Core.Bool.{Bool, true, false, cond}
use Prim.Native.Nat.{ℕ, ◌-◌, ◌*◌, ◌%◌, ◌^◌, ◌≤◌, ◌<◌}
use lib.Pow.{pow_mono}
use Rattle.numbers.specs.Bytes.{at}
use Rattle.numbers.proofs.Shifts.{one_shifted}
use Rattle.expansions.specs.Classes.{apart}
use Rattle.expansions.specs.Split.{outside}
use Rattle.lanes.specs.Inner.Terms.{coefficient_in, coefficient_at}
use Rattle.expansions.proofs.Split.{ones-others, gather-lt}
use Rattle.numbers.proofs.Tests.{only_below, only_above}
use native.Mathlib.Omega.{arith}
use Rattle.lanes.proofs.expand.Room.{few}
use Rattle.lanes.proofs.terms.coefficient_at.Goals as goal
use Rattle.lanes.proofs.terms.coefficient_at.Goals.{After-split-parts, Start}

-- the tables hold at most sixteen choices
held-few : (b : Bool) (x : ℕ) → x < cond b 16 8 → x < 16
held-few true x h = h
held-few false x h = omega arith

size : (c : Start) → 1 * 2 ^ c.args.search.now.sizes.n % 2 ^ 64 ≡ 2 ^ c.args.search.now.sizes.n
size c = one_shifted _ (omega (arith, c.args.search.now.sizes.inputs))

place-below : (c : After-split-parts) → let s = c.args.search.now.sizes in c.split-parts.result.place < 2 ^ s.k
place-below c =
    let z = c.args.search.now.sizes in
    rw (c.split-parts.ensures.1, ← c.requires.mixed_set.0.size) (gather-lt z.n c.args.mixed c.args.t)

block-below : (c : After-split-parts) → let s = c.args.search.now.sizes in c.split-parts.result.block < 2 ^ (s.n - s.k)
block-below c =
    let z = c.args.search.now.sizes in
    rw (c.split-parts.ensures.0, ← ones-others z.n z.k c.args.mixed c.requires.mixed_set.0.size) (gather-lt z.n (outside z.n c.args.mixed) c.args.t)

block-small : (c : After-split-parts) → c.split-parts.result.block < 256
block-small c =
    let z = c.args.search.now.sizes in
    omega (arith, block-below c, pow_mono {i = z.n - z.k} {j = 8} (omega (arith, c.args.search.now.sizes.inputs)))

pub returns-then-all-t : goal.returns-then-all-t
unfolding coefficient_at
returns-then-all-t c =
    let h : 2 ^ c.args.search.now.sizes.n ≤ c.args.t = omega (arith, size (goal.at.returns-then-all-t c).Start) in
    sym (only_above _ _ _ h)

pub bounds-chosen-parts : goal.bounds-chosen-parts
bounds-chosen-parts c = omega (arith, block-small (goal.at.bounds-chosen-parts c).After-split-parts)

pub coefficient_in-requires : goal.coefficient_in-requires
coefficient_in-requires c =
    let p = c.requires in (
      block-small (goal.at.coefficient_in-requires c).After-split-parts,
      omega (arith, block-below (goal.at.coefficient_in-requires c).After-split-parts, p.mixed_set.1),
      omega (arith, place-below (goal.at.coefficient_in-requires c).After-split-parts, pow_mono {i = c.args.search.now.sizes.k} {j = 3} (few c.args.search.now.sizes)),
      held-few (apart c.args.search.now.sizes.class c.args.search.now.sizes.k) _ (p.by_index _),
    )

pub returns : goal.returns
unfolding coefficient_at
returns c =
    let h : c.args.t < 2 ^ c.args.search.now.sizes.n = omega (arith, c.if-all-t.false, size (goal.at.returns c).Start) in
    let z = c.args.search.now.sizes in
    let f : ℕ → ℕ → ℕ = λ j x. coefficient_in z.class z.k (at c.args.lanes.now) j x (at c.args.chosen.now j) in
    c.coefficient_in.ensures z.class z.k c.args.search.now.rows_of_class (c.requires.by_index _) ∙ ap₂ f c.split-parts.ensures.0 c.split-parts.ensures.1 ∙ sym (only_below _ _ _ h)
