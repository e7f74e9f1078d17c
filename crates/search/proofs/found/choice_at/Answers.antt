-- The answer on either side of the last block is one case of `choice_at`.
use mathlib.Core.Path.{◌≡◌, sym, ap, ◌∙◌}
use Prim.Native.Nat.{ℕ, ◌+◌, ◌-◌, ◌*◌, ◌%◌, ◌^◌, ◌≤◌, ◌<◌}
use lib.ListN.{length}
use lib.Pow.{pow_pos, pow_mono}
use Rattle.numbers.specs.Bytes.{at}
use Rattle.numbers.proofs.Shifts.{one_shifted}
use Rattle.search.specs.Inner.Search.{choice_at}
use Rattle.expansions.specs.Classes.{choices}
use Rattle.expansions.specs.Inner.Answer.{least_choice}
use Rattle.expansions.proofs.Classes.{choices-some}
use Rattle.numbers.proofs.Tests.{only_below, only_above}
use Rattle.charges.specs.Inner.Charges.{charge_from, all_from}
use Rattle.charges.proofs.cheapest.BlockCosts.{other-choice}
use native.Mathlib.Omega.{arith}
use Rattle.search.proofs.found.choice_at.Goals as goal
use Rattle.search.proofs.found.choice_at.Goals.{Else-count-j, Else-j-eq0, Start}

count : (c : Start) → let s = c.args.search.now.sizes in 1 * 2 ^ (s.n - s.k) % 2 ^ 64 ≡ 2 ^ (s.n - s.k)
count c = one_shifted _ (omega (arith, c.args.search.now.sizes.inputs))

below : (c : Else-count-j) → let a = c.args in a.j < 2 ^ (a.search.now.sizes.n - a.search.now.sizes.k)
below c = omega (arith, c.if-count-j.false, count (goal.at.Else-count-j c).Start)

pub returns-then-count-j : goal.returns-then-count-j
unfolding choice_at
returns-then-count-j c =
    let a = c.args in
    let h : 2 ^ (a.search.now.sizes.n - a.search.now.sizes.k) ≤ a.j = omega (arith, c.if-count-j.true, count (goal.at.returns-then-count-j c).Start) in
    sym (only_above _ _ _ h)

pub cheapest_first-first-requires : goal.cheapest_first-first-requires
cheapest_first-first-requires c =
    let z = c.args.search.now.sizes in
    omega (arith, c.requires.lanes_len, pow_pos (z.n - z.k))

pub returns-then-j-eq0 : goal.returns-then-j-eq0
unfolding choice_at
returns-then-j-eq0 c =
    let a = c.args in
    let f : ℕ → ℕ = λ j. least_choice (choices a.search.now.sizes.class a.search.now.sizes.k) (charge_from a.search.now.sizes.class a.search.now.sizes.k a.search.now.sizes.family (at a.lanes.now) j) in
    c.cheapest_first-first.ensures.choice ∙ ap f (sym c.if-j-eq0.true) ∙ sym (only_below _ _ _ (below (goal.at.returns-then-j-eq0 c).Else-count-j))

-- what the choices of a block other than block 0 ask
bounds : (c : Else-j-eq0) → let a = c.args in (a.j < 256) × (a.j * 8 + 8 ≤ length a.lanes.now)
bounds c =
    let z = c.args.search.now.sizes in
    (omega (arith, below (goal.at.Else-j-eq0 c).Else-count-j, pow_mono {i = z.n - z.k} {j = 8} (omega (arith, c.args.search.now.sizes.inputs))), omega (arith, below (goal.at.Else-j-eq0 c).Else-count-j, c.requires.lanes_len))

pub cheapest_block-least-requires : goal.cheapest_block-least-requires
cheapest_block-least-requires c =
    record { block = bounds (goal.at.cheapest_block-least-requires c).Else-j-eq0; told = sym c.apart.ensures ∙ c.if-apart.true }

-- the first least choice by either charge is the same
other : (c : Else-j-eq0) (x : ℕ) → let a = c.args in let z = a.search.now.sizes in
    x ≡ least_choice (choices z.class z.k) (all_from z.class z.k z.family (at a.lanes.now) a.j)
    → x ≡ choice_at z.class z.family z.n z.k (at a.lanes.now) a.j
unfolding choice_at
other c x e =
    let a = c.args in
    let z = a.search.now.sizes in
    let some : 0 < a.j = omega (arith, c.if-j-eq0.false) in
    e ∙ other-choice z.class z.k z.family (at a.lanes.now) (choices z.class z.k) a.j (choices-some z.class z.k) some
    ∙ sym (only_below _ _ _ (below (goal.at.Else-j-eq0 c).Else-count-j))

pub returns-then-apart : goal.returns-then-apart
returns-then-apart c = other (goal.at.returns-then-apart c).Else-j-eq0 _ c.cheapest_block-least.ensures.choice

pub cheapest_block-least-requires-2 : goal.cheapest_block-least-requires-2
cheapest_block-least-requires-2 c =
    record { block = bounds (goal.at.cheapest_block-least-requires-2 c).Else-j-eq0; told = sym c.apart.ensures ∙ c.if-apart.false }

pub returns : goal.returns
returns c = other (goal.at.returns c).Else-j-eq0 _ c.cheapest_block-least-2.ensures.choice
