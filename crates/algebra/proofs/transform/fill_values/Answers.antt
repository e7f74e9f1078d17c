-- `fill_values` meets its contract: the coefficients are joined in an array of 256, then moved into the table.
use mathlib.Core.Path.{◌≡◌, ap, ◌∙◌}
use mathlib.Core.List.{List}
use Prim.Native.Nat.{ℕ, ◌+◌, ◌^◌, ◌≤◌}
use native.Mathlib.Omega.{arith}
use lib.Bits.{bit_xor, xor_lt}
use lib.ListN.{length}
use lib.Pow.{pow_mono}
use Rattle.numbers.specs.Bytes.{at, tabulate}
use Rattle.numbers.proofs.Bytes.{length-tabulate}
use Rattle.algebra.specs.Inner.Steps.{half_step, all_steps}
use Rattle.algebra.proofs.transform.Filling.{values-filled, array_whole}
use Rattle.algebra.proofs.transform.fill_values.Goals as goal
use Rattle.algebra.proofs.transform.fill_values.Goals.{After-padded-joined}

long : (c : After-padded-joined) → length c.padded-joined.result ≡ 256
long c = ap length c.padded-joined.ensures ∙ length-tabulate 256 _

pub join_inside-requires : goal.join_inside-requires
join_inside-requires c =
    let n-le = c.requires.0 in
    (omega arith, n-le, rw (long (goal.at.join_inside-requires c).After-padded-joined) (array_whole _ n-le))

pub move_points-requires : goal.move_points-requires
move_points-requires c = λ q h.
    let size-le : 2 ^ c.args.n ≤ 256 = pow_mono c.requires.0 in
    let whole = ap length c.join_inside.ensures ∙ length-tabulate _ _ ∙ long (goal.at.move_points-requires c).After-padded-joined in
    omega (arith, xor_lt c.args.n q c.args.w (omega (arith, c.requires.2)) c.requires.1, whole)

pub returns : goal.returns
returns c =
    c.move_points.ensures
    ∙ ap (λ (x : ℕ). tabulate x (λ q. at c.join_inside.new.bytes (bit_xor q c.args.w))) c.requires.2
    ∙ values-filled c.args.n c.args.w c.args.coefficients.now _ c.requires.0 c.requires.1
    (c.join_inside.ensures
    ∙ ap (λ (b : List ℕ). tabulate (length b) (all_steps (λ x. half_step 1 (0 + x)) c.args.n (at b))) c.padded-joined.ensures)
