-- `first_least` meets its contract: the leader leads the pairs whose M is below `mixed`.
use Prim.Native.Nat.{◌^◌}
use native.Mathlib.Nat.{zero-mul}
use native.Mathlib.Omega.{arith}
use Rattle.numbers.proofs.Shifts.{one_shifted}
use Rattle.pairs.proofs.leader.Leading.{leads-none}
use Rattle.pairs.proofs.leader.first_least.Goals as goal

pub loop-mixed-init : goal.loop-mixed-init
loop-mixed-init c =
    (one_shifted _ (omega (arith, c.args.search.now.sizes.inputs)), omega arith, rw (zero-mul (2 ^ c.args.search.now.sizes.n)) (leads-none c.args.search.now.sizes.class c.args.search.now.sizes.family _ _ _))
