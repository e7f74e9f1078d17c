-- `within_outputs` meets its contract: the OR of all bytes tells what all the bytes tell, and there is no test to make where m is 8 or more.
use mathlib.Core.Path.{◌≡◌, ◌∙◌}
use Prim.Native.Nat.{◌*◌, ◌^◌, ◌%◌}
use native.Mathlib.Nat.{one-mul}
use native.Mathlib.Omega.{arith}
use lib.Bits.{bit_or}
use lib.Dec.{lit<}
use lib.Pow.{shl_exact}
use Rattle.std.specs.List.{fold}
use Rattle.std.proofs.Common.{rules}
use Rattle.std.proofs.lemmas.Iterator.{YieldsList-from_slice}
use Rattle.std.proofs.lemmas.Iterator.Consumers.{fold_from_yields_List}
use Rattle.numbers.proofs.refusals.Outputs.{below-seen, below-whole}
use Rattle.numbers.proofs.refusals.within_outputs.Goals as goal

pub returns-then-m-ge-OUTPUTS : goal.returns-then-m-ge-OUTPUTS
returns-then-m-ge-OUTPUTS c = below-whole _ _ c.if-m-ge-OUTPUTS.true (λ p. omega (arith, c.type_inv.bytes p))

pub returns-else-m-ge-OUTPUTS : goal.returns-else-m-ge-OUTPUTS
returns-else-m-ge-OUTPUTS c =
    let a = c.args in
    let bound : 1 * 2 ^ a.m % 2 ^ 8 ≡ 2 ^ a.m = shl_exact 1 a.m 8 (lit< tt) (omega (arith, c.if-m-ge-OUTPUTS.false)) ∙ one-mul (2 ^ a.m) in
    let seen : c.fold.result ≡ fold bit_or 0 a.bytes.now =
    fold_from_yields_List _ bit_or 0 _ c.fold.ensures.ran (YieldsList-from_slice a.bytes.now cc) (λ x b r q k. search rules)
    in
    rw (seen, bound) (below-seen a.m a.bytes.now)
