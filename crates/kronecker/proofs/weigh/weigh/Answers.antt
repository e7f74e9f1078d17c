-- `weigh` meets its contract: after s turns the first s weights of each half are there.
use Prim.Native.Nat.{ℕ}
use lib.ListN.{length-replicate}
use Rattle.expansions.proofs.Kronecker.Weighing.{weighed-none}
use Rattle.kronecker.proofs.weigh.weigh.Goals as goal

pub loop-s-init : goal.loop-s-init
loop-s-init c = weighed-none _ _ _ _ c.requires.0 c.requires.1 c.requires.2 (length-replicate {A = ℕ} 128 0)
