use Prim.Native.Nat.{◌-◌}
use Rattle.kronecker.proofs.walk.+walk.Given as goal

-- the inputs that have no letter yet
abbrev pub decreases-walk : goal.decreases-walk
decreases-walk l = l.n - l.i
