-- `apart` meets its contract, class by class.
use mathlib.Core.Path.{refl}
use Rattle.expansions.proofs.kinds.apart.Goals as goal

pub returns-in-Free : goal.returns-in-Free
returns-in-Free c = rw c.in-Free.is refl
