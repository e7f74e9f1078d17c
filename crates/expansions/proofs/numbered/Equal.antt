-- Classes and families with the same number are the same (`class-equal`, `family-equal`).
use mathlib.Core.Path.{◌≡◌, refl}
use native.Mathlib.Omega.{arith}
use Rattle.expansions.specs.declared.families.Family.{Family}
use Rattle.expansions.specs.declared.families.Family.TheVariants.{One, Two}
use Rattle.expansions.specs.declared.kinds.Class.{Class}
use Rattle.expansions.specs.declared.kinds.Class.TheVariants.{Block, Free}
use Rattle.expansions.specs.Numbered.{class_number, family_number}

pub class-equal : (C D : Class) → class_number C ≡ class_number D → C ≡ D
class-equal Block Block e = refl
class-equal Block Free e = absurd (omega arith)
class-equal Free Block e = absurd (omega arith)
class-equal Free Free e = refl

pub family-equal : (F G : Family) → family_number F ≡ family_number G → F ≡ G
family-equal One One e = refl
family-equal One Two e = absurd (omega arith)
family-equal Two One e = absurd (omega arith)
family-equal Two Two e = refl
