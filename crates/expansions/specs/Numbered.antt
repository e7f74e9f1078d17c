-- The numbers of the classes and of the families. Document 02, W-202: "the reading call returns the kind of k"; W-203: "The reading call returns the
-- family too".
use Rattle.std.specs.Prelude.{ℕ}
use Rattle.expansions.specs.declared.families.Family.{Family}
use Rattle.expansions.specs.declared.families.Family.TheVariants.{One, Two}
use Rattle.expansions.specs.declared.kinds.Class.{Class}
use Rattle.expansions.specs.declared.kinds.Class.TheVariants.{Block, Free}

-- "the kind of k" of a class: 1 for a digit, and 3 for an `f` field or `-`
abbrev pub class_number : Class → ℕ
class_number Block = 1
class_number Free = 3

-- "the family too": 1 for `table`, and 2 for `table2`
abbrev pub family_number : Family → ℕ
family_number One = 1
family_number Two = 2
