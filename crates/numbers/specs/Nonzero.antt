-- What is listed for the numbers at which a function is not 0: the lines of a listing's products, and those of a table's points.
use Rattle.std.specs.Prelude.{List, [], ◌++◌, ℕ, zero, suc}

-- xs where c is not 0, and nothing where it is
unfoldable pub if_nonzero : {A : Type 0} → ℕ → List A → List A
if_nonzero zero xs = []
if_nonzero (suc c) xs = xs

-- g t for each t below N at which c t is not 0, one after the other, ascending by t
unfoldable pub over_nonzero : {A : Type 0} → (ℕ → List A) → (ℕ → ℕ) → ℕ → List A
over_nonzero g c zero = []
over_nonzero g c (suc t) = over_nonzero g c t ++ if_nonzero (c t) (g t)
