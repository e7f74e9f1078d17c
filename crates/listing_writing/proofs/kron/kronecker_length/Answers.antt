-- `kronecker_length` meets its contract: the digits, the letters and the products that the record states give the listing's length.
use mathlib.Core.List.{List, [], ◌∷◌}
use mathlib.Core.Path.{◌≡◌}
use Prim.Native.Nat.{ℕ, ◌+◌, ◌*◌, ◌≤◌}
use native.Mathlib.Omega.{arith}
use lib.ListN.{length}
use Rattle.numbers.specs.Bytes.{at}
use Rattle.listings.specs.Inner.Lengths.{digits_of}
use Rattle.listings.proofs.Lengths.{digits_of-le, products-small}
use Rattle.listings.proofs.Kronecker.{kronecker-length-stated}
use Rattle.listing_writing.specs.Write.{record_listing}
use Rattle.listing_writing.proofs.kron.kronecker_length.Goals as goal
use Rattle.listing_writing.proofs.kron.kronecker_length.Goals.{Start}

-- the numbers on the first line
abbrev figures : Start → List ℕ
figures s = let a = s.args in a.n ∷ a.m ∷ a.e.products ∷ a.e.literals ∷ []

-- the length of the listing
stated : (s : Start) → let a = s.args in
    14 + a.n + digits_of (figures s) + a.e.products * (a.n + a.m + 7) ≡ length (record_listing a.n a.m a.e)
stated s =
    let a = s.args in
    kronecker-length-stated a.n a.m (at a.e.letters) (at a.e.coefficients) a.e.products a.e.literals s.requires.counted

-- no more than 256 lines
few : (s : Start) → let a = s.args in a.e.products * (a.n + a.m + 7) ≤ 5888
few s =
    let a = s.args in
    products-small a.n a.m a.e.products (at a.e.coefficients) s.requires.counted s.requires.inputs s.requires.outputs

pub overflow_add-result-2 : goal.overflow_add-result-2
overflow_add-result-2 c =
    omega (arith, c.requires.inputs, c.digits_of-digits.ensures, digits_of-le (figures (goal.at.overflow_add-result-2 c).Start))

pub overflow_mul-result : goal.overflow_mul-result
overflow_mul-result c = omega (arith, few (goal.at.overflow_mul-result c).Start)

pub overflow_add-result-5 : goal.overflow_add-result-5
overflow_add-result-5 c =
    omega (arith, c.requires.inputs, c.digits_of-digits.ensures, digits_of-le (figures (goal.at.overflow_add-result-5 c).Start), few (goal.at.overflow_add-result-5 c).Start)

pub returns : goal.returns
returns c = omega (arith, c.digits_of-digits.ensures, stated (goal.at.returns c).Start)
