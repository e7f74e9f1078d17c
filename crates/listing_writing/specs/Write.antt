-- Writing a listing into a lent buffer: what is answered, and what is left there.
use Rattle.std.specs.Prelude.{cond, List, ◌++◌, ◌≡◌, ℕ, ◌≤◌, leb, length, drop, Result, Ok, Err}
use Rattle.numbers.specs.Bytes.{at}
use Rattle.expansions.specs.Costs.{products}
use Rattle.kronecker.specs.declared.expansion.KroneckerExpansion.{KroneckerExpansion}
use Rattle.listings.specs.Kronecker.{kronecker_listing}
use Rattle.numbers.specs.declared.refusals.Refusal.{Refusal}
use Rattle.numbers.specs.declared.refusals.Refusal.TheVariants.{OutputRoom}

-- the listing of a Kronecker expansion's record, of n inputs and m outputs
abbrev pub record_listing : (n m : ℕ) → KroneckerExpansion → List ℕ
record_listing n m e = kronecker_listing n m (at e.letters) (at e.coefficients) e.products e.literals

-- "A buffer of exactly the listing's length is enough; one byte less is refusal 10"; "bytes past it keep what they held"
pub record WriteListing (listing before : List ℕ) (r : Result ℕ Refusal) (after : List ℕ) : Type 0 where
  pub answer : r ≡ cond (leb (length listing) (length before)) (Ok (length listing)) (Err OutputRoom)
  pub bytes : after ≡ cond (leb (length listing) (length before)) (listing ++ drop (length listing) before) before

-- a Kronecker expansion that can be written: at most eight inputs and outputs, and as many products as its record states
pub record KroneckerListable (n m : ℕ) (e : KroneckerExpansion) : Type 0 where
  pub inputs : n ≤ 8
  pub outputs : m ≤ 8
  pub counted : e.products ≡ products n (at e.coefficients)
