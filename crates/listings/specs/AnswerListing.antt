-- The listing of the answer, in the documents' words: the bytes that the expansion which comes first prints, by the kind of k. No function that finds it
-- has a part in this. There is one such listing (proofs/AnswerListings, `answer-listings-same`).
use Rattle.std.specs.Prelude.{List, ◌≡◌, ℕ}
use Rattle.expansions.specs.declared.families.Family.{Family}
use Rattle.expansions.specs.declared.kinds.Class.{Class}
use Rattle.expansions.specs.declared.kinds.Kind.{Kind}
use Rattle.expansions.specs.declared.kinds.Kind.TheVariants.{Mixed, Kronecker}
use Rattle.expansions.specs.Costs.{products, literals}
use Rattle.expansions.specs.Answers.{IsClassAnswer}
use Rattle.expansions.specs.Kronecker.Costs.{kronecker_literals}
use Rattle.expansions.specs.Kronecker.Answers.{IsKroneckerAnswer}
use Rattle.listings.specs.Listing.{form_fields, listing_with}
use Rattle.listings.specs.Kronecker.{kronecker_listing}

-- the bytes are the listing of the answer for the table f of n inputs and m outputs, for a part of the family, at a kind of k
pub data IsAnswerListing (n m : ℕ) (F : Family) (f : ℕ → ℕ) (bytes : List ℕ) : Kind → Type 0 where
  -- "`form`, n, m, k (a digit), M, i, products, literals", the `inv` line and "One line for each product", of the answer of the class; "the listing repeats
  -- that field"
  mixed : (C : Class) (k v M i : ℕ) (w c : ℕ → ℕ) → IsClassAnswer C F n k f v M i w c
      → bytes ≡ listing_with F (form_fields C n m k M i (products n c) (literals n c)) v n m w c → IsAnswerListing n m F f bytes (Mixed C k)
  -- "The listing begins `kron`, n, m, one field with a letter for each input from xn down (`S`, `P`, `N`), products, literals"
  kronecker : (letters c : ℕ → ℕ) → IsKroneckerAnswer n f letters c
      → bytes ≡ kronecker_listing n m letters c (products n c) (kronecker_literals n letters c) → IsAnswerListing n m F f bytes Kronecker
