-- Which records are had back from their listings. Document 02, W-201: "Reading a listing that we wrote yields the record it came from, as far as its
-- cubes show it." The contract of `read_listing` has it of every record of a member (`YieldsRecord`); of an answer the whole record is had back
-- (proofs/ReadBack, `answer-read`).
use Rattle.std.specs.Prelude.{List, ◌≡◌, ℕ, ◌-◌, ◌^◌, ◌≤◌, ◌<◌, length, Result, Ok}
use Rattle.std.specs.Int.Bits.{bit_and}
use Rattle.numbers.specs.Bits.{bit}
use Rattle.numbers.specs.Bytes.{at}
use Rattle.numbers.specs.Refusals.{Sized}
use Rattle.expansions.specs.declared.kinds.Class.{Class}
use Rattle.expansions.specs.declared.kinds.Class.TheVariants.{Block, Free}
use Rattle.expansions.specs.Classes.{most_mixed}
use Rattle.expansions.specs.Costs.{products, literals}
use Rattle.expansions.specs.Members.{block, place, Member, polarity, shows}
use Rattle.search.specs.declared.expansion.Expansion.{Expansion}
use Rattle.listings.specs.Listing.{listing}
use Rattle.table_texts.specs.declared.sizes.Sizes.{Sizes}
use Rattle.listing_texts.specs.declared.read.ListingRead.{ListingRead}
use Rattle.listing_texts.specs.declared.read.RefusedListing.{RefusedListing}

-- the record of any member of the class, cheap or not: "256 coefficient places, zero from 2^n on", "bits m to 7 zero", its own counts, and a mask of
-- its m outputs
pub record MemberRecord (z : Sizes) (e : Expansion) : Type 0 where
  pub member : Member z.class z.n z.k e.mixed e.fixed (at e.blocks)
  pub long : length e.coefficients ≡ 256
  pub rest : (t : ℕ) → 2 ^ z.n ≤ t → at e.coefficients t ≡ 0
  pub outputs : (t : ℕ) → at e.coefficients t < 2 ^ z.m
  pub products_counted : e.products ≡ products z.n (at e.coefficients)
  pub literals_counted : e.literals ≡ literals z.n (at e.coefficients)
  pub mask : e.inverted < 2 ^ z.m

-- the listing that is written for a record of these sizes
abbrev pub member_listing : Sizes → Expansion → List ℕ
member_listing z e = listing z.class z.family z.n z.m z.k e

-- the polarity of each term of a record
abbrev pub term_polarities : Sizes → Expansion → ℕ → ℕ
term_polarities z e = polarity z.class z.n z.k e.mixed e.fixed (at e.blocks)

-- the terms s and t have one polarity in M: in document 01's class those of a block, "shared by all outputs"; in the free class "each term having its own
-- polarities in M"
abbrev pub OnePolarity : Class → (n M s t : ℕ) → Type 0
OnePolarity Block n M s t = block n M s ≡ block n M t
OnePolarity Free n M s t = s ≡ t

-- what is handed up for the listing of the record e is "the record it came from, as far as its cubes show it"
pub record HadBack (z : Sizes) (e : Expansion) (r : ListingRead) : Type 0 where
  pub coefficients : r.expansion.coefficients ≡ e.coefficients
  pub mixed : r.expansion.mixed ≡ e.mixed
  pub fixed : r.expansion.fixed ≡ e.fixed
  pub products_stated : r.expansion.products ≡ e.products
  pub literals_stated : r.expansion.literals ≡ e.literals
  pub inverted : r.expansion.inverted ≡ e.inverted
  -- its choices are a member's with this M and this i
  pub member : Member z.class z.n z.k e.mixed e.fixed (at r.expansion.blocks)
  -- each product has back its own polarity as far as its cube shows it: the literals outside M, and those in M, which in the free class are the term's own
  pub polarities : (t : ℕ) → t < 2 ^ z.n → (at e.coefficients t ≡ 0 → ⊥)
      → bit_and t (term_polarities z r.expansion t) ≡ bit_and t (term_polarities z e t)
  -- what no cube shows is 0: a term's polarity at an input of M, number b of M from the lowest, where no product with that polarity has a literal of it
  pub unshown : (t b : ℕ) → t < 2 ^ z.n → bit b (place z.n e.mixed t) ≡ 1
      → ((s : ℕ) → s < 2 ^ z.n → OnePolarity z.class z.n e.mixed s t → bit b (place z.n e.mixed s) ≡ 1 → at e.coefficients s ≡ 0)
      → bit b (place z.n e.mixed (term_polarities z r.expansion t)) ≡ 0
  -- there are 2^(n−k) blocks
  pub rest : (j : ℕ) → 2 ^ (z.n - z.k) ≤ j → at r.expansion.blocks j ≡ 0
  -- beside the record, the inputs that the cube of each product shows complemented
  pub complements : (t : ℕ) → t < 2 ^ z.n → at r.complements t ≡ shows (term_polarities z e) (at e.coefficients) t

-- "Reading a listing that we wrote yields the record it came from, as far as its cubes show it.": r is what is handed up for the bytes s, beside a table with
-- the sizes z
abbrev pub YieldsRecord : Sizes → List ℕ → Result ListingRead RefusedListing → Type 0
YieldsRecord z s r =
    (e : Expansion) → Sized z.n z.m (most_mixed z.class) z.k → MemberRecord z e → s ≡ member_listing z e
    → (read : ListingRead) × (r ≡ Ok read) × HadBack z e read
