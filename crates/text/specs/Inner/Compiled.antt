-- The text call as a function: the listing of the answer, what is answered, and the bytes that are left. That there is no other listing of the answer is
-- the law `chosen-only` (proofs/compile/Listings): no promise rests on this file.
use Rattle.std.specs.Prelude.{cond, List, ◌++◌, ℕ, leb, length, drop, Result, Ok, Err}
use Rattle.numbers.specs.declared.refusals.Refusal.TheVariants.{OutputRoom}
use Rattle.numbers.specs.declared.refusals.Refused.{Refused}
use Rattle.numbers.specs.Refusals.{declined}
use Rattle.numbers.specs.Bytes.{at}
use Rattle.search.specs.Inner.Answer.{answer_expansion}
use Rattle.kronecker.specs.Inner.Answer.{answer_kronecker}
use Rattle.expansions.specs.declared.families.Family.{Family}
use Rattle.expansions.specs.declared.kinds.Kind.{Kind}
use Rattle.expansions.specs.declared.kinds.Kind.TheVariants.{Mixed, Kronecker}
use Rattle.table_texts.specs.declared.sizes.Design.{Design}
use Rattle.table_texts.specs.Inner.Reading.{Reading, given, refused}
use Rattle.listings.specs.Listing.{listing}
use Rattle.listing_writing.specs.Write.{record_listing}

-- the listing of the family's answer for a table, by the kind of k: of a class with k mixed inputs, document 01's or document 02's free class,
-- "the listing repeats that field", or of the Kronecker expansions
abbrev pub kind_listing : Family → ℕ → ℕ → Kind → List ℕ → List ℕ
kind_listing family n m (Mixed C k) table = listing C family n m k (answer_expansion C family n k (at table))
kind_listing family n m Kronecker table = record_listing n m (answer_kronecker n (at table))

-- the listing of the answer for a table of the design d
unfoldable pub answer_listing : Design → List ℕ → List ℕ
answer_listing d table = kind_listing d.family d.n d.m d.kind table

-- "The text call reads, minimises and writes into a lent output buffer and returns the length"; "10. The output buffer is shorter than the
-- listing", with line 0. `room` is the buffer's length.
unfoldable pub compiled : Reading → ℕ → Result ℕ Refused
compiled (given d table) room = cond (leb (length (answer_listing d table)) room) (Ok (length (answer_listing d table))) (Err (declined OutputRoom 0))
compiled (refused why line) room = Err (declined why line)

-- "bytes past it keep what they held"; under a refusal every byte is as it was
unfoldable pub buffer_after : Reading → List ℕ → List ℕ
buffer_after (given d table) before =
    cond (leb (length (answer_listing d table)) (length before)) (answer_listing d table ++ drop (length (answer_listing d table)) before) before
buffer_after (refused why line) before = before
