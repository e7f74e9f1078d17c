-- The numbers of a table that was read: its least cost is what the first line of the listing of its answer states (`stated-least`), so the counts of the record
-- that the search hands up, with the length of its listing, are the listing's numbers (`mixed-numbers`, `kind-numbers`).
use mathlib.Core.Path.{◌≡◌, sym, ap, subst, ◌∙◌}
use mathlib.Core.List.{List}
use Prim.Native.Nat.{ℕ}
use lib.ListN.{length}
use Rattle.numbers.specs.Bytes.{at}
use Rattle.expansions.specs.declared.families.Family.TheVariants.{One}
use Rattle.expansions.specs.declared.kinds.Kind.TheVariants as kind
use Rattle.expansions.specs.Rivals.{LeastCost}
use Rattle.expansions.proofs.Rivals.{least-unique, minimal-least, kronecker-minimal-least}
use Rattle.search.specs.declared.expansion.Expansion.{Expansion}
use Rattle.search.proofs.expansion.Answer.{answer_expansion-is}
use Rattle.kronecker.specs.declared.expansion.KroneckerExpansion.{KroneckerExpansion}
use Rattle.kronecker.proofs.expansion.Answer.{answer_kronecker-is}
use Rattle.table_texts.specs.declared.sizes.Sizes.{Sizes}
use Rattle.table_texts.specs.declared.sizes.Design.{Design}
use Rattle.table_texts.specs.Accepted.{Accepted}
use Rattle.table_texts.specs.Design.{mixed_design, kronecker_design}
use Rattle.table_texts.proofs.Design.{table-sized}
use Rattle.table_answers.specs.declared.answers.Answer.TheVariants.{Mixed, Kronecker}
use Rattle.table_answers.specs.Answers.{answer_for}
use Rattle.table_answers.proofs.Searched.{table-bytes}
use Rattle.table_answers.proofs.Found.{mixed-found, kronecker-found}
use Rattle.listings.specs.Listing.{listing}
use Rattle.listings.specs.Meaning.{stated_products, stated_literals}
use Rattle.listing_writing.specs.Write.{record_listing}
use Rattle.text.specs.Inner.Compiled.{answer_listing}
use Rattle.text.proofs.compile.Listings.{answer-listing}
use Rattle.text.proofs.compile.Tables.{mixed-written, kind-written}
use Rattle.quote_text.specs.declared.quote.Quotation.{Quotation}
use Rattle.quote_text.specs.Numbers.{listing_numbers}

-- the numbers of a record of an answer and of its listing
abbrev pub numbers : (products literals long : ℕ) → Quotation
numbers products literals long = record { products = products; literals = literals; length = long }

module _ (d : Design) (table : List ℕ) (a : Accepted d table) where
  -- the counts that the listing of the answer states are the least cost
  pub listing-least : LeastCost d.n d.family d.kind (at table) (stated_products (answer_listing d table)) (stated_literals (answer_listing d table))
  listing-least =
      let listed = answer-listing d table a in
      rw (listed.products_stated, listed.literals_stated) listed.least

  -- a table has one least cost
  pub stated-least : (p l : ℕ) → LeastCost d.n d.family d.kind (at table) p l
      → (stated_products (answer_listing d table) ≡ p) × (stated_literals (answer_listing d table) ≡ l)
  stated-least p l least = least-unique d.n d.family d.kind (at table) _ _ p l listing-least least

  least-numbers : (p l long : ℕ) → LeastCost d.n d.family d.kind (at table) p l → long ≡ length (answer_listing d table)
      → numbers p l long ≡ listing_numbers (answer_listing d table)
  unfolding listing_numbers
  least-numbers p l long least e =
      let stated = stated-least p l least in
      let products = sym stated.0 in
      let literals = sym stated.1 in
      rw (products, literals, e)

  -- ---- by the kind of k

  pub mixed-numbers : (z : Sizes) (e : Expansion) (long : ℕ) → answer_for d table ≡ Mixed z e
      → long ≡ length (listing z.class z.family z.n z.m z.k e)
      → numbers e.products e.literals long ≡ listing_numbers (answer_listing d table)
  mixed-numbers z e long h counted =
      let found = mixed-found d table z e h in
      let s : Accepted (mixed_design z) table = subst (λ (x : Design). Accepted x table) found.0 a in
      let bytes = table-bytes z.n z.m table (table-sized (mixed_design z) s.sized) s.table in
      let minimal = answer_expansion-is z.class z.family z.n z.k (at table) s.sized.inputs.1 s.sized.mixed.1 bytes in
      let least : LeastCost z.n z.family (mixed_design z).kind (at table) e.products e.literals =
      rw found.1 (minimal-least z.class z.family z.n z.k (at table) s.sized.mixed.0 _ _ _ _ _ _ _ minimal) in
      least-numbers _ _ long
      (subst (λ (x : Design). LeastCost x.n x.family x.kind (at table) e.products e.literals) (sym found.0) least)
      (counted ∙ ap length (mixed-written d table a z e h).1)

  -- of any record that is listed, and any two counts, that are the answer's
  pub mixed-quoted : (z : Sizes) (e x : Expansion) (p l long : ℕ) → answer_for d table ≡ Mixed z e → long ≡ length (listing z.class z.family z.n z.m z.k x)
      → x ≡ e → p ≡ e.products → l ≡ e.literals → numbers p l long ≡ listing_numbers (answer_listing d table)
  mixed-quoted z e x p l long h counted same products literals =
      rw (products, literals) (mixed-numbers z e long h (counted ∙ ap (λ (y : Expansion). length (listing z.class z.family z.n z.m z.k y)) same))

  pub kind-numbers : (n m : ℕ) (e : KroneckerExpansion) (long : ℕ) → answer_for d table ≡ Kronecker n m e
      → long ≡ length (record_listing n m e)
      → numbers e.products e.literals long ≡ listing_numbers (answer_listing d table)
  kind-numbers n m e long h counted =
      let found = kronecker-found d table n m e a.sized h in
      let s : Accepted (kronecker_design n m) table = subst (λ (x : Design). Accepted x table) found.0 a in
      let least : LeastCost n One kind.Kronecker (at table) e.products e.literals =
      rw found.1 (kronecker-minimal-least n (at table) _ _ _ _ (answer_kronecker-is n (at table) s.sized.inputs.1)) in
      least-numbers _ _ long
      (subst (λ (x : Design). LeastCost x.n x.family x.kind (at table) e.products e.literals) (sym found.0) least)
      (counted ∙ ap length (kind-written d table a n m e h).1)
