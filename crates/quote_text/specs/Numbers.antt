-- The numbers of a listing that a quotation tells. Document 02, W-209: "The front counter wants products, literals and listing length".
use Rattle.std.specs.Prelude.{List, ℕ, length}
use Rattle.listings.specs.Meaning.{stated_products, stated_literals}
use Rattle.quote_text.specs.declared.quote.Quotation.{Quotation}

-- "products, literals and listing length": the counts that the first line of a listing states, and how many bytes the listing has
unfoldable pub listing_numbers : List ℕ → Quotation
listing_numbers listing = record { products = stated_products listing; literals = stated_literals listing; length = length listing }
