-- The record that a listing shows. Document 02, W-201: "Reading a listing that we wrote yields the record it came from, as far as its cubes
-- show it."
use Rattle.std.specs.Prelude.{List, ℕ, Result, Ok, Err, replicate}
use Rattle.numbers.specs.Refusals.{declined}
use Rattle.numbers.specs.Bytes.{tabulate}
use Rattle.search.specs.declared.expansion.Expansion.{Expansion}
use Rattle.search.specs.Expansion.{empty_expansion}
use Rattle.table_texts.specs.declared.sizes.Sizes.{Sizes}
use Rattle.listing_texts.specs.declared.form.Form.{Form}
use Rattle.listing_texts.specs.declared.read.ListingRead.{ListingRead}
use Rattle.listing_texts.specs.declared.read.RefusedListing.{RefusedListing}
use Rattle.shown_rows.specs.Rows.{coefficient_in, complemented_in, shown_blocks}
use Rattle.listing_texts.specs.Read.{ListingReading, shown, refused}

-- the record of a first line, an inversion mask and the rows, beside a table with the sizes z
unfoldable pub shown_expansion : Sizes → Form → ℕ → List ℕ → Expansion
shown_expansion z f v rows =
    record {
      coefficients = tabulate 256 (coefficient_in rows);
      blocks = shown_blocks z.class z.n z.k f.mixed (complemented_in rows);
      mixed = f.mixed;
      fixed = f.fixed;
      products = f.products;
      literals = f.literals;
      inverted = v;
    }

-- what is handed up for a listing that passes: the record, with the inputs that each cube shows complemented
unfoldable pub shown_read : Sizes → Form → ℕ → List ℕ → ListingRead
shown_read z f v rows = record { expansion = shown_expansion z f v rows; complements = tabulate 256 (complemented_in rows) }

-- what the reading hands up; under a refusal the empty record of the table's k, with no complemented inputs
unfoldable pub handed_up : Sizes → ListingReading → Result ListingRead RefusedListing
handed_up z (shown f v rows) = Ok (shown_read z f v rows)
handed_up z (refused why line) =
    Err (record { refused = declined why line; read = record { expansion = empty_expansion z.k; complements = replicate 256 0 } })
