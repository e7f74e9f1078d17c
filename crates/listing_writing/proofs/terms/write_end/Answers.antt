-- `write_end` meets its contract: the word and the line's end, one after the other.
use Rattle.listings.specs.Parts.{bytes}
use Rattle.listings.specs.Listing.{tabbed, line}
use Rattle.writing.proofs.Puts.{put_then}
use Rattle.listing_writing.proofs.terms.write_end.Goals as goal

pub returns : goal.returns
unfolding line tabbed bytes
returns c = put_then c.word.ensures c.byte.ensures
