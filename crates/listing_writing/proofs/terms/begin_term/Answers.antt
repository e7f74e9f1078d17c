-- `begin_term` meets its contract: the word and the tab, one after the other.
use Rattle.listings.specs.Parts.{bytes}
use Rattle.writing.proofs.Puts.{put_then}
use Rattle.listing_writing.proofs.terms.begin_term.Goals as goal

pub returns : goal.returns
unfolding bytes
returns c = put_then c.word.ensures c.byte.ensures
