-- `write_inv` meets its contract: the word, and what every line with outputs ends with, one after the other.
use Rattle.listings.specs.Parts.{bytes}
use Rattle.listings.proofs.Lengths.{inv_line-parts}
use Rattle.writing.proofs.Puts.{put_then}
use Rattle.listing_writing.proofs.form.write_inv.Goals as goal

pub returns : goal.returns
unfolding bytes
returns c =
    rw (inv_line-parts _ _) (put_then c.word.ensures c.end_term.ensures)
