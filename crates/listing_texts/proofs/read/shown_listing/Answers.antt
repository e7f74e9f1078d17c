-- `shown_listing` meets its contract: the bytes of the rows are the coefficients and the complemented inputs.
use mathlib.Core.List.{List}
use mathlib.Core.Path.{ap, ◌∙◌}
use Prim.Native.Nat.{ℕ}
use Rattle.numbers.specs.Bytes.{at}
use Rattle.shown_rows.specs.Rows.{complemented_in, shown_blocks}
use Rattle.shown_rows.proofs.shown.Bytes.{lower-bytes, upper-bytes, blocks-ext}
use Rattle.listing_texts.specs.Record.{shown_expansion, shown_read}
use Rattle.listing_texts.proofs.read.shown_listing.Goals as goal

pub returns : goal.returns
unfolding shown_read shown_expansion
returns c =
    let a = c.args in
    let rows = a.rows.now in
    let upper = c.bytes_of-complements.ensures ∙ upper-bytes rows c.requires.3 in
    let lower = c.bytes_of.ensures ∙ lower-bytes rows in
    let z = a.sizes in
    let M = a.form.mixed in
    let blocks =
    c.shown_blocks.ensures ∙ ap (λ (l : List ℕ). shown_blocks z.class z.n z.k M (at l)) upper
    ∙ blocks-ext z.class z.n z.k M (complemented_in rows) c.requires.0 in
    rw (lower, blocks, upper)
