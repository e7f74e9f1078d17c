-- `row_line` calls `row` with a value of 16 bits, for either kind of line.
use Rattle.lines.proofs.RowLines.{on-small, term-small}
use Rattle.lines.proofs.rows.row_line.Goals as goal

pub row-requires : goal.row-requires
row-requires c = rw (c.point_of.ensures, c.outputs-said.ensures) (on-small c.args.grammar.m _ _ c.requires.1)

pub row-requires-in-Listing : goal.row-requires-in-Listing
row-requires-in-Listing c =
    rw (c.read_cube.ensures, c.outputs-said.ensures) (term-small c.args.grammar.n c.args.grammar.m _ _ c.requires.0 c.requires.1)
