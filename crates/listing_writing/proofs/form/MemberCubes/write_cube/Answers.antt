-- `write_cube` meets the contract of the trait: the masks are of n inputs, so the polarity is that of the member.
use mathlib.Core.Path.{◌∙◌}
use native.Mathlib.Omega.{arith}
use Rattle.numbers.specs.Bytes.{at}
use Rattle.expansions.specs.Members.{polarity}
use Rattle.search.proofs.polarity.Fitting.{term_polarity-fits}
use Rattle.listings.proofs.Characters.{length-cube}
use Rattle.listing_writing.proofs.form.MemberCubes.write_cube.Goals as goal

pub cube-requires : goal.cube-requires
cube-requires c =
    let e = c.args.self.now in
    (e.sized.0, omega (arith, c.requires, length-cube e.n c.args.t (polarity e.class e.n e.k e.mixed e.fixed (at e.blocks) c.args.t)))

pub returns : goal.returns
returns c =
    let e = c.args.self.now in
    rw (c.term_polarity-w.ensures ∙ term_polarity-fits _ _ _ _ _ _ c.args.t e.sized.0 e.sized.1 e.sized.2) at c.cube.ensures
