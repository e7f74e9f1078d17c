-- `descending` meets its contract: after k turns the first k bytes are written.
use mathlib.Core.Path.{◌≡◌, sym, ◌∙◌}
use Prim.Native.Nat.{◌-◌}
use native.Mathlib.Omega.{arith}
use Rattle.listings.proofs.Characters.{length-descending, at-descending}
use Rattle.writing.proofs.Puts.{written-more, written_all}
use Rattle.writing.proofs.writer.Writer.descending.Goals as goal

pub loop-k-preserved : goal.loop-k-preserved
loop-k-preserved g c = λ f h.
    let k = c.loop-k.k in
    written-more (omega (arith, length-descending c.args.count f))
    (h (c.args.count - 1 - k) _ (omega arith) c.character.ensures ∙ sym (at-descending c.args.count f k c.loop-k-test.true))
    (c.loop-k.invariant f h)

pub returns : goal.returns
returns g c = λ f h.
    let p = written_all (omega (arith, length-descending c.args.count f)) (c.loop-k.invariant f h) in
    let e : c.loop-k.k ≡ c.args.count = omega arith in
    rw e at p
