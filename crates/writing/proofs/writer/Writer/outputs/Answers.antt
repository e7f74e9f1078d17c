-- `outputs` meets its contract: after k turns the first k characters are written.
use mathlib.Core.Path.{◌≡◌, sym, ap, ◌∙◌}
use Prim.Native.Nat.{ℕ, ◌+◌, ◌/◌, ◌^◌}
use lib.Bits.{and_mask}
use native.Mathlib.Omega.{arith}
use Rattle.listings.proofs.Characters.{length-outputs, at-outputs}
use Rattle.writing.proofs.Puts.{written-more, written_all}
use Rattle.writing.proofs.writer.Writer.outputs.Goals as goal

pub loop-k-preserved : goal.loop-k-preserved
loop-k-preserved c =
    let a = c.args in
    let k = c.loop-k.k in
    let e = ap (λ (d : ℕ). 48 + d) (and_mask (a.c / 2 ^ k) 1) in
    written-more (omega (arith, length-outputs a.m a.c)) (e ∙ sym (at-outputs a.m a.c k c.loop-k-test.true)) c.loop-k.invariant

pub returns : goal.returns
returns c =
    let a = c.args in
    let p = written_all (omega (arith, length-outputs a.m a.c)) c.loop-k.invariant in
    let e : c.loop-k.k ≡ a.m = omega arith in
    rw e at p
