-- Two bytes make a number below 65,536.
use mathlib.Core.Path.{◌≡◌, sym, ap₂, ◌∙◌}
use Prim.Native.Nat.{ℕ, ◌+◌, ◌*◌}
use borrow.Author.Tests.{ne_eqb}
use lib.Bits.{bit_and, and_mask}
use Rattle.numbers.specs.Words.{byte}
use Rattle.numbers.proofs.Words.{byte-zero}
use Rattle.charges.proofs.cheapest.compared.Goals as goal

-- as code takes it
lowest : (x : ℕ) → bit_and x 255 ≡ byte 0 x
lowest x = and_mask x 8 ∙ sym (byte-zero x)

pub returns-then-this-ne0 : goal.returns-then-this-ne0
returns-then-this-ne0 g c =
    rw (ne_eqb g.row.MASKED 0 c.if-this-ne0.true) (ap₂ (λ (x y : ℕ). x * 256 + y) (lowest c.args.sums) (lowest c.args.masks))

pub returns-else-this-ne0 : goal.returns-else-this-ne0
returns-else-this-ne0 g c = rw c.if-this-ne0.false (lowest c.args.sums)
