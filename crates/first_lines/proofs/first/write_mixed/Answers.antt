-- `write_mixed` meets its contract: the tab, what stands before the digit, and the digit, one after the other.
use mathlib.Core.Path.{◌≡◌, ap}
use Prim.Native.Nat.{ℕ, ◌+◌}
use native.Mathlib.Omega.{arith}
use lib.ListN.{length, length-append}
use Rattle.expansions.specs.declared.kinds.Class.{Class}
use Rattle.listings.specs.Listing.{decimal, mixed_mark, mixed_field}
use Rattle.listings.proofs.Characters.{length-decimal}
use Rattle.writing.proofs.Puts.{put_then, put-length}
use Rattle.first_lines.proofs.first.write_mixed.Goals as goal

field-length : (C : Class) (k : ℕ) → length (mixed_field C k) ≡ length (mixed_mark C) + length (decimal k)
unfolding mixed_field
field-length C k = length-append (mixed_mark C) (decimal k)

pub word-requires : goal.word-requires
word-requires c =
    let b = c.byte.ensures in
    omega (arith, c.requires, b.to, put-length b, field-length c.args.class c.args.k, ap length c.mixed_mark.ensures)

pub number-requires : goal.number-requires
number-requires c =
    let b = c.byte.ensures in
    let m = c.word.ensures in
    omega (
      arith,
      c.requires,
      b.to,
      put-length b,
      m.to,
      put-length m,
      field-length c.args.class c.args.k,
      length-decimal c.args.k,
      ap length c.mixed_mark.ensures,
    )

pub returns : goal.returns
unfolding mixed_field
returns c = put_then (put_then c.byte.ensures (rw c.mixed_mark.ensures at c.word.ensures)) c.number.ensures
