-- The eight entries are copied out, and the library joins them to their word.
use mathlib.Core.Path.{◌≡◌, ap, ◌∙◌}
use mathlib.Core.List.{List}
use Prim.Native.Nat.{ℕ, ◌+◌, ◌-◌, ◌<◌}
use native.Mathlib.Omega.{arith}
use lib.ListN.{take, drop}
use Rattle.std.proofs.lemmas.List.{get_or-take, get_or-drop}
use Rattle.numbers.specs.Bytes.{at}
use Rattle.numbers.proofs.Words.{word-ext}
use Rattle.numbers.proofs.WordBytes.{word-from_le_bytes}
use Rattle.blocks.proofs.rows.row_at.Goals as goal

read : (row entries : List ℕ) (start q : ℕ) → row ≡ take (start + 8 - start) (drop start entries) → q < 8 → at row q ≡ at entries (start + q)
read row entries start q e h = ap (λ (xs : List ℕ). at xs q) e ∙ get_or-take _ _ q 0 (omega arith) ∙ get_or-drop start entries q 0

pub returns : goal.returns
returns c =
    c.from_le_bytes.ensures ∙ word-from_le_bytes _ ∙ word-ext 8 _ _ (λ q h. read _ _ _ q c.copy_from_slice.ensures.after h)
