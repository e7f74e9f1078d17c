-- `seek` meets its contract: the position that is found is where the part that begins at the cursor stops.
use mathlib.Core.Path.{refl, ap, ◌∙◌}
use Prim.Native.Nat.{ℕ, ◌+◌}
use borrow.Author.Rules.{rules}
use borrow.Author.Tests.{tests}
use lib.Dec.{eqb}
use Rattle.std.proofs.lemmas.Iterator.{YieldsList-from_slice}
use Rattle.std.proofs.lemmas.Iterator.Search.{position_from_yields_List}
use Rattle.fields.proofs.Library.{first_found, left_from}
use Rattle.fields.proofs.cursor.Cursor.seek.Goals as goal

pub returns : goal.returns
returns c =
    let a = c.args in
    let left = left_from a.text.now a.self.at c.min.result c.min.ensures in
    let found = position_from_yields_List (λ b. eqb b a.separator) _ _ c.position.result c.position.ensures.ran (YieldsList-from_slice _ cc) (λ x b q k. search (rules, tests)) in
    (ap (λ (k : ℕ). a.self.at + k) (c.unwrap_or-length.ensures ∙ first_found a.separator _ c.position.result found ∙ rw left), refl)
