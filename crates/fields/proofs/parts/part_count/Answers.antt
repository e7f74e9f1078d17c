-- `part_count` meets its contract: the parts that `split` gives are counted.
use mathlib.Core.Path.{◌≡◌, ap, ◌∙◌}
use native.Mathlib.Omega.{arith}
use borrow.Author.Rules.{rules}
use borrow.Author.Tests.{tests}
use lib.Dec.{eqb}
use lib.ListN.{length}
use Rattle.std.proofs.lemmas.Iterator.Consumers.{count_from_yields_List}
use Rattle.std.proofs.lemmas.Iterator.Splits.{YieldsList-from_slice_split}
use Rattle.listings.specs.Parts.{all, parts}
use Rattle.fields.proofs.Library.{split_parts}
use Rattle.fields.proofs.parts.part_count.Goals as goal

pub returns : goal.returns
returns c =
    let a = c.args in
    let counted : c.count.result ≡ length (all (parts a.separator a.text.now)) =
    count_from_yields_List c.split.result _ c.count.ensures.ran
    (YieldsList-from_slice_split _ (λ b. eqb b a.separator) a.text.now c.split.ensures.rest c.split.ensures.done c.split.ensures.closure (λ x b q k. search (rules, tests)))
    ∙ ap length (split_parts a.separator a.text.now)
    in
    omega (arith, counted)
