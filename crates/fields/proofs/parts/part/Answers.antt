-- `part` meets its contract: the part is one of those that `split` gives.
use mathlib.Core.Path.{◌≡◌, refl, ap, ◌∙◌}
use mathlib.Core.List.{List, []}
use Prim.Native.Nat.{ℕ}
use native.Mathlib.Omega.{arith}
use borrow.Author.Rules.{rules}
use borrow.Author.Tests.{tests}
use lib.Dec.{eqb}
use lib.ListN.{get_or}
use denote.Ref.{Bor}
use Rattle.std.specs.Prelude.{Option, unwrap_or}
use Rattle.std.specs.Option.{option_map}
use Rattle.std.specs.List.{slice_get, slice_split}
use Rattle.std.proofs.lemmas.Iterator.Consumers.{nth_from_yields_List}
use Rattle.std.proofs.lemmas.Iterator.Splits.{YieldsList-from_slice_split}
use Rattle.listings.specs.Parts.{all, parts}
use Rattle.fields.proofs.Library.{split_parts, part_given}
use Rattle.fields.proofs.parts.part.Goals as goal

-- the part j is the one that `nth` took
nth_part : (s : List ℕ) (separator i j : ℕ) (r : Option (Bor (List ℕ))) (none : Bor (List ℕ)) → none.now ≡ []
    → option_map (λ (x : Bor (List ℕ)). x.now) r ≡ slice_get (slice_split (λ b. eqb b separator) s) i → i ≡ j
    → (unwrap_or r none).now ≡ get_or (all (parts separator s)) j []
nth_part s separator i j r none e h same =
    part_given s separator j r none e
    (h ∙ ap (λ (l : List (List ℕ)). slice_get l i) (split_parts separator s) ∙ ap (slice_get (all (parts separator s))) same)

pub returns : goal.returns
returns c =
    let a = c.args in
    let taken =
    nth_from_yields_List c.nth.result _ _ c.nth.ensures.ran
    (YieldsList-from_slice_split _ (λ b. eqb b a.separator) a.text.now c.split.ensures.rest c.split.ensures.done c.split.ensures.closure (λ x b q k. search (rules, tests))) in
    rw c.unwrap_or.ensures (nth_part a.text.now a.separator _ a.j c.nth.result _ refl taken (omega arith))
