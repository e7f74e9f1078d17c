-- Where a table is accepted, so is the table of chosen outputs of it (`chosen-accepted`).
use mathlib.Core.List.{List}
use mathlib.Core.Path.{ap, ◌∙◌}
use Prim.Native.Nat.{ℕ}
use native.Mathlib.Omega.{arith}
use lib.ListN.{length-map}
use Rattle.numbers.specs.Bytes.{at}
use Rattle.expansions.specs.Outputs.{IsChoice, chosen_outputs, chosen_table}
use Rattle.expansions.proofs.Split.{gather-zero}
use Rattle.expansions.proofs.Outputs.{chosen_at, fewer-outputs}
use Rattle.table_texts.specs.declared.sizes.Design.{Design}
use Rattle.table_texts.specs.Accepted.{Accepted}
use Rattle.comparisons.specs.Choices.{chosen_design}

pub chosen-accepted : (d : Design) (t : List ℕ) (s : ℕ) → IsChoice d.m s → Accepted d t → Accepted (chosen_design s d) (chosen_table d.m s t)
unfolding chosen_table
chosen-accepted d t s choice a =
    let fewer = fewer-outputs d.n d.m d.family d.kind (at t) s choice in
    record {
      sized = record {
        inputs = a.sized.inputs;
        outputs = (omega (arith, fewer.some), omega (arith, fewer.few, a.sized.outputs));
        mixed = a.sized.mixed;
        family = a.sized.family;
      };
      table = record {
        long = length-map t (chosen_outputs d.m s) ∙ a.table.long;
        small = λ p. rw (chosen_at d.m s t p) (fewer.outputs p);
        rest = λ p h. chosen_at d.m s t p ∙ ap (chosen_outputs d.m s) (a.table.rest p h) ∙ gather-zero d.m s;
      };
    }
