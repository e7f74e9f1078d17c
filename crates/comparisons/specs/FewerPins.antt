-- Document 02, W-206, "Fewer pins, no dearer", of table texts and their listings: "for any accepted table and any non-empty choice of its outputs, the
-- least cost of the chosen outputs, at the same k and family, is at most the whole's."
use Rattle.std.specs.Prelude.{List, ◌≡◌, ℕ, take, Ok}
use Rattle.numbers.specs.Bytes.{at}
use Rattle.expansions.specs.declared.families.Family.{Family}
use Rattle.expansions.specs.Rules.{NoDearer}
use Rattle.expansions.specs.Rivals.{HasLeast}
use Rattle.expansions.specs.Outputs.{chosen_outputs, chosen_table, FewerOutputs}
use Rattle.listings.specs.Meaning.{stated_products, stated_literals}
use Rattle.table_texts.specs.declared.sizes.Design.{Design}
use Rattle.table_texts.specs.Accepted.{Accepted}
use Rattle.table_texts.specs.Inner.Reading.{given, reading}
use Rattle.text.specs.Compile.{Compile}
use Rattle.text.specs.Print.{Print}
use Rattle.comparisons.specs.Choices.{chosen_design, chosen_text}

-- the counts on the first line of a listing cost no more than those on another's, as the family weighs them
abbrev pub ListedNoDearer : Family → (listing other : List ℕ) → Type 0
ListedNoDearer family listing other = NoDearer family (stated_products listing) (stated_literals listing) (stated_products other) (stated_literals other)

-- the text `fewer` is accepted, and means the chosen outputs of the table t of the design d: "at the same k and family"
abbrev pub MeansChosen : (fewer : List ℕ) → Design → List ℕ → ℕ → Type 0
MeansChosen fewer d t s = reading fewer ≡ given (chosen_design s d) (chosen_table d.m s t)

-- the table of a design has a least cost
abbrev pub HasLeastCost : Design → List ℕ → Type 0
HasLeastCost d t = HasLeast d.n d.family d.kind (at t)

-- W-206, "Fewer pins, no dearer", "for any accepted table": of a text that is accepted, with the design d and the table t, and of a choice s of its outputs
pub record FewerPins (text : List ℕ) (d : Design) (t : List ℕ) (s : ℕ) : Type 0 where
  -- the chosen outputs are a table that is accepted
  pub accepted : Accepted (chosen_design s d) (chosen_table d.m s t)
  pub table : (p : ℕ) → at (chosen_table d.m s t) p ≡ chosen_outputs d.m s (at t p)
  -- the whole and the chosen outputs have a least cost each, and that of the chosen ones is no more
  pub least : HasLeastCost d t
  pub chosen_least : HasLeastCost (chosen_design s d) (chosen_table d.m s t)
  pub fewer : FewerOutputs d.n d.m d.family d.kind (at t) s
  -- the text with the other outputs left out means the chosen ones
  pub left_out : MeansChosen (chosen_text s text) d t s
  -- and whatever text means them: the listing that the text call writes for it costs no more than the one that it writes for the whole, and likewise
  -- those that the program prints
  pub written : (fewer : List ℕ) → MeansChosen fewer d t s → (before after before' after' : List ℕ) (count count' : ℕ)
      → Compile text before after (Ok count) → Compile fewer before' after' (Ok count')
      → ListedNoDearer d.family (take count' after') (take count after)
  pub printed : (fewer : List ℕ) → MeansChosen fewer d t s → (held held' : List ℕ) (count count' : ℕ) → Print text held count → Print fewer held' count'
      → ListedNoDearer d.family (take count' held') (take count held)
