-- The lines of a listing that pass beside a table, and what stands after them. Document 02, W-201: "A broken listing line, or a term whose t is not above the
-- one before, is 11 with its line in the listing, and so is an end that refusal 6 would catch in a table text"; "counts unlike the lines are 12 with line 1",
-- after every line has passed.
use Rattle.std.specs.Prelude.{List, ◌++◌, ◌≡◌, ℕ, ◌^◌, ◌<◌}
use Rattle.expansions.specs.Costs.{products, literals}
use Rattle.listings.specs.Listing.{line, form_word, inv_line, term_lines}
use Rattle.lines.specs.FirstBad.{NoEnd, NoTerm, end_line}
use Rattle.table_texts.specs.declared.sizes.Sizes.{Sizes}
use Rattle.listing_texts.specs.declared.form.Form.{Form}
use Rattle.listing_texts.specs.Form.{stated_fields, Digits}

-- the first lines of the listing s pass beside a table with the sizes z: a first line with these sizes, "`inv` and m characters", and "`term`, cube, outputs"
-- for some products, "ascending by t"; `before` are their bytes, and `rest` is what follows them
pub record FirstLines (z : Sizes) (s : List ℕ) : Type 0 where
  pub form : Form
  pub digits : Digits form
  pub sizes : form.sizes ≡ z
  pub inverted : ℕ
  pub mask : inverted < 2 ^ z.m
  pub polarity : ℕ → ℕ
  pub coefficient : ℕ → ℕ
  pub outputs : (t : ℕ) → t < 2 ^ z.n → coefficient t < 2 ^ z.m
  pub before : List ℕ
  pub rest : List ℕ
  pub lines : before
      ≡ line (form_word form.sizes.family) (stated_fields form) ++ inv_line z.m inverted ++ term_lines z.n z.m polarity coefficient (2 ^ z.n)
  pub characters : s ≡ before ++ rest

-- then comes no `term` line of a t above those before, and not the line `end`: a broken line, "a term whose t is not above the one before", or the text stops
abbrev pub BadNext : (z : Sizes) (s : List ℕ) → FirstLines z s → Type 0
BadNext z s g = NoTerm z.n z.m g.coefficient g.rest × NoEnd g.rest

-- every line passes, and the products or the literals that the first line states are not those of the lines
abbrev pub CountsUnlike : (z : Sizes) (s : List ℕ) → FirstLines z s → Type 0
CountsUnlike z s g =
    (g.rest ≡ end_line)
    × ((g.form.products ≡ products z.n g.coefficient) × (g.form.literals ≡ literals z.n g.coefficient) → ⊥)
