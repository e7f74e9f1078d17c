-- The answer of a table, by the kind of k: of a class with k mixed inputs, document 01's or document 02's free class, or of the Kronecker expansions.
use Rattle.std.specs.Prelude.{List, ℕ}
use Rattle.numbers.specs.Bytes.{at}
use Rattle.expansions.specs.declared.families.Family.{Family}
use Rattle.expansions.specs.declared.kinds.Kind.{Kind}
use Rattle.expansions.specs.declared.kinds.Kind.TheVariants.{Mixed, Kronecker}
use Rattle.search.specs.Inner.Answer.{answer_expansion}
use Rattle.kronecker.specs.Inner.Answer.{answer_kronecker}
use Rattle.table_texts.specs.declared.sizes.Design.{Design}
use Rattle.table_texts.specs.Design.{mixed_design, kronecker_design}
use Rattle.table_texts.specs.Accepted.{Accepted}
use Rattle.table_answers.specs.declared.answers.Answer.{Answer}
use Rattle.table_answers.specs.declared.answers.Answer.TheVariants as answer

-- the answer of each kind
abbrev pub kind_answer : Family → ℕ → ℕ → Kind → List ℕ → Answer
kind_answer family n m (Mixed C k) table =
    answer.Mixed (record { n = n; m = m; class = C; k = k; family = family }) (answer_expansion C family n k (at table))
kind_answer family n m Kronecker table = answer.Kronecker n m (answer_kronecker n (at table))

-- the answer for a table of the design d
unfoldable pub answer_for : Design → List ℕ → Answer
answer_for d table = kind_answer d.family d.n d.m d.kind table

-- the table is one of the design whose sizes the answer states
abbrev pub SizesAccepted : Answer → List ℕ → Type 0
SizesAccepted (answer.Mixed z e) table = Accepted (mixed_design z) table
SizesAccepted (answer.Kronecker n m e) table = Accepted (kronecker_design n m) table
