-- `quote` meets its contract: the text is refused, or its table is quoted.
use mathlib.Core.List.{List}
use mathlib.Core.Path.{◌≡◌, refl, sym, ap, subst}
use Prim.Native.Nat.{ℕ}
use Rattle.std.proofs.Common.{rules}
use Rattle.std.specs.Prelude.{Result, Ok, Err}
use Rattle.std.specs.Result.{IsErrAnd}
use Rattle.numbers.specs.declared.refusals.Refused.{Refused}
use Rattle.table_texts.specs.declared.sizes.Design.{Design}
use Rattle.table_texts.specs.Inner.Reading.{reading, stands_for}
use Rattle.table_texts.proofs.read.Accepted.{reading-accepted, read_whole, reads-given, reads-refused}
use Rattle.text.proofs.compile.Tables.{refusal-is}
use Rattle.quote_text.specs.declared.quote.Quotation.{Quotation}
use Rattle.quote_text.specs.Quote.{Quote}
use Rattle.quote_text.specs.Inner.Quoted.{quoted}
use Rattle.quote_text.proofs.quote.Meaning.{quote-meaning}
use Rattle.quote_text.proofs.quote.quote.Goals as goal
use Rattle.quote_text.proofs.quote.quote.Goals.{After-read_table}

means : (c : After-read_table) → stands_for c.read_table.result c.read_table.new.table ≡ reading c.args.text.now
means c = read_whole _ _ _ _ c.read_table.ensures refl

-- a refusal that is returned is that of the reading
refused-quote : (text table : List ℕ) (q : Result Design Refused) (r : Result Quotation Refused) (e : Refused) → IsErrAnd r (λ x. x ≡ e) → q ≡ Err e
    → stands_for q table ≡ reading text → Quote text r
unfolding quoted
refused-quote text table q r e is read stands =
    subst (Quote text) (sym (refusal-is r is)) (quote-meaning text (Err e) _ (reads-refused q table e (reading text) read stands) refl)

pub quote_table-requires : goal.quote_table-requires
quote_table-requires c =
    let read : c.read_table.result ≡ Ok c.in-Ok.design = search rules in
    reading-accepted _ _ _ (reads-given _ _ _ _ read (means (goal.at.quote_table-requires c).After-read_table))

pub returns-in-Ok : goal.returns-in-Ok
unfolding quoted
returns-in-Ok c =
    let read : c.read_table.result ≡ Ok c.in-Ok.design = search rules in
    quote-meaning _ _ _ (reads-given _ _ _ _ read (means (goal.at.returns-in-Ok c).After-read_table)) (ap Ok c.quote_table.ensures)

pub returns-in-Err : goal.returns-in-Err
returns-in-Err c =
    refused-quote _ _ _ _ _ refl (search rules) (means (goal.at.returns-in-Err c).After-read_table)
