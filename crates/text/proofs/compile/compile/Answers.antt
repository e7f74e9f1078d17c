-- `compile` meets its contract: the text is refused, or its table is compiled.
use mathlib.Core.Path.{◌≡◌, refl, sym, subst}
use Rattle.table_texts.specs.Inner.Reading.{reading, stands_for}
use Rattle.table_texts.proofs.read.Accepted.{reading-accepted, read_whole, reads-given}
use Rattle.text.specs.Compile.{Compile}
use Rattle.text.proofs.compile.Listings.{compile-given, compile-refused}
use Rattle.text.proofs.compile.Tables.{refusal-is}
use Rattle.text.proofs.compile.compile.Goals as goal
use Rattle.text.proofs.compile.compile.Goals.{After-read_table}

means : (c : After-read_table) → stands_for c.read_table.result c.read_table.new.table ≡ reading c.args.text.now
means c = read_whole _ _ _ _ c.read_table.ensures refl

pub compile_table-requires : goal.compile_table-requires
compile_table-requires c = reading-accepted _ _ _ (reads-given _ _ _ _ c.in_ok-design.was (means (goal.at.compile_table-requires c).After-read_table))

pub returns : goal.returns
returns c =
    let e = reads-given _ _ _ _ c.in_ok-design.was (means (goal.at.returns c).After-read_table) in
    compile-given _ _ _ _ _ _ e c.compile_table.ensures.value c.compile_table.ensures.output_after

pub returns-in_err-design : goal.returns-in_err-design
returns-in_err-design c =
    subst (Compile _ _ _) (sym (refusal-is _ c.from_residual.ensures.1))
    (compile-refused _ _ _ _ _ c.in_err-design.was (means (goal.at.returns-in_err-design c).After-read_table))
