-- `search_kinds` meets its contract: the walk's lowest score is the answer's.
use mathlib.Core.Path.{refl, sym, ◌∙◌}
use Prim.Native.Nat.{◌/◌}
use native.Mathlib.Omega.{arith}
use lib.Bits.{and_mask}
use Rattle.numbers.specs.Bytes.{at}
use Rattle.expansions.proofs.Kronecker.Walking.{place-start}
use Rattle.expansions.proofs.Kronecker.Lowering.{lowered-answer}
use Rattle.kronecker.proofs.expansion.Answer.{answer-record}
use Rattle.kronecker.proofs.answer.search_kinds.Goals as goal

pub walk-best-requires : goal.walk-best-requires
walk-best-requires c =
    let p = c.requires in
    let table = c.args.table.now in
    (at table, place-start _ table _ _ p.0 p.1 p.2 c.padded-values.ensures refl)

pub returns : goal.returns
returns c =
    let p = c.requires in
    let table = c.args.table.now in
    let w = c.walk-best in
    let first = place-start _ table _ _ p.0 p.1 p.2 c.padded-values.ensures refl in
    let answer = lowered-answer _ (at table) p.1 1099511627776 w.result (omega arith) (w.ensures (at table) first) in
    let kind = and_mask w.result 13 in
    let literals = and_mask (w.result / 8192) 12 in
    rw (sym literals) at (answer-record _ (at table) p.1 _ _ _ _ answer.0 (kind ∙ answer.1) c.letters_of-letters.ensures c.coefficients-coefficients.ensures)
