use mathlib.Core.Path.{◌≡◌}
use Prim.Native.Nat.{◌-◌}
use lib.ListN.{length}
use Rattle.lines.specs.Inner.Steps.{Within, rows_at}
use Rattle.lines.proofs.judge.judge_rows.Given as goal

abbrev pub invariant-loop-next : goal.invariant-loop-next
invariant-loop-next l =
    Within l.text l.cursor
    × (rows_at l.text l.grammar l.cursor l.least l.rows ≡ rows_at l.text l.grammar l.initial.cursor l.initial.least l.initial.rows)

abbrev pub decreases-loop-next : goal.decreases-loop-next
decreases-loop-next l = length l.text - l.cursor.at
