-- `judge_text` meets its contract: the first line's verdict, or what the lines after it mean.
use mathlib.Core.Path.{◌≡◌, ap, sym, ◌∙◌}
use Prim.Native.Nat.{ℕ, ◌<◌}
use native.Mathlib.Omega.{arith}
use lib.ListN.{length}
use lib.Seq.{length-take-le}
use Rattle.std.proofs.Common.{rules}
use Rattle.listings.specs.Inner.Stops.{stop}
use Rattle.listings.proofs.Parts.{stop_le}
use Rattle.table_texts.specs.Inner.Reading.{stands_for}
use Rattle.table_texts.proofs.read.Accepted.{first-sized}
use Rattle.table_texts.proofs.read.Steps.{text-unfinished, text-judged}
use Rattle.table_texts.proofs.read.judge_text.Goals as goal
use Rattle.table_texts.proofs.read.judge_text.Goals.{After-next_line, After-seek-stop, Else-to-text}

-- where the first line stops
first-stop : (c : After-seek-stop) → c.seek-stop.result.at ≡ stop 10 c.args.text.now 0
first-stop c = c.seek-stop.ensures.0 ∙ ap (λ (i : ℕ). stop 10 c.args.text.now i) c.new.ensures.0

-- the cursor there is on line 1
first-line : (c : After-seek-stop) → c.seek-stop.result.line ≡ 1
first-line c = c.seek-stop.ensures.1 ∙ c.new.ensures.1

-- the first line ends before the text does
before-end : (c : Else-to-text) → c.seek-stop.result.at < length c.args.text.now
before-end c = omega (arith, first-stop (goal.at.Else-to-text c).After-seek-stop, stop_le 10 c.args.text.now 0 (omega arith))

-- the line after the first is line 2
second-line : (c : After-next_line) → c.next_line.result.line ≡ 2
second-line c =
    omega (arith, first-line (goal.at.After-next_line c).After-seek-stop, c.next_line.ensures.1)

pub returns-then-to-text : goal.returns-then-to-text
unfolding stands_for
returns-then-to-text c =
    let at = (goal.at.returns-then-to-text c).After-seek-stop in
    rw (c.at.ensures, c.unfinished.ensures, first-line at) (sym (text-unfinished _ _ (first-stop at) (omega arith)))

pub slice_bounds-judge_first-end : goal.slice_bounds-judge_first-end
slice_bounds-judge_first-end c = sym (length-take-le _ _ (omega (arith, before-end c)))

pub returns-in_err-design : goal.returns-in_err-design
unfolding stands_for
returns-in_err-design c =
    let same : c.from_residual.result ≡ c.judge_first.result = search rules in
    rw same
    (sym
    (text-judged _ _ (first-stop (goal.at.returns-in_err-design c).After-seek-stop) (before-end (goal.at.returns-in_err-design c).Else-to-text)
    ∙ rw (← c.judge_first.ensures, c.in_err-design.was)))

pub judge_points-requires : goal.judge_points-requires
judge_points-requires c =
    let limits = first-sized _ _ (sym c.judge_first.ensures ∙ c.in_ok-design.was) in
    let at = c.next_line.ensures.0 in
    let line = second-line (goal.at.judge_points-requires c).After-next_line in
    (record { inside = omega (arith, before-end (goal.at.judge_points-requires c).Else-to-text, at); counted = omega (arith, at) }, limits.inputs.1, limits.outputs.1)

pub returns : goal.returns
returns c =
    c.judge_points.ensures
    ∙ rw (c.next_line.ensures.0, second-line (goal.at.returns c).After-next_line, c.requires)
    (sym
    (text-judged _ _ (first-stop (goal.at.returns c).After-seek-stop) (before-end (goal.at.returns c).Else-to-text)
    ∙ rw (← c.judge_first.ensures, c.in_ok-design.was)))
