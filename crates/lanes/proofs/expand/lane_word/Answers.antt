-- `lane_word` meets its contract: each byte of the word has the bits of the places below p.
use mathlib.Core.Path.{◌≡◌, ◌∙◌, ap}
use Prim.Native.Nat.{ℕ, ◌+◌}
use Rattle.numbers.specs.Bytes.{at}
use Rattle.numbers.specs.Bits.{bit}
use Rattle.numbers.specs.Words.{word}
use Rattle.numbers.proofs.Bits.{bit-lt}
use Rattle.numbers.proofs.WordBits.{word-pack-none, word-pack-more, word-pack-fits}
use Rattle.lanes.proofs.expand.lane_word.Goals as goal
use Rattle.lanes.proofs.expand.lane_word.Goals.{After-outputs_apart}

pub loop-p-init : goal.loop-p-init
loop-p-init c = word-pack-none _

-- the outputs at the place p, each by itself
abbrev outputs_at : (c : After-outputs_apart) → ℕ → ℕ
outputs_at c w = let a = c.args in word 8 (λ o. bit o (at a.table.now (a.point + w)))

read : (c : After-outputs_apart) → c.outputs_apart.result ≡ outputs_at c (at c.args.offsets.now c.loop-p.p)
read c = c.outputs_apart.ensures ∙ ap (outputs_at c) c.from.ensures

pub overflow_add-all : goal.overflow_add-all
overflow_add-all c =
    let l = c.loop-p in
    record { fits = word-pack-fits l.p l.all c.outputs_apart.result _ c.loop-p-test.true (λ o x. bit-lt o _) l.invariant (read c) }

pub loop-p-preserved : goal.loop-p-preserved
loop-p-preserved c =
    let l = c.loop-p in
    word-pack-more l.p l.all c.outputs_apart.result _ c.loop-p-test.true (λ o x. bit-lt o _) l.invariant (read c)
