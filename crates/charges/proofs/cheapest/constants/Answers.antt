-- Each byte of the word has the lowest bits of the outputs below `output`, as the bytes of their rows have them.
use mathlib.Core.Path.{◌≡◌, ◌∙◌, ap}
use Prim.Native.Nat.{ℕ, ◌+◌, ◌*◌}
use native.Mathlib.Nat.{zero-add}
use native.Mathlib.Omega.{arith}
use Rattle.numbers.specs.Bytes.{at}
use Rattle.numbers.specs.Bits.{bit, pack}
use Rattle.numbers.specs.Words.{word, byte}
use Rattle.numbers.proofs.Bits.{bit-lt}
use Rattle.numbers.proofs.Pack.{pack-ext}
use Rattle.numbers.proofs.Words.{word-ext}
use Rattle.numbers.proofs.WordBits.{word-pack-none, word-pack-more, word-pack-fits}
use Rattle.expansions.specs.BlockTable.{choice_entry}
use Rattle.lanes.specs.Inner.Terms.{coefficient_in}
use Rattle.charges.proofs.cheapest.FirstTerms.{lowest, first-terms, entries-first}
use Rattle.charges.proofs.cheapest.constants.Goals as goal
use Rattle.charges.proofs.cheapest.constants.Goals.{After-row_of}

pub loop-output-init : goal.loop-output-init
loop-output-init c = word-pack-none _

-- the lowest bit of each byte of the row of an output
abbrev firsts : After-row_of → ℕ → ℕ → ℕ
firsts c q p = let a = c.args in bit 0 (byte q (at a.rows.now (a.half * 256 + at a.lanes.now p)))

read : (c : After-row_of) → lowest c.row_of.result ≡ word 8 (λ q. firsts c q c.loop-output.output)
read c =
    let a = c.args in
    first-terms c.row_of.result c.row_of.type_inv
    ∙ word-ext 8 _ _
    (λ q h. ap (λ (x : ℕ). bit 0 (byte q x)) (c.row_of.ensures ∙ ap (λ (o : ℕ). at a.rows.now (a.half * 256 + at a.lanes.now o)) (zero-add c.loop-output.output)))

pub overflow_add-all : goal.overflow_add-all
overflow_add-all c =
    let l = c.loop-output in
    record { fits = word-pack-fits l.output l.all _ (firsts c) c.loop-output-test.true (λ q p. bit-lt 0 _) l.invariant (read c) }

pub loop-output-preserved : goal.loop-output-preserved
loop-output-preserved c =
    let l = c.loop-output in
    word-pack-more l.output l.all _ (firsts c) c.loop-output-test.true (λ q p. bit-lt 0 _) l.invariant (read c)

pub returns : goal.returns
unfolding coefficient_in
returns c C k held h =
    let l = c.loop-output in
    let a = c.args in
    let e : l.output ≡ 8 = omega arith in
    l.invariant ∙ ap (λ (o : ℕ). word 8 (λ q. pack o (λ p. bit 0 (byte q (at a.rows.now (a.half * 256 + at a.lanes.now p)))))) e
    ∙ word-ext 8 _ _ (λ q b. pack-ext 8 _ _ (λ p s.
    ap (bit 0) (entries-first C k a.rows.now held a.half h (at a.lanes.now p) (c.type_inv.lanes p).fits q b)
    ∙ ap (λ (r : ℕ). bit 0 (choice_entry C k (at a.lanes.now r) (a.half * 8 + q))) (first p)))
  where
    -- the outputs of block 0 stand first
    first : (p : ℕ) → p ≡ 0 * 8 + p
    first p = omega arith
