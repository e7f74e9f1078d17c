-- `write_words` meets its contract, number by number.
use mathlib.Core.Path.{◌≡◌}
use Prim.Native.Nat.{ℕ, suc, ◌≤◌, zero-le}
use native.Mathlib.Omega.{arith}
use lib.ListN.{get_or-eq_default}
use Rattle.listings.specs.Parts.{bytes}
use Rattle.refusal_words.specs.Sentences.{refusal_words, words_in_order}
use Rattle.refusal_words.proofs.sentence.write_words.Goals as goal

pub returns-in-0 : goal.returns-in-0
unfolding refusal_words bytes
returns-in-0 c = rw c.in-0.is (omega arith, c.word.ensures)

pub returns-in-1 : goal.returns-in-1
unfolding refusal_words bytes
returns-in-1 c = rw c.in-1.is (omega arith, c.word-in-1.ensures)

pub returns-in-2 : goal.returns-in-2
unfolding refusal_words bytes
returns-in-2 c = rw c.in-2.is (omega arith, c.word-in-2.ensures)

pub returns-in-3 : goal.returns-in-3
unfolding refusal_words bytes
returns-in-3 c = rw c.in-3.is (omega arith, c.word-in-3.ensures)

pub returns-in-4 : goal.returns-in-4
unfolding refusal_words bytes
returns-in-4 c = rw c.in-4.is (omega arith, c.word-in-4.ensures)

pub returns-in-5 : goal.returns-in-5
unfolding refusal_words bytes
returns-in-5 c = rw c.in-5.is (omega arith, c.word-in-5.ensures)

pub returns-in-6 : goal.returns-in-6
unfolding refusal_words bytes
returns-in-6 c = rw c.in-6.is (omega arith, c.word-in-6.ensures)

pub returns-in-7 : goal.returns-in-7
unfolding refusal_words bytes
returns-in-7 c = rw c.in-7.is (omega arith, c.word-in-7.ensures)

pub returns-in-8 : goal.returns-in-8
unfolding refusal_words bytes
returns-in-8 c = rw c.in-8.is (omega arith, c.word-in-8.ensures)

pub returns-in-9 : goal.returns-in-9
unfolding refusal_words bytes
returns-in-9 c = rw c.in-9.is (omega arith, c.word-in-9.ensures)

pub returns-in-10 : goal.returns-in-10
unfolding refusal_words bytes
returns-in-10 c = rw c.in-10.is (omega arith, c.word-in-10.ensures)

pub returns-in-11 : goal.returns-in-11
unfolding refusal_words bytes
returns-in-11 c = rw c.in-11.is (omega arith, c.word-in-11.ensures)

pub returns-in-12 : goal.returns-in-12
unfolding refusal_words bytes
returns-in-12 c = rw c.in-12.is (omega arith, c.word-in-12.ensures)

-- a number that is at least k, and is not k, is above it
past : (k number : ℕ) → k ≤ number → (number ≡ k → ⊥) → suc k ≤ number
past k number h other = omega arith

pub returns-in_default : goal.returns-in_default
unfolding refusal_words bytes
returns-in_default c =
    let number = c.args.number in
    let others = c.in_default.in_default-own.rest in
    let a1 = past 0 number zero-le others.0.0.0.0.0.0.0.0.0.0.0.0.1 in
    let a2 = past 1 number a1 others.0.0.0.0.0.0.0.0.0.0.0.1 in
    let a3 = past 2 number a2 others.0.0.0.0.0.0.0.0.0.0.1 in
    let a4 = past 3 number a3 others.0.0.0.0.0.0.0.0.0.1 in
    let a5 = past 4 number a4 others.0.0.0.0.0.0.0.0.1 in
    let a6 = past 5 number a5 others.0.0.0.0.0.0.0.1 in
    let a7 = past 6 number a6 others.0.0.0.0.0.0.1 in
    let a8 = past 7 number a7 others.0.0.0.0.0.1 in
    let a9 = past 8 number a8 others.0.0.0.0.1 in
    let a10 = past 9 number a9 others.0.0.0.1 in
    let a11 = past 10 number a10 others.0.0.1 in
    let a12 = past 11 number a11 others.0.1 in
    let a13 = past 12 number a12 others.1 in
    rw (get_or-eq_default words_in_order (bytes "no refusal has this number") {n = number} a13) (omega arith, c.word-in_default.ensures)
