-- What a judgement with no refusal says: every test has passed, and the sizes are document 01's (`table_none`, `sizes-none`); and back. What the refusals say, in
-- words (`table-refusals`, `sizes-refusals`).
use mathlib.Core.Path.{◌≡◌, refl, ap, sym, ◌∙◌}
use mathlib.Core.Bool.{Bool, true, false, ◌&&◌, false≢true}
use mathlib.Core.List.{List}
use Prim.Native.Nat.{ℕ, ◌-◌, ◌*◌, ◌^◌, ◌%◌, ◌≤◌}
use native.Mathlib.Omega.{arith}
use borrow.Author.Tests.{le-leb}
use lib.Dec.{T, leb, leb→le}
use Rattle.std.specs.Prelude.{Result, Ok, Err, is_ok, IsErrAnd}
use Rattle.numbers.specs.declared.refusals.Refusal.{Refusal}
use Rattle.numbers.specs.declared.refusals.Refusal.TheVariants.{InputCount, OutputCount, MixedCount}
use Rattle.numbers.specs.declared.refusals.Refused.{Refused}
use Rattle.numbers.specs.Refusals.{Judgement, number_of, declined, unless, or_else, unless_refused, table_refusal, sizes_refusal, TableSized, Sized, TableRefusals, SizesRefusals}
use Rattle.numbers.proofs.Shifts.{one_shifted}
use Rattle.numbers.proofs.Tests.{and_left, and_right}

-- ---- one refusal, and the next

-- a judgement that passes
abbrev pub Passed : Judgement → Type 0
Passed x = x ≡ Ok tt

-- the number of a judgement's refusal, and 0 where there is none
abbrev pub number_told : Judgement → ℕ
number_told (Ok _) = 0
number_told (Err why) = number_of why

refused-passes : (why : Refusal) → Passed (Err why) → ⊥
refused-passes why e = false≢true (ap is_ok e)

-- a test that fails refuses
pub passed : (a : Bool) (why : Refusal) (rest : Judgement) → Passed (unless a why rest) → T a × Passed rest
passed true why rest e = (tt, e)
passed false why rest e = absurd (refused-passes why e)

pub or_else_none : (x rest : Judgement) → Passed (or_else x rest) → Passed x × Passed rest
or_else_none (Ok _) rest e = (refl, e)
or_else_none (Err why) rest e = absurd (refused-passes why e)

pub ok_passed : (x : Judgement) → is_ok x ≡ true → Passed x
ok_passed (Ok _) e = refl
ok_passed (Err why) e = absurd (false≢true e)

pub kept : (x : Judgement) (filled before : List ℕ) (why : Refusal) → x ≡ Err why → before ≡ unless_refused x filled before
kept (Ok _) filled before why e = absurd (refused-passes why (sym e))
kept (Err _) filled before why e = refl

-- what the `?` of a call without text returns
pub passed_up : {A : Type 0} (r : Result A Refused) (why : Refusal) → IsErrAnd r (λ e. e ≡ declined why 0) → r ≡ Err (declined why 0)
passed_up (Ok x) why told = absurd told
passed_up (Err e) why told = ap Err told

-- a call that refused did not accept
pub refused_accepted : {A B : Type 0} (r : Result A Refused) (e : Refused) (x : A) → r ≡ Err e → r ≡ Ok x → B
refused_accepted r e x refused accepted = absurd (false≢true (ap is_ok (sym refused ∙ accepted)))

-- ---- the sizes

both_le : (a b c d : ℕ) → T (leb a b && leb c d) → (a ≤ b) × (c ≤ d)
both_le a b c d t = (leb→le a b (and_left (leb a b) (leb c d) t), leb→le c d (and_right (leb a b) (leb c d) t))

pub table_none : (n m : ℕ) → Passed (table_refusal n m) → TableSized n m
unfolding table_refusal
table_none n m e =
    let a = passed (leb 1 n && leb n 8) InputCount _ e in
    let b = passed (leb 1 m && leb m 8) OutputCount _ a.1 in
    record { inputs = both_le 1 n n 8 a.0; outputs = both_le 1 m m 8 b.0 }

-- so the shift by n is one of a word, and gives the number of points: what code knows of n where its judge of a table passed
pub table_exponent : (n m : ℕ) → Passed (table_refusal n m) → n ≤ 8
table_exponent n m e = (table_none n m e).inputs.1

pub table_points : (n m : ℕ) → Passed (table_refusal n m) → 1 * 2 ^ n % 2 ^ 64 ≡ 2 ^ n
table_points n m e = one_shifted n (omega (arith, table_exponent n m e))

pub sized_exponent : (n m : ℕ) → is_ok (table_refusal n m) ≡ true → n ≤ 8
sized_exponent n m e = table_exponent n m (ok_passed (table_refusal n m) e)

pub sized_points : (n m : ℕ) → is_ok (table_refusal n m) ≡ true → 1 * 2 ^ n % 2 ^ 64 ≡ 2 ^ n
sized_points n m e = table_points n m (ok_passed (table_refusal n m) e)

pub ruleset table_shifts = (table_exponent, table_points, sized_exponent, sized_points)

pub table-accepted : (n m : ℕ) → TableSized n m → Passed (table_refusal n m)
unfolding table_refusal
table-accepted n m s =
    rw (le-leb 1 n s.inputs.0, le-leb n 8 s.inputs.1, le-leb 1 m s.outputs.0, le-leb m 8 s.outputs.1)

pub sizes-none : (n m most k : ℕ) → Passed (sizes_refusal n m most k) → Sized n m most k
unfolding sizes_refusal
sizes-none n m most k e =
    let a = or_else_none (table_refusal n m) _ e in
    let t = table_none n m a.0 in
    record { inputs = t.inputs; outputs = t.outputs; mixed = both_le k most k n (passed (leb k most && leb k n) MixedCount _ a.1).0 }

-- and where its judge of a design passed, with the number of blocks
pub sizes_exponent : (n m most k : ℕ) → Passed (sizes_refusal n m most k) → n ≤ 8
sizes_exponent n m most k e = (sizes-none n m most k e).inputs.1

pub sizes_mixed : (n m most k : ℕ) → Passed (sizes_refusal n m most k) → k ≤ n
sizes_mixed n m most k e = (sizes-none n m most k e).mixed.1

pub sizes_points : (n m most k : ℕ) → Passed (sizes_refusal n m most k) → 1 * 2 ^ n % 2 ^ 64 ≡ 2 ^ n
sizes_points n m most k e = one_shifted n (omega (arith, sizes_exponent n m most k e))

pub sizes_blocks : (n m most k : ℕ) → Passed (sizes_refusal n m most k) → 1 * 2 ^ (n - k) % 2 ^ 64 ≡ 2 ^ (n - k)
sizes_blocks n m most k e = one_shifted (n - k) (omega (arith, sizes_exponent n m most k e))

pub ruleset sizes_shifts = (sizes_exponent, sizes_mixed, sizes_points, sizes_blocks)

pub sizes-accepted : (n m most k : ℕ) → Sized n m most k → Passed (sizes_refusal n m most k)
unfolding sizes_refusal
sizes-accepted n m most k s =
    let t : TableSized n m = record { inputs = s.inputs; outputs = s.outputs } in
    rw (table-accepted n m t, le-leb k most s.mixed.0, le-leb k n s.mixed.1)

-- ---- the sizes in words

pub passes : (b : Bool) → T b → b ≡ true
passes true t = refl
passes false t = absurd t

pub fails : (b : Bool) → (T b → ⊥) → b ≡ false
fails true none = absurd (none tt)
fails false none = refl

pub both-fail : (a b c d : ℕ) → ((a ≤ b) × (c ≤ d) → ⊥) → (leb a b && leb c d) ≡ false
both-fail a b c d none = fails (leb a b && leb c d) (λ t. none (both_le a b c d t))

pub table-two : (n m : ℕ) → ((1 ≤ n) × (n ≤ 8) → ⊥) → table_refusal n m ≡ Err InputCount
unfolding table_refusal
table-two n m none = rw (both-fail 1 n n 8 none)

pub table-three : (n m : ℕ) → (1 ≤ n) × (n ≤ 8) → ((1 ≤ m) × (m ≤ 8) → ⊥) → table_refusal n m ≡ Err OutputCount
unfolding table_refusal
table-three n m h none = rw (le-leb 1 n h.0, le-leb n 8 h.1, both-fail 1 m m 8 none)

pub table-refusals : (n m : ℕ) (P : Refusal → Type 0) → ((why : Refusal) → table_refusal n m ≡ Err why → P why) → TableRefusals n m P
table-refusals n m P told =
    record { inputs = λ none. told InputCount (table-two n m none); outputs = λ h none. told OutputCount (table-three n m h none) }

pub sizes-refusals : (n m most k : ℕ) (P : Refusal → Type 0) → ((why : Refusal) → sizes_refusal n m most k ≡ Err why → P why) → SizesRefusals n m most k P
unfolding sizes_refusal
sizes-refusals n m most k P told =
    record {
      table = table-refusals n m P (λ why e. told why (rw e));
      mixed = λ s none. told MixedCount (rw (table-accepted n m s, both-fail k most k n none));
    }

-- a refusal of sizes is 2, 3 or 4
pub sizes-most : (n m most k : ℕ) → number_told (sizes_refusal n m most k) ≤ 4
unfolding sizes_refusal table_refusal
sizes-most n m most k = go (leb 1 n && leb n 8) (leb 1 m && leb m 8) (leb k most && leb k n)
  where
    go : (a b c : Bool) → number_told (or_else (unless a InputCount (unless b OutputCount (Ok tt))) (unless c MixedCount (Ok tt))) ≤ 4
    go false b c = omega arith
    go true false c = omega arith
    go true true false = omega arith
    go true true true = omega arith
