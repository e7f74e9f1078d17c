-- Runs of bytes joined with others: a run, and the run that follows it (`run-append`).
use mathlib.Core.Path.{◌≡◌, ap₂, ◌∙◌}
use mathlib.Core.List.{List}
use Prim.Native.Nat.{ℕ, ◌+◌, ◌-◌, ◌*◌, ◌≤◌, ◌<◌}
use native.Mathlib.Nat.{suc-mul, add-mul, mul-le-mul_right}
use native.Mathlib.Decide.{dec_lt}
use native.Mathlib.Omega.{arith}
use lib.Bits.{bit_xor}
use Rattle.numbers.specs.Bytes.{at}
use Rattle.algebra.specs.Inner.Steps.{RunJoined, Apart, ahead, behind}

-- what stands in the one run is not changed in the other
apart-kept : (to from N i K : ℕ) (b c : List ℕ) → Apart to from K → N ≤ i → i < K → RunJoined to from N b c → at c (from + i) ≡ at b (from + i)
apart-kept to from N i K b c (ahead h) l k r = r.above (from + i) (omega arith)
apart-kept to from N i K b c (behind h) l k r = r.below (from + i) (omega arith)

pub run-append : (to from N L K : ℕ) (a b c : List ℕ) → Apart to from K → N + L ≤ K → RunJoined to from N a b → RunJoined (to + N) (from + N) L b c
    → RunJoined to from (N + L) a c
run-append to from N L K a b c p h f g =
    record {
      long = g.long ∙ f.long;
      below = λ x l. g.below x (omega arith) ∙ f.below x l;
      within = λ i l. go i l (dec_lt i N);
      above = λ x l. g.above x (omega arith) ∙ f.above x (omega arith);
    }
  where
    go : (i : ℕ) → i < N + L → Dec (i < N) → at c (to + i) ≡ bit_xor (at a (to + i)) (at a (from + i))
    go i l (yes k) = g.below (to + i) (omega arith) ∙ f.within i k
    go i l (no k) =
        let x : to + N + (i - N) ≡ to + i = omega arith in
        let y : from + N + (i - N) ≡ from + i = omega arith in
        let w : at c (to + i) ≡ bit_xor (at b (to + i)) (at b (from + i)) = rw (x, y) at (g.within (i - N) (omega arith)) in
        w ∙ ap₂ bit_xor (f.above (to + i) (omega arith)) (apart-kept to from N i K a b p (omega arith) (omega arith) f)

-- a run of N bytes more
pub run-more : (to from q N K : ℕ) (a b c : List ℕ) → Apart (to * N) (from * N) (K * N) → q < K → RunJoined (to * N) (from * N) (q * N) a b
    → RunJoined ((to + q) * N) ((from + q) * N) N b c → RunJoined (to * N) (from * N) ((q + 1) * N) a c
run-more to from q N K a b c p h f g =
    let e : (q + 1) * N ≡ q * N + N = omega arith in
    rw e (run-append (to * N) (from * N) (q * N) N (K * N) a b c p (omega (arith, mul-le-mul_right N h, suc-mul q N)) f (rw (add-mul to q N, add-mul from q N) at g))
