-- The member whose mixed set is the k lowest inputs and whose literals are all plain. It is one of the class (`lowest-member`), and no member
-- has a lesser M, and with that M a lesser i, and with both a lesser choice in any block (`lowest-first`).
use Prim.Native.Nat.{ℕ, suc, ◌-◌, ◌^◌, ◌≤◌, ◌<◌}
use native.Mathlib.Omega.{arith}
use lib.Pow.{pow_pos, pow_mono}
use Rattle.expansions.specs.declared.kinds.Class.{Class}
use Rattle.expansions.specs.Members.{IsPair, Member}
use Rattle.expansions.specs.Least.{LeastThen}
use Rattle.expansions.proofs.Classes.{choices-some}
use Rattle.expansions.proofs.Split.{gather-zero}
use Rattle.expansions.proofs.Masks.{ones-lowest, ones-least}
use Rattle.expansions.proofs.Least.{then-from}

pub lowest-pair : (n k : ℕ) → k ≤ n → IsPair n k (2 ^ k - 1) 0
lowest-pair n k h =
    record { mask = omega (arith, pow_pos k, pow_mono h); size = ones-lowest n k h; fixed = pow_pos n; clear = gather-zero n (2 ^ k - 1) }

pub lowest-member : (C : Class) (n k : ℕ) → k ≤ n → Member C n k (2 ^ k - 1) 0 (λ j. 0)
lowest-member C n k h = record { pair = lowest-pair n k h; inner = λ j l. choices-some C k }

pub lowest-first : (n k M i : ℕ) (x : ℕ → ℕ) → IsPair n k M i → LeastThen (2 ^ k - 1) M (LeastThen 0 i ((j : ℕ) → j < 2 ^ (n - k) → 0 ≤ x j))
lowest-first n k M i x pair =
    let least : 2 ^ k ≤ suc M = rw pair.size at (ones-least n M) in
    then-from (2 ^ k - 1) M (omega arith) (λ e. then-from 0 i (omega arith) (λ z j l. omega arith))
