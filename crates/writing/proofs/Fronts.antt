-- Bytes at the front of a buffer of zeros, as what a program prints is handed out (`fronted`, `put-fronted`).
use mathlib.Core.List.{List, ◌++◌}
use mathlib.Core.Path.{◌≡◌, ap, ◌∙◌}
use Prim.Native.Nat.{ℕ, ◌-◌, ◌≤◌}
use native.Mathlib.Omega.{arith}
use lib.ListN.{length, take, drop, replicate, length-append, length-replicate}
use lib.Seq.{take-append_seam}
use Rattle.numbers.proofs.Tables.{drop-zeros}
use Rattle.writing.specs.Put.{Put}
use Rattle.writing.proofs.Puts.{put_front}

-- of `room` bytes the first are v, as many as `count` says, and the others are zero
pub record Fronted (room : ℕ) (v held : List ℕ) (count : ℕ) : Type 0 where
  pub counted : count ≡ length v
  pub filled : held ≡ v ++ replicate (room - length v) 0
  pub within : count ≤ length held
  pub shown : take count held ≡ v

pub fronted : (room : ℕ) (v held : List ℕ) (count : ℕ) → length v ≤ room → count ≡ length v → held ≡ v ++ drop (length v) (replicate room 0)
    → Fronted room v held count
fronted room v held count fits counted front =
    let filled : held ≡ v ++ replicate (room - length v) 0 = front ∙ ap (λ (x : List ℕ). v ++ x) (drop-zeros (length v) room fits) in
    record {
      counted = counted;
      filled = filled;
      within = omega (arith, counted, ap length filled, length-append v (replicate (room - length v) 0));
      shown = rw (counted, filled) (take-append_seam v _);
    }

pub put-fronted : (room : ℕ) (v held : List ℕ) (count : ℕ) → length v ≤ room → Put (replicate room 0) 0 v held count → Fronted room v held count
put-fronted room v held count fits put =
    fronted room v held count fits (omega (arith, put.to)) (put_front (omega (arith, length-replicate {A = ℕ} room 0)) put)
