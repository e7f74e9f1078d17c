-- What is written at the front of 4,352 zeros is handed out as what is said (`said-holds`).
use mathlib.Core.List.{List, ◌++◌}
use mathlib.Core.Path.{◌≡◌, ap, ◌∙◌}
use Prim.Native.Nat.{ℕ, ◌-◌, ◌≤◌}
use native.Mathlib.Omega.{arith}
use lib.ListN.{length, replicate, length-append, length-replicate}
use Rattle.numbers.proofs.Tables.{drop-zeros}
use Rattle.writing.specs.Put.{Put}
use Rattle.writing.proofs.Puts.{put_front}
use Rattle.refusal_words.specs.Sentences.{Said}

pub said-holds : (said held : List ℕ) (count : ℕ) → count ≤ 4352 → Put (replicate {A = ℕ} 4352 0) 0 said held count → Said said held count
said-holds said held count small put =
    let room : length (replicate {A = ℕ} 4352 0) ≡ 4352 = length-replicate {A = ℕ} 4352 0 in
    let fits : length said ≤ 4352 = omega (arith, put.to) in
    let filled : held ≡ said ++ replicate (4352 - length said) 0 =
    put_front (omega (arith, room)) put ∙ ap (λ (v : List ℕ). said ++ v) (drop-zeros (length said) 4352 fits) in
    record {
      counted = omega (arith, put.to);
      filled = filled;
      within = omega (arith, put.to, ap length filled, length-append said (replicate (4352 - length said) 0));
    }
