-- What is gathered or spread of eight inputs is a byte.
use mathlib.Core.Path.{refl}
use Prim.Native.Nat.{ℕ, ◌^◌, ◌≤◌, ◌<◌}
use native.Mathlib.Omega.{arith}
use lib.Count.{ones_in}
use lib.Pow.{pow_mono}
use Rattle.expansions.specs.Split.{gather, spread}
use Rattle.expansions.proofs.Split.{ones-size, gather-lt, spread-lt}

pub gather-small : (n M x : ℕ) → n ≤ 8 → gather n M x < 2 ^ 8
gather-small n M x h =
    let few : ones_in n M ≤ 8 = omega (arith, ones-size n (ones_in n M) M refl) in
    let size : 2 ^ ones_in n M ≤ 2 ^ 8 = pow_mono few in
    omega (arith, gather-lt n M x)

pub spread-small : (n M y : ℕ) → n ≤ 8 → spread n M y < 2 ^ 8
spread-small n M y h =
    let size : 2 ^ n ≤ 2 ^ 8 = pow_mono h in
    omega (arith, spread-lt n M y)
