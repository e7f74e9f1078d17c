-- The room that the search works in: a bytes for each block, of an array of a * 256 bytes (`room_fits`, `room-lent`, `room-counted`), and what
-- stands in the array once the lent part is filled (`room-kept`).
use mathlib.Core.Path.{◌≡◌, sym, ap, ◌∙◌}
use mathlib.Core.List.{List, ◌++◌}
use Prim.Native.Nat.{ℕ, ◌-◌, ◌*◌, ◌%◌, ◌^◌, ◌≤◌, ◌<◌}
use native.Mathlib.Nat.{mod-eq_of_lt, mul-le-mul}
use native.Mathlib.Omega.{arith}
use lib.ListN.{length, take, replicate, length-replicate, length-append}
use lib.Seq.{length-take-le, take_at}
use lib.Pow.{pow_mono}
use Rattle.expansions.proofs.Classes.{most-three}
use Rattle.lanes.specs.declared.sizes.Sizes.{Sizes}

-- whatever the class
pub few : (s : Sizes) → s.k ≤ 3
few s = omega (arith, s.mixed, most-three s.class)

pub blocks-le : (s : Sizes) → s.n - s.k ≤ 8
blocks-le s = omega (arith, s.inputs)

module _ (a : ℕ) (s : Sizes) (few : a ≤ 8) where
  pub room-le : a * 2 ^ (s.n - s.k) ≤ a * 256
  room-le = let same : a ≤ a = omega arith in mul-le-mul same (pow_mono {j = 8} (blocks-le s))

  -- as the code computes it
  pub room-shifted : a * 2 ^ (s.n - s.k) % 2 ^ 64 ≡ a * 2 ^ (s.n - s.k)
  room-shifted = let h : a * 2 ^ (s.n - s.k) < 2 ^ 64 = omega (arith, room-le) in mod-eq_of_lt h

  pub room_fits : a * 2 ^ (s.n - s.k) % 2 ^ 64 ≤ a * 256
  room_fits = omega (arith, room-le, room-shifted)

  -- the first part of an array, lent
  pub room-lent : length {A = ℕ} (take (a * 2 ^ (s.n - s.k) % 2 ^ 64) (replicate (a * 256) 0)) ≡ a * 2 ^ (s.n - s.k)
  room-lent =
      length-take-le (a * 2 ^ (s.n - s.k) % 2 ^ 64) (replicate (a * 256) 0) (omega (arith, room_fits, length-replicate {A = ℕ} (a * 256) 0)) ∙ room-shifted

  pub room-counted : a * 2 ^ (s.n - s.k) % 2 ^ 64 ≡ length {A = ℕ} (take (a * 2 ^ (s.n - s.k) % 2 ^ 64) (replicate (a * 256) 0))
  room-counted = room-shifted ∙ sym room-lent

  -- and lent again, once it holds xs
  pub room-kept : (xs rest : List ℕ) → length xs ≡ a * 2 ^ (s.n - s.k) → take (a * 2 ^ (s.n - s.k) % 2 ^ 64) (xs ++ rest) ≡ xs
  room-kept xs rest e = take_at xs rest (a * 2 ^ (s.n - s.k) % 2 ^ 64) (e ∙ sym room-shifted)

  pub room-fits-again : (xs rest : List ℕ) → length xs ≡ a * 2 ^ (s.n - s.k) → a * 2 ^ (s.n - s.k) % 2 ^ 64 ≤ length (xs ++ rest)
  room-fits-again xs rest e = omega (arith, room-shifted, e, length-append xs rest)

  pub room-counted-again : (xs rest : List ℕ) → length xs ≡ a * 2 ^ (s.n - s.k)
      → a * 2 ^ (s.n - s.k) % 2 ^ 64 ≡ length (take (a * 2 ^ (s.n - s.k) % 2 ^ 64) (xs ++ rest))
  room-counted-again xs rest e = room-shifted ∙ sym (ap length (room-kept xs rest e) ∙ e)
