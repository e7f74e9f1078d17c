-- What the functions of this crate, and the search above it, ask of the numbers that they are given. Cited by the contracts of this crate's
-- functions and of private functions of `search`; the contract of no call rests on this file.
use Rattle.std.specs.Prelude.{◌≡◌, ℕ, ◌^◌, ◌<◌}
use Rattle.std.specs.Int.Count.{ones_in}
use Rattle.lanes.specs.declared.sizes.Sizes.{Sizes}

-- "a mixed set M of exactly k inputs (as a mask)"
pub record MixedSet (s : Sizes) (M : ℕ) : Type 0 where
  pub mask : M < 2 ^ s.n
  pub size : ones_in s.n M ≡ s.k
