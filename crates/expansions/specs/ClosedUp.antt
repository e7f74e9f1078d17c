-- Block and place of a number bit by bit, and the way back, in words that need no recursion. Document 02, W-204: "for every M of 01 and every
-- point, block and place are the point's bits outside M and in M, each closed up lowest first, and ... the two joined give the point back".
-- That the numbers which `Split` computes are these, and that no others are, are the laws of proofs/ClosedUp.
use Rattle.std.specs.Prelude.{◌≡◌, ℕ, ◌-◌, ◌^◌, ◌≤◌, ◌<◌}
use Rattle.std.specs.Int.Count.{ones_in}
use Rattle.numbers.specs.Bits.{bit}
use Rattle.expansions.specs.Split.{outside, join}

-- input i, of n inputs, is the r-th input of M counted from the lowest, which is the 0th: it is in M, and r inputs of M are below it
pub record NthInput (n M r i : ℕ) : Type 0 where
  pub within : i < n
  pub inside : bit i M ≡ 1
  pub below : ones_in i M ≡ r

-- y is the bits of x at the inputs of M, "closed up, lowest first": bit r of y is the bit of x at the r-th input of M, and y has no other bits
pub record ClosedUp (n M x y : ℕ) : Type 0 where
  pub each : (r i : ℕ) → NthInput n M r i → bit r y ≡ bit i x
  pub none : (r : ℕ) → ones_in n M ≤ r → bit r y ≡ 0

-- x is the bits of y opened out at the inputs of M, "lowest first": the bit of x at the r-th input of M is bit r of y, that at an input which is
-- not in M is 0, and x has no other bits
pub record OpenedOut (n M y x : ℕ) : Type 0 where
  pub each : (r i : ℕ) → NthInput n M r i → bit i x ≡ bit r y
  pub others : (i : ℕ) → i < n → bit i M ≡ 0 → bit i x ≡ 0
  pub below : x < 2 ^ n

-- j and r are the block and the place of x, a point or a term: "the point's bits outside M and in M, each closed up lowest first", an input
-- being outside M where it is not in M; "the two joined give the point back"; and whichever block and place are joined to x, they are these
pub record IsSplit (n M x j r : ℕ) : Type 0 where
  pub others : (i : ℕ) → i < n → bit i (outside n M) ≡ 1 - bit i M
  pub block : ClosedUp n (outside n M) x j
  pub place : ClosedUp n M x r
  pub joined : x < 2 ^ n → join n M j r ≡ x
  pub only : (q s : ℕ) → q < 2 ^ ones_in n (outside n M) → s < 2 ^ ones_in n M → join n M q s ≡ x → (q ≡ j) × (s ≡ r)
