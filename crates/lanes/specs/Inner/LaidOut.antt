-- The table by block and place, and the functions of the blocks, in words. That the bytes which `Lanes` computes are these, and that no others are, are
-- the laws of proofs/expand/LaidOut. Cited by the contracts of this crate's functions; the contract of no call rests on this file.
use Rattle.std.specs.Prelude.{◌≡◌, List, ℕ, ◌+◌, ◌-◌, ◌*◌, ◌%◌, ◌^◌, ◌<◌, length}
use Rattle.numbers.specs.Bits.{bit}
use Rattle.numbers.specs.Bytes.{at}
use Rattle.algebra.specs.Coefficients.{coefficient}
use Rattle.expansions.specs.ClosedUp.{ClosedUp, IsSplit}
use Rattle.expansions.specs.Split.{outside}

-- Eight bytes for each block, one for each output, hold the table of n inputs with the mixed set M of k inputs. Document 02, W-204: "for every M
-- of 01 and every point, block and place are the point's bits outside M and in M, each closed up lowest first": for every point p with block j
-- and place r, bit r of byte 8 * j + o is bit o of the table's byte p. Where fewer than three inputs are mixed, the bit at a place of three is that at
-- the place without the bits of the missing inputs: "A function of fewer inputs is read as one that ignores the missing ones". There are no other bits
pub record LaidOut (n k M : ℕ) (table laid : List ℕ) : Type 0 where
  pub long : length laid ≡ 8 * 2 ^ (n - k)
  pub each : (p j r o : ℕ) → p < 2 ^ n → IsSplit n M p j r → o < 8 → bit r (at laid (8 * j + o)) ≡ bit o (at table p)
  pub missing : (x s : ℕ) → x < length laid → s < 8 → bit s (at laid x) ≡ bit (s % 2 ^ k) (at laid x)
  pub bytes : (x : ℕ) → x < length laid → at laid x < 2 ^ 8

-- The functions of the blocks of M and i, once the inputs outside M are expanded under i. The table is laid out by block and place; i's bits at
-- the inputs outside M, which are those not in M, are "closed up, lowest first"; and byte 8 * j + o is the coefficient of the term j, over these inputs and
-- under these bits, of output o's bytes, all places of the block together
pub record BlockFunctions (n k M i : ℕ) (table lanes : List ℕ) : Type 0 where
  pub laid : List ℕ
  pub fixed : ℕ
  pub layout : LaidOut n k M table laid
  pub others : (b : ℕ) → b < n → bit b (outside n M) ≡ 1 - bit b M
  pub closed : ClosedUp n (outside n M) i fixed
  pub long : length lanes ≡ 8 * 2 ^ (n - k)
  pub each : (j o : ℕ) → j < 2 ^ (n - k) → o < 8 → at lanes (8 * j + o) ≡ coefficient (n - k) fixed (λ q. at laid (8 * q + o)) j
