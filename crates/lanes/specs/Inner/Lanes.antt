-- Eight functions side by side: byte 8 * q + o is function o at q. The block functions of all outputs are held so. Cited by the contracts of this
-- crate's functions; the contract of no call rests on this file.
use Rattle.std.specs.Prelude.{◌≡◌, List, ℕ, suc, ◌+◌, ◌-◌, ◌*◌, ◌/◌, ◌%◌, ◌^◌, ◌<◌}
use Rattle.numbers.specs.Bits.{bit, pack}
use Rattle.numbers.specs.Bytes.{at, tabulate}
use Rattle.algebra.specs.Coefficients.{coefficient}
use Rattle.algebra.specs.Terms.{value}
use Rattle.expansions.specs.Split.{join}
use Rattle.expansions.specs.Inner.Planes.{plane}

-- output o at the eight places of a block, as the bits of a byte: a place is at an offset from the block's first point
abbrev pub lane_byte : List ℕ → ℕ → List ℕ → ℕ → ℕ
lane_byte table point offsets o = pack 8 (λ p. bit o (at table (point + at offsets p)))

-- output o at the places of block q of the table f, with the mixed set M of k inputs
unfoldable pub places_byte : (n k M : ℕ) → (ℕ → ℕ) → ℕ → ℕ → ℕ
places_byte n k M f o q = plane k (λ s. f (join n M q s)) o

-- the coefficients under w of eight functions of r inputs, side by side
unfoldable pub lanes_under : ℕ → ℕ → (ℕ → ℕ → ℕ) → List ℕ
lanes_under r w f = tabulate (8 * 2 ^ r) (λ x. coefficient r w (f (x % 8)) (x / 8))

-- From the polarity w to w + 1: whatever bytes stood there, they are the coefficients under w of the eight functions whose values they give, and now
-- stand those under w + 1. After the last polarity there is none, and the bytes stay as they were
pub record NextLanes (r w : ℕ) (before after : List ℕ) : Type 0 where
  pub next : suc w < 2 ^ r → after ≡ lanes_under r (suc w) (λ o. value r (λ t. w) (λ q. at before (8 * q + o)))
  pub last : suc w ≡ 2 ^ r → after ≡ before

-- the functions of the blocks of M, under the polarity w of the inputs outside M, closed up
abbrev pub block_lanes : (n k M w : ℕ) → (ℕ → ℕ) → List ℕ
block_lanes n k M w f = lanes_under (n - k) w (places_byte n k M f)
