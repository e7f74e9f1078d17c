-- The layout as code fills it, block by block (`laid_more`), and what it comes to (`laid_out`): byte 8 * q + o has output o at the places of
-- block q. Each output by itself expanded over the inputs outside M, it leaves the block functions (`blocks-expanded`, in words `blocks-both`).
use mathlib.Core.Path.{◌≡◌, sym, ap, ap₂, ◌∙◌}
use mathlib.Core.List.{List, ◌++◌}
use Prim.Native.Nat.{ℕ, ◌+◌, ◌-◌, ◌*◌, ◌/◌, ◌%◌, ◌^◌, ◌≤◌, ◌<◌}
use native.Mathlib.Nat.{mod-eq_of_lt}
use native.Mathlib.Omega.{arith}
use lib.Arith.{digits_div, digits_mod}
use lib.Bits.{bit_and, and_mask}
use lib.ListN.{length, take, replicate}
use lib.Pow.{pow_mono}
use borrow.Rule.Slice.PartMut.{put_mid}
use Rattle.std.specs.Int.{w64, to_le_bytes}
use Rattle.numbers.specs.Bytes.{at, tabulate}
use Rattle.numbers.specs.Bits.{bit}
use Rattle.numbers.specs.Words.{word, byte}
use Rattle.numbers.proofs.Bits.{bit-lt}
use Rattle.numbers.proofs.Bytes.{length-tabulate, at-tabulate, tabulate-ext}
use Rattle.numbers.proofs.Pack.{pack-ext, pack-lt}
use Rattle.numbers.proofs.Front.{Front, front_run}
use Rattle.numbers.proofs.Words.{word_byte}
use Rattle.numbers.proofs.WordBytes.{tabulate-to_le_bytes}
use Rattle.algebra.specs.Coefficients.{coefficient}
use Rattle.algebra.proofs.Coefficients.{coefficient-ext}
use Rattle.expansions.specs.Split.{gather, spread, outside, join}
use Rattle.expansions.specs.Inner.Planes.{plane}
use Rattle.expansions.proofs.Split.{spread-lt, spread-mod, join-lt}
use Rattle.lanes.specs.Inner.LaidOut.{LaidOut, BlockFunctions}
use Rattle.lanes.specs.Inner.Lanes.{lane_byte, places_byte, lanes_under, block_lanes}
use Rattle.lanes.specs.Inner.Sizes.{MixedSet}
use Rattle.lanes.specs.declared.sizes.Sizes.{Sizes}
use Rattle.lanes.proofs.expand.Held.{fixed-lt}
use Rattle.lanes.proofs.expand.LaidOut.{blocks-in-words}
use Rattle.lanes.proofs.expand.Room.{room-lent, room-kept}

-- a point of at most eight inputs fits a byte
pub opened-byte : (n mask y x : ℕ) → n ≤ 8 → x ≡ spread n mask y → bit_and x 255 ≡ spread n mask y
opened-byte n mask y x h e = rw e (and_mask (spread n mask y) 8 ∙ mod-eq_of_lt (omega (arith, spread-lt n mask y, pow_mono {i = n} {j = 8} h)))

-- the byte x of the layout, by the first point of each block and the offset of each place
abbrev pub laid_byte : (table points offsets : List ℕ) → ℕ → ℕ
laid_byte table points offsets x = lane_byte table (at points (x / 8)) offsets (x % 8)

-- the bytes of block q more, which code takes from one word
pub laid_more : (table points offsets lanes run bytes : List ℕ) (q point all N : ℕ) → 8 * q + 8 ≤ N → point ≡ at points q
    → all ≡ word 8 (lane_byte table point offsets) → bytes ≡ to_le_bytes w64 all → run ≡ bytes → Front (laid_byte table points offsets) N (8 * q) lanes
    → Front (laid_byte table points offsets) N (8 * (q + 1)) (put_mid (8 * q) (8 * q + 8 - 8 * q) lanes run)
laid_more table points offsets lanes run bytes q point all N room first outputs taken written so_far =
    let long : 8 * q + 8 - 8 * q ≡ 8 = omega arith in
    let next : 8 * (q + 1) ≡ 8 * q + 8 = omega arith in
    rw (long, next)
    (front_run (laid_byte table points offsets) (λ o. byte o all) N (8 * q) 8 lanes run room (written ∙ taken ∙ tabulate-to_le_bytes all) same so_far)
  where
    same : (o : ℕ) → o < 8 → byte o all ≡ laid_byte table points offsets (8 * q + o)
    same o h =
        let block : q ≡ (8 * q + o) / 8 = omega arith in
        let output : o ≡ (8 * q + o) % 8 = omega arith in
        ap (byte o) outputs ∙ word_byte 8 (lane_byte table point offsets) (λ x l. pack-lt 8 _ (λ p k. bit-lt x _)) o h
        ∙ ap₂ (λ (p x : ℕ). lane_byte table p offsets x) (first ∙ ap (at points) block) output

-- the first point of each block, in the lent part of an array
module _ (s : Sizes) (M mask : ℕ) (xs : List ℕ) (others : mask ≡ outside s.n M)
    (opened : xs ≡ tabulate (length {A = ℕ} (take (1 * 2 ^ (s.n - s.k) % 2 ^ 64) (replicate 256 0))) (spread s.n mask)) where
  pub opened-long : length xs ≡ 1 * 2 ^ (s.n - s.k)
  opened-long = ap length opened ∙ length-tabulate _ (spread s.n mask) ∙ room-lent 1 s (omega arith)

  pub opened-kept : (rest : List ℕ) → take (1 * 2 ^ (s.n - s.k) % 2 ^ 64) (xs ++ rest) ≡ tabulate (2 ^ (s.n - s.k)) (spread s.n (outside s.n M))
  opened-kept rest =
      room-kept 1 s (omega arith) xs rest opened-long ∙ opened
      ∙ ap₂ (λ (N m : ℕ). tabulate N (spread s.n m)) (room-lent 1 s (omega arith) ∙ omega arith) others

-- the first point of each block and the offset of each place, opened out at the inputs outside M and at those of M
module _ (s : Sizes) (M : ℕ) (points offsets : List ℕ) (set : MixedSet s M)
    (first : points ≡ tabulate (2 ^ (s.n - s.k)) (spread s.n (outside s.n M))) (places : offsets ≡ tabulate 8 (spread s.n M)) where
  point-join : (q p : ℕ) → q < 2 ^ (s.n - s.k) → p < 8 → at points q + at offsets p ≡ join s.n M q p
  unfolding join
  point-join q p hq hp =
      ap₂ (λ (xs ys : List ℕ). at xs q + at ys p) first places
      ∙ ap₂ ◌+◌ (at-tabulate (2 ^ (s.n - s.k)) (spread s.n (outside s.n M)) q hq) (at-tabulate 8 (spread s.n M) p hp)

  pub points-long : length points ≡ 2 ^ (s.n - s.k)
  points-long = ap length first ∙ length-tabulate (2 ^ (s.n - s.k)) (spread s.n (outside s.n M))

  pub points-room : (len q p : ℕ) → len ≡ 2 ^ s.n → q < length points → p < 8 → at points q + at offsets p < len
  points-room len q p long hq hp = omega (arith, long, join-lt s.n M q p, point-join q p (omega (arith, points-long)) hp)

  pub laid_out : (table : List ℕ) (N : ℕ) → N ≡ 8 * 2 ^ (s.n - s.k)
      → tabulate N (laid_byte table points offsets) ≡ tabulate (8 * 2 ^ (s.n - s.k)) (λ x. places_byte s.n s.k M (at table) (x % 8) (x / 8))
  unfolding places_byte plane join
  laid_out table N e =
      rw e
      (tabulate-ext (8 * 2 ^ (s.n - s.k)) _ _
      (λ x h. pack-ext 8 _ _
      (λ p l. ap (λ (y : ℕ). bit (x % 8) (at table y))
      (point-join (x / 8) p (omega arith) l ∙ ap (λ (y : ℕ). spread s.n (outside s.n M) (x / 8) + y) (sym (spread-mod s.n s.k M p set.size))))))

-- ---- the layout, expanded

-- the fixed polarity closed up, w, as code gathers it
module _ (s : Sizes) (M i w mask : ℕ) (set : MixedSet s M) (others : mask ≡ outside s.n M) (fixed : w ≡ gather s.n mask i) where
  closed_up : w ≡ gather s.n (outside s.n M) i
  closed_up = fixed ∙ ap (λ (m : ℕ). gather s.n m i) others

  pub closed-lt : w < 2 ^ (s.n - s.k)
  closed-lt = rw closed_up (fixed-lt s.n s.k M i set.size)

  pub blocks-expanded : (table laid : List ℕ) → laid ≡ tabulate (8 * 2 ^ (s.n - s.k)) (λ x. places_byte s.n s.k M (at table) (x % 8) (x / 8))
      → lanes_under (s.n - s.k) w (λ o q. at laid (q * 8 + o)) ≡ block_lanes s.n s.k M (gather s.n (outside s.n M) i) (at table)
  unfolding lanes_under
  blocks-expanded table laid layout =
      tabulate-ext (8 * 2 ^ r) _ _
      (λ x h. coefficient-ext r w (λ q. at laid (q * 8 + x % 8)) (bytes (x % 8)) closed-lt (λ q l. laid-at (x % 8) q (omega arith) l) (x / 8)
      ∙ ap (λ (v : ℕ). coefficient r v (bytes (x % 8)) (x / 8)) closed_up)
    where
      r : ℕ
      r = s.n - s.k

      bytes : ℕ → ℕ → ℕ
      bytes = places_byte s.n s.k M (at table)

      laid-at : (o q : ℕ) → o < 8 → q < 2 ^ r → at laid (q * 8 + o) ≡ bytes o q
      laid-at o q ho hq =
          ap (λ (xs : List ℕ). at xs (q * 8 + o)) layout
          ∙ at-tabulate (8 * 2 ^ r) (λ x. bytes (x % 8) (x / 8)) (q * 8 + o) (omega arith) ∙ ap₂ bytes (digits_mod q ho) (digits_div q ho)

  -- and in words; `laid` is the part of an array that holds xs
  pub blocks-both : (table xs laid lanes : List ℕ) → laid ≡ xs
      → (xs ≡ tabulate (8 * 2 ^ (s.n - s.k)) (λ x. places_byte s.n s.k M (at table) (x % 8) (x / 8))) × LaidOut s.n s.k M table xs
      → lanes ≡ lanes_under (s.n - s.k) w (λ o q. at laid (q * 8 + o))
      → (lanes ≡ block_lanes s.n s.k M (gather s.n (outside s.n M) i) (at table)) × BlockFunctions s.n s.k M i table lanes
  blocks-both table xs laid lanes kept layout held = (
    held ∙ blocks-expanded table laid (kept ∙ layout.0),
    blocks-in-words s.n s.k M i w table laid lanes (rw kept layout.1) closed_up held,
  )
