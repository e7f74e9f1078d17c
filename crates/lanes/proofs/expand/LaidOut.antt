-- The layout in words: the bytes by `places_byte` hold each point's outputs at its block and place (`placed-laid-out`), and no other bytes do
-- (`laid-out-is`). Expanded, they are the functions of the blocks (`blocks-in-words`).
use mathlib.Core.Path.{◌≡◌, sym, ap, ap₂, ◌∙◌, fun_ext}
use mathlib.Core.List.{List}
use Prim.Native.Nat.{ℕ, ◌+◌, ◌-◌, ◌*◌, ◌/◌, ◌%◌, ◌^◌, ◌≤◌, ◌<◌}
use native.Mathlib.Nat.{mod-eq_of_lt, mod-lt}
use native.Mathlib.Decide.{dec_lt}
use native.Mathlib.Omega.{arith}
use lib.Count.{ones_in}
use lib.ListN.{length}
use lib.Pow.{pow_pos, pow_mono}
use Rattle.numbers.specs.Bits.{bit}
use Rattle.numbers.specs.Bytes.{at, tabulate}
use Rattle.numbers.proofs.Bits.{bit-lt, bit_past, bits-same}
use Rattle.numbers.proofs.Bytes.{length-tabulate, at-tabulate, is-table}
use Rattle.numbers.proofs.Pack.{pack-bit, pack-lt}
use Rattle.algebra.specs.Coefficients.{coefficient}
use Rattle.expansions.specs.ClosedUp.{IsSplit}
use Rattle.expansions.specs.Split.{gather, outside, join}
use Rattle.expansions.specs.Inner.Planes.{plane}
use Rattle.expansions.proofs.ClosedUp.{gather-closed-up, closed-up-only, outside-bit, split-join}
use Rattle.expansions.proofs.Split.{gather-lt, ones-others, join-lt}
use Rattle.lanes.specs.Inner.LaidOut.{LaidOut, BlockFunctions}
use Rattle.lanes.specs.Inner.Lanes.{places_byte, lanes_under}
use Rattle.lanes.proofs.expand.Held.{lanes_at, lanes-long}

places-bit : (n k M : ℕ) (f : ℕ → ℕ) (o q p : ℕ) → p < 8 → bit p (places_byte n k M f o q) ≡ bit o (f (join n M q (p % 2 ^ k)))
unfolding places_byte plane
places-bit n k M f o q p h = pack-bit 8 (λ s. bit o (f (join n M q (s % 2 ^ k)))) (λ s l. bit-lt o (f (join n M q (s % 2 ^ k)))) p h

places-lt : (n k M : ℕ) (f : ℕ → ℕ) (o q : ℕ) → places_byte n k M f o q < 2 ^ 8
unfolding places_byte plane
places-lt n k M f o q = pack-lt 8 (λ s. bit o (f (join n M q (s % 2 ^ k)))) (λ s l. bit-lt o (f (join n M q (s % 2 ^ k))))

-- the places of a block are the bits of a byte
places-le : (k : ℕ) → k ≤ 3 → 2 ^ k ≤ 8
places-le k h = pow_mono {i = k} {j = 3} h

module _ (n k M : ℕ) (table : List ℕ) (size : ones_in n M ≡ k) (few : k ≤ 3) where
  abbrev placed : ℕ → ℕ
  placed x = places_byte n k M (at table) (x % 8) (x / 8)

  pub placed-laid-out : (laid : List ℕ) → laid ≡ tabulate (8 * 2 ^ (n - k)) placed → LaidOut n k M table laid
  placed-laid-out laid e =
      record {
        long = long;
        each = each;
        missing = λ x p hx hp.
            let byte = here x (omega (arith, long)) in
            let low : p % 2 ^ k < 8 = omega (arith, mod-lt p (pow_pos k), places-le k few) in
            ap (bit p) byte ∙ places-bit n k M (at table) (x % 8) (x / 8) p hp
            ∙ ap (λ (s : ℕ). bit (x % 8) (at table (join n M (x / 8) s))) (sym (mod-eq_of_lt (mod-lt p (pow_pos k))))
            ∙ sym (ap (bit (p % 2 ^ k)) byte ∙ places-bit n k M (at table) (x % 8) (x / 8) (p % 2 ^ k) low);
        bytes = λ x hx. rw (here x (omega (arith, long))) (places-lt n k M (at table) (x % 8) (x / 8));
      }
    where
      long : length laid ≡ 8 * 2 ^ (n - k)
      long = ap length e ∙ length-tabulate (8 * 2 ^ (n - k)) placed

      here : (x : ℕ) → x < 8 * 2 ^ (n - k) → at laid x ≡ placed x
      here x h = ap (λ (xs : List ℕ). at xs x) e ∙ at-tabulate (8 * 2 ^ (n - k)) placed x h

      each : (p j r o : ℕ) → p < 2 ^ n → IsSplit n M p j r → o < 8 → bit r (at laid (8 * j + o)) ≡ bit o (at table p)
      each p j r o hp split ho =
          let block : j ≡ gather n (outside n M) p = closed-up-only n (outside n M) p j _ split.block (gather-closed-up n (outside n M) p) in
          let place : r ≡ gather n M p = closed-up-only n M p r _ split.place (gather-closed-up n M p) in
          let hj : j < 2 ^ (n - k) = rw (← (ones-others n k M size), block) (gather-lt n (outside n M) p) in
          let hr : r < 2 ^ k = rw (← size, place) (gather-lt n M p) in
          let output : (8 * j + o) % 8 ≡ o = omega arith in
          let number : (8 * j + o) / 8 ≡ j = omega arith in
          ap (bit r) (here (8 * j + o) (omega arith) ∙ ap₂ (places_byte n k M (at table)) output number)
          ∙ places-bit n k M (at table) o j r (omega (arith, places-le k few))
          ∙ ap (λ (s : ℕ). bit o (at table s)) (ap (join n M j) (mod-eq_of_lt hr) ∙ split.joined hp)

  pub laid-out-is : (laid : List ℕ) → LaidOut n k M table laid → laid ≡ tabulate (8 * 2 ^ (n - k)) placed
  laid-out-is laid h = is-table (8 * 2 ^ (n - k)) placed laid h.long (λ x l. bits-same (at laid x) (placed x) (λ p. go x l p (dec_lt p 8)))
    where
      go : (x : ℕ) → x < 8 * 2 ^ (n - k) → (p : ℕ) → Dec (p < 8) → bit p (at laid x) ≡ bit p (placed x)
      go x l p (no g) =
          bit_past 8 p (at laid x) (h.bytes x (omega (arith, h.long))) (omega arith)
          ∙ sym (bit_past 8 p (placed x) (places-lt n k M (at table) (x % 8) (x / 8)) (omega arith))
      go x l p (yes g) =
          let hj : x / 8 < 2 ^ ones_in n (outside n M) = rw (ones-others n k M size) (omega arith) in
          let hr : p % 2 ^ k < 2 ^ ones_in n M = rw size (mod-lt p (pow_pos k)) in
          let point = join n M (x / 8) (p % 2 ^ k) in
          let number : x ≡ 8 * (x / 8) + x % 8 = omega arith in
          h.missing x p (omega (arith, h.long)) g ∙ ap (λ (y : ℕ). bit (p % 2 ^ k) (at laid y)) number
          ∙ h.each point (x / 8) (p % 2 ^ k) (x % 8) (join-lt n M (x / 8) (p % 2 ^ k)) (split-join n M (x / 8) (p % 2 ^ k) hj hr) (omega arith)
          ∙ sym (places-bit n k M (at table) (x % 8) (x / 8) p g)

-- the coefficients of what is laid out, under i's bits outside M, closed up
pub blocks-in-words : (n k M i w : ℕ) (table laid lanes : List ℕ) → LaidOut n k M table laid → w ≡ gather n (outside n M) i
    → lanes ≡ lanes_under (n - k) w (λ o q. at laid (q * 8 + o)) → BlockFunctions n k M i table lanes
blocks-in-words n k M i w table laid lanes layout e held =
    record {
      laid = laid;
      fixed = w;
      layout = layout;
      others = outside-bit n M;
      closed = rw e (gather-closed-up n (outside n M) i);
      long = ap length held ∙ lanes-long (n - k) w (λ o q. at laid (q * 8 + o));
      each = λ j o hj ho.
          let byte : 8 * j + o ≡ j * 8 + o = omega arith in
          ap₂ at held byte ∙ lanes_at (n - k) w (λ x q. at laid (q * 8 + x)) o j ho hj
          ∙ ap (λ (f : ℕ → ℕ). coefficient (n - k) w f j) (fun_ext (λ q. ap (at laid) (omega arith)));
    }
