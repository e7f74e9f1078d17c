-- Gathering in words: for each r below the number of inputs of M there is one r-th input (`nth-input`, `nth-input-only`), `gather` closes up the
-- bits at these (`gather-closed-up`), and no other number is closed up of them (`closed-up-only`); `spread` opens them out again
-- (`spread-opened-out`, `opened-out-is`). The inputs outside M are those of n that are not in M (`outside-bit`). So block and place split a
-- number, and joined they give it back (`split-is`); and whichever block and place are joined, splitting gives them back (`split-join`).
use mathlib.Core.Path.{◌≡◌, refl, sym, ap, ◌∙◌}
use Prim.Native.Nat.{ℕ, zero, suc, ◌+◌, ◌-◌, ◌*◌, ◌/◌, ◌%◌, ◌^◌, ◌≤◌, ◌<◌}
use native.Mathlib.Nat.{zero-add, zero-mul, one-mul}
use native.Mathlib.Decide.{dec_lt}
use native.Mathlib.Omega.{arith}
use native.Mathlib.Numerals.{one-add}
use lib.Arith.{digits_div}
use lib.Count.{ones_in}
use Rattle.numbers.specs.Bits.{bit}
use Rattle.numbers.proofs.Xor.{low-lt}
use Rattle.numbers.proofs.Bits.{bit-zero, bit-suc, bit-lt, bit_past, bits-same}
use Rattle.expansions.specs.Split.{put_digit, low_digit, drop_digit, gather, spread, outside, join}
use Rattle.expansions.specs.Members.{block, place}
use Rattle.expansions.specs.ClosedUp.{NthInput, ClosedUp, OpenedOut, IsSplit}
use Rattle.expansions.proofs.Split.{low_digit-lt, gather-lt, spread-lt, gather-join, gather-outside-join, join-gather}
use Rattle.expansions.proofs.Masks.{ones-next, drop_digit-bit, low_digit-first}

-- ---- the inputs of a mask, counted

ones_none : (M : ℕ) → ones_in 0 M ≡ 0
unfolding ones_in
ones_none M = refl

ones-first : (i M : ℕ) → ones_in (suc i) M ≡ M % 2 + ones_in i (M / 2)
unfolding ones_in
ones-first i M = refl

-- an input, which is the r-th of M
pub record Nth (n M r : ℕ) : Type 0 where
  pub input : ℕ
  pub is : NthInput n M r input

pub nth-input : (n M r : ℕ) → r < ones_in n M → Nth n M r
nth-input zero M r h = absurd (omega (arith, ones_none M))
nth-input (suc n) M r h = go (dec_lt r (ones_in n M)) (nth-input n M r)
  where
    go : Dec (r < ones_in n M) → (r < ones_in n M → Nth n M r) → Nth (suc n) M r
    go (yes l) ih =
        let i = ih l in
        record { input = i.input; is = record { within = omega (arith, i.is.within); inside = i.is.inside; below = i.is.below } }
    go (no l) ih =
        record {
          input = n;
          is = record {
            within = omega arith;
            inside = omega (arith, ones-next n M, bit-lt n M);
            below = omega (arith, ones-next n M, bit-lt n M);
          };
        }

ones-more : (i d M : ℕ) → ones_in i M ≤ ones_in (d + i) M
ones-more i zero M = rw (zero-add i) (omega arith)
ones-more i (suc d) M = let e : suc d + i ≡ suc (d + i) = omega arith in rw e (omega (arith, ones-more i d M, ones-next (d + i) M))

-- an input of M is counted below every later one
ones-past : (M i j : ℕ) → bit i M ≡ 1 → i < j → ones_in i M < ones_in j M
ones-past M i j e h =
    let j' : j ≡ j - suc i + suc i = omega arith in
    omega (arith, ones-next i M, ones-more (suc i) (j - suc i) M, ap (λ (x : ℕ). ones_in x M) j')

pub nth-input-only : (n M r i j : ℕ) → NthInput n M r i → NthInput n M r j → i ≡ j
nth-input-only n M r i j a b = go (dec_lt i j) (dec_lt j i)
  where
    go : Dec (i < j) → Dec (j < i) → i ≡ j
    go (yes l) _ = absurd (omega (arith, ones-past M i j a.inside l, a.below, b.below))
    go (no _) (yes l) = absurd (omega (arith, ones-past M j i b.inside l, a.below, b.below))
    go (no k) (no l) = omega arith

-- the inputs outside M are those of n that are not in M
pub outside-bit : (n M i : ℕ) → i < n → bit i (outside n M) ≡ 1 - bit i M
unfolding outside
outside-bit zero M i h = absurd (omega arith)
outside-bit (suc n) M zero h = bit-zero (outside n (M / 2) * 2 + (1 - M % 2)) ∙ omega (arith, bit-zero M)
outside-bit (suc n) M (suc i) h =
    bit-suc i (outside n (M / 2) * 2 + (1 - M % 2))
    ∙ ap (bit i) (digits_div (outside n (M / 2)) (omega arith)) ∙ outside-bit n (M / 2) i (omega arith)
    ∙ ap (λ (b : ℕ). 1 - b) (sym (bit-suc i M))

-- ---- closed up

put_digit-lowest : (m x b : ℕ) → m ≡ 1 → b < 2 → bit 0 (put_digit m x b) ≡ b
unfolding put_digit
put_digit-lowest m x b e h = rw e (bit-zero (x * 2 + b) ∙ omega arith)

put_digit-above : (m r x b : ℕ) → m < 2 → b < 2 → bit (m + r) (put_digit m x b) ≡ bit r x
unfolding put_digit
put_digit-above zero r x b h l = rw (zero-add r)
put_digit-above (suc zero) r x b h l = rw (one-add r) (bit-suc r (x * 2 + b) ∙ ap (bit r) (digits_div x l))
put_digit-above (suc (suc m)) r x b h l = absurd (omega arith)

-- an input of M, by the number of those below it
gather-bit : (n M x i : ℕ) → i < n → bit i M ≡ 1 → bit (ones_in i M) (gather n M x) ≡ bit i x
unfolding gather
gather-bit zero M x i h e = absurd (omega arith)
gather-bit (suc n) M x zero h e =
    rw (ones_none M) (put_digit-lowest (M % 2) (gather n (M / 2) (x / 2)) (x % 2) (sym (bit-zero M) ∙ e) (low-lt x) ∙ sym (bit-zero x))
gather-bit (suc n) M x (suc i) h e =
    rw (ones-first i M)
    (put_digit-above (M % 2) (ones_in i (M / 2)) (gather n (M / 2) (x / 2)) (x % 2) (low-lt M) (low-lt x)
    ∙ gather-bit n (M / 2) (x / 2) i (omega arith) (sym (bit-suc i M) ∙ e) ∙ sym (bit-suc i x))

pub gather-closed-up : (n M x : ℕ) → ClosedUp n M x (gather n M x)
gather-closed-up n M x =
    record {
      each = λ r i h. ap (λ (q : ℕ). bit q (gather n M x)) (sym h.below) ∙ gather-bit n M x i h.within h.inside;
      none = λ r h. bit_past (ones_in n M) r (gather n M x) (gather-lt n M x) h;
    }

pub closed-up-only : (n M x y z : ℕ) → ClosedUp n M x y → ClosedUp n M x z → y ≡ z
closed-up-only n M x y z a b = bits-same y z (λ r. go r (dec_lt r (ones_in n M)))
  where
    go : (r : ℕ) → Dec (r < ones_in n M) → bit r y ≡ bit r z
    go r (no l) = a.none r (omega arith) ∙ sym (b.none r (omega arith))
    go r (yes l) = let i = nth-input n M r l in a.each r i.input i.is ∙ sym (b.each r i.input i.is)

-- ---- opened out

-- an input, by whether it is in M and the number of inputs of M below it
spread-bit : (n M y i : ℕ) → i < n → bit i (spread n M y) ≡ bit i M * bit (ones_in i M) y
unfolding spread
spread-bit zero M y i h = absurd (omega arith)
spread-bit (suc n) M y zero h =
    let rest = spread n (M / 2) (drop_digit (M % 2) y) in
    let low : (rest * 2 + low_digit (M % 2) y) % 2 ≡ low_digit (M % 2) y = omega (arith, low_digit-lt (M % 2) y) in
    rw (ones_none M, bit-zero M, bit-zero y) (bit-zero (rest * 2 + low_digit (M % 2) y) ∙ low ∙ low_digit-first (M % 2) y (low-lt M))
spread-bit (suc n) M y (suc i) h =
    let rest = spread n (M / 2) (drop_digit (M % 2) y) in
    rw (ones-first i M, bit-suc i M)
    (bit-suc i (rest * 2 + low_digit (M % 2) y) ∙ ap (bit i) (digits_div rest (low_digit-lt (M % 2) y))
    ∙ spread-bit n (M / 2) (drop_digit (M % 2) y) i (omega arith)
    ∙ ap (λ (b : ℕ). bit i (M / 2) * b) (drop_digit-bit (M % 2) (ones_in i (M / 2)) y (low-lt M)))

pub spread-opened-out : (n M y : ℕ) → OpenedOut n M y (spread n M y)
spread-opened-out n M y =
    record {
      each = λ r i h. spread-bit n M y i h.within ∙ rw (h.inside, h.below) (one-mul (bit r y));
      others = λ i h e. spread-bit n M y i h ∙ rw e (zero-mul (bit (ones_in i M) y));
      below = spread-lt n M y;
    }

pub opened-out-is : (n M y x : ℕ) → OpenedOut n M y x → x ≡ spread n M y
opened-out-is n M y x a = bits-same x (spread n M y) (λ i. go i (dec_lt i n) (bit i M) refl)
  where
    b : OpenedOut n M y (spread n M y)
    b = spread-opened-out n M y

    go : (i : ℕ) → Dec (i < n) → (m : ℕ) → bit i M ≡ m → bit i x ≡ bit i (spread n M y)
    go i (no l) m e = bit_past n i x a.below (omega arith) ∙ sym (bit_past n i (spread n M y) b.below (omega arith))
    go i (yes l) zero e = a.others i l e ∙ sym (b.others i l e)
    go i (yes l) (suc zero) e =
        let h : NthInput n M (ones_in i M) i = record { within = l; inside = e; below = refl } in a.each (ones_in i M) i h ∙ sym (b.each (ones_in i M) i h)
    go i (yes l) (suc (suc m)) e = absurd (omega (arith, bit-lt i M))

-- ---- block and place

pub split-is : (n M x : ℕ) → IsSplit n M x (block n M x) (place n M x)
split-is n M x =
    record {
      others = outside-bit n M;
      block = gather-closed-up n (outside n M) x;
      place = gather-closed-up n M x;
      joined = join-gather n M x;
      only = λ q s hq hs e. (
        sym (gather-outside-join n M q s hq) ∙ ap (gather n (outside n M)) e,
        sym (gather-join n M q s hs) ∙ ap (gather n M) e,
      );
    }

-- any block and place, joined and split again
pub split-join : (n M j r : ℕ) → j < 2 ^ ones_in n (outside n M) → r < 2 ^ ones_in n M → IsSplit n M (join n M j r) j r
split-join n M j r hj hr = rw (gather-outside-join n M j r hj, gather-join n M j r hr) at (split-is n M (join n M j r))
