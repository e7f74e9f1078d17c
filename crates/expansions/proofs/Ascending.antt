-- The numbers with no bit in M, in ascending order, are those spread from 0, 1, .. to the inputs outside M: spread keeps the order
-- (`spread-less`), and above the one spread from w stand those spread from a greater number (`gather-above`, `spread-above`). From one to the next it
-- is an addition (`spread-suc`).
use mathlib.Core.Path.{◌≡◌, sym, ap, ◌∙◌}
use mathlib.Core.Logic.{◌⊎◌, inl, inr}
use Prim.Native.Nat.{ℕ, zero, suc, ◌+◌, ◌-◌, ◌*◌, ◌/◌, ◌%◌, ◌^◌, ◌≤◌, ◌<◌, min}
use native.Mathlib.Nat.{zero-add, add-zero, eq-or-lt_of_le, lt_of_not-le}
use native.Mathlib.Omega.{arith}
use native.Mathlib.Numerals.{add-one, one-add}
use lib.Bits.{bit_and, and_step, and_zero_r}
use lib.Count.{ones_in}
use lib.Pow.{pow_pos}
use Rattle.numbers.proofs.Xor.{low-lt}
use Rattle.expansions.specs.Split.{low_digit, drop_digit, gather, spread, outside, join}
use Rattle.expansions.proofs.Split.{spread-zero, join-gather, gather-join, gather-lt}

join-clear : (n M j : ℕ) → join n M j 0 ≡ spread n (outside n M) j
unfolding join
join-clear n M j = rw (spread-zero n M) (add-zero (spread n (outside n M) j))

pub gather-spread-outside : (n M j : ℕ) → gather n M (spread n (outside n M) j) ≡ 0
gather-spread-outside n M j = ap (gather n M) (sym (join-clear n M j)) ∙ gather-join n M j 0 (pow_pos (ones_in n M))

spread-gather-outside : (n M x : ℕ) → x < 2 ^ n → gather n M x ≡ 0 → spread n (outside n M) (gather n (outside n M) x) ≡ x
spread-gather-outside n M x h z =
    sym (join-clear n M _) ∙ ap (join n M (gather n (outside n M) x)) (sym z) ∙ join-gather n M x h

digits-less : (m k a b : ℕ) (s : ℕ → ℕ) → m < 2 → ((x y : ℕ) → x < y → y < 2 ^ k → s x < s y) → a < b → b < 2 ^ (m + k)
    → s (drop_digit m a) * 2 + low_digit m a < s (drop_digit m b) * 2 + low_digit m b
unfolding drop_digit low_digit
digits-less zero k a b s hm less h l = omega (arith, less a b h (rw zero-add at l))
digits-less (suc zero) k a b s hm less h l = go (eq-or-lt_of_le (omega arith)) where
  go : (a / 2 ≡ b / 2) ⊎ (a / 2 < b / 2) → s (a / 2) * 2 + a % 2 < s (b / 2) * 2 + b % 2
  go (inl e) = omega (arith, ap s e)
  go (inr u) = let l' : b < 2 ^ suc k = rw one-add at l in omega (arith, less (a / 2) (b / 2) u (omega arith))
digits-less (suc (suc m)) k a b s hm less h l = absurd (omega arith)

pub spread-less : (n M a b : ℕ) → a < b → b < 2 ^ ones_in n M → spread n M a < spread n M b
unfolding spread ones_in
spread-less zero M a b h l = absurd (omega arith)
spread-less (suc n) M a b h l = digits-less (M % 2) (ones_in n (M / 2)) a b (spread n (M / 2)) (low-lt M) (spread-less n (M / 2)) h l

spread-le : (n M a b : ℕ) → a ≤ b → b < 2 ^ ones_in n M → spread n M a ≤ spread n M b
spread-le n M a b h l = go (eq-or-lt_of_le h) where
  go : (a ≡ b) ⊎ (a < b) → spread n M a ≤ spread n M b
  go (inl e) = rw e (omega arith)
  go (inr u) = omega (arith, spread-less n M a b u l)

module _ (n M w x : ℕ) (h : x < 2 ^ n) (clear : gather n M x ≡ 0) where
  -- above the one spread from w stand those spread from a greater number
  pub gather-above : w < 2 ^ ones_in n (outside n M) → spread n (outside n M) w < x → w < gather n (outside n M) x
  gather-above l a =
      lt_of_not-le (λ (g : gather n (outside n M) x ≤ w).
      absurd (omega (arith, spread-le n (outside n M) _ w g l, spread-gather-outside n M x h clear)))

  pub spread-above : w ≤ gather n (outside n M) x → spread n (outside n M) w ≤ x
  spread-above l = omega (arith, spread-le n (outside n M) w _ l (gather-lt n (outside n M) x), spread-gather-outside n M x h clear)

-- ---- from one to the next

-- the low digit: 1 and the carry c go past a digit that is not in M, and are added to one that is
digit-carry : (m y c o H : ℕ) (s : ℕ → ℕ) → m < 2 → c < 2 → ((x d : ℕ) → d < 2 → bit_and (s x + o + d) H ≡ s (x + d))
    → let a = s (drop_digit m y) * 2 + low_digit m y + (o * 2 + (1 - m)) + c in
    bit_and (a / 2) H * 2 + min (a % 2) m ≡ s (drop_digit m (y + c)) * 2 + low_digit m (y + c)
unfolding drop_digit low_digit
digit-carry zero y c o H s hm hc each =
    let half : (s y * 2 + 0 + (o * 2 + 1) + c) / 2 ≡ s y + o + c = omega arith in
    rw (half, each y c hc) (omega arith)
digit-carry (suc zero) y c o H s hm hc each =
    let half : (s (y / 2) * 2 + y % 2 + (o * 2 + 0) + c) / 2 ≡ s (y / 2) + o + (y % 2 + c) / 2 = omega arith in
    let high : y / 2 + (y % 2 + c) / 2 ≡ (y + c) / 2 = omega arith in
    rw (half, each (y / 2) ((y % 2 + c) / 2) (omega arith), high) (omega arith)
digit-carry (suc (suc m)) y c o H s hm hc each = absurd (omega arith)

spread-carry : (n M y c : ℕ) → M < 2 ^ n → c < 2 → bit_and (spread n M y + outside n M + c) M ≡ spread n M (y + c)
unfolding spread outside
spread-carry zero M y c h hc = let e : M ≡ 0 = omega arith in rw e (and_zero_r (0 + 0 + c))
spread-carry (suc n) M y c h hc =
    and_step (spread (suc n) M y + outside (suc n) M + c) M
    ∙ digit-carry (M % 2) y c (outside n (M / 2)) (M / 2) (spread n (M / 2)) (low-lt M) hc (λ x d. spread-carry n (M / 2) x d (omega arith))

-- above the number spread from y the next with no bit outside M: every bit outside M is added, so that the 1 is carried past them
pub spread-suc : (n M y : ℕ) → M < 2 ^ n → bit_and (spread n M y + outside n M + 1) M ≡ spread n M (suc y)
spread-suc n M y h = spread-carry n M y 1 h (omega arith) ∙ ap (spread n M) (add-one y)
