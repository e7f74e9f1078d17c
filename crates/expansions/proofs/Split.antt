-- Laws of gather, spread, outside and join. A number below 2 ^ n is joined of its bits outside a mask and its bits in it, and of no others
-- (`join-gather`, `gather-join`, `gather-outside-join`). So a sum over all terms is a sum over blocks of sums over places (`sums`).
use mathlib.Core.Path.{◌≡◌, refl, sym, ap, ap₂, ◌∙◌}
use Prim.Native.Nat.{ℕ, zero, suc, ◌+◌, ◌-◌, ◌*◌, ◌/◌, ◌%◌, ◌^◌, ◌≤◌, ◌<◌}
use native.Mathlib.Nat.{zero-add, add-zero, add_comm, div-add-mod', mul_assoc, pow-suc}
use native.Mathlib.Omega.{arith}
use native.Mathlib.Numerals.{one-add}
use lib.Count.{ones_in}
use lib.Arith.{lt-one}
use Rattle.numbers.specs.Sums.{fold_below}
use Rattle.numbers.proofs.Xor.{low-lt}
use Rattle.numbers.proofs.Sums.{fold-op, fold-split}
use Rattle.expansions.specs.Split.{put_digit, low_digit, drop_digit, gather, spread, outside, join}

-- ---- one digit: a mask's digit is m, and the other mask's is 1 - m

pub low_digit-lt : (m y : ℕ) → low_digit m y < 2
unfolding low_digit
low_digit-lt zero y = omega arith
low_digit-lt (suc m) y = omega arith

low_digits-lt : (m j r : ℕ) → m < 2 → low_digit (1 - m) j + low_digit m r < 2
unfolding low_digit
low_digits-lt zero j r h = omega arith
low_digits-lt (suc zero) j r h = omega arith
low_digits-lt (suc (suc m)) j r h = absurd (omega arith)

put_digit-in : (m j r : ℕ) → m < 2 → put_digit m (drop_digit m r) (low_digit (1 - m) j + low_digit m r) ≡ r
unfolding put_digit drop_digit low_digit
put_digit-in zero j r h = refl
put_digit-in (suc zero) j r h = omega arith
put_digit-in (suc (suc m)) j r h = absurd (omega arith)

put_digit-out : (m j r : ℕ) → m < 2 → put_digit (1 - m) (drop_digit (1 - m) j) (low_digit (1 - m) j + low_digit m r) ≡ j
unfolding put_digit drop_digit low_digit
put_digit-out zero j r h = omega arith
put_digit-out (suc zero) j r h = refl
put_digit-out (suc (suc m)) j r h = absurd (omega arith)

drop_digit-put : (m x b : ℕ) → b < 2 → drop_digit m (put_digit m x b) ≡ x
unfolding put_digit drop_digit
drop_digit-put zero x b h = refl
drop_digit-put (suc m) x b h = omega arith

low_digits-put : (m x y b : ℕ) → m < 2 → b < 2 → low_digit (1 - m) (put_digit (1 - m) x b) + low_digit m (put_digit m y b) ≡ b
unfolding put_digit low_digit
low_digits-put zero x y b h l = omega arith
low_digits-put (suc zero) x y b h l = omega arith
low_digits-put (suc (suc m)) x y b h l = absurd (omega arith)

put_digit-lt : (m k x b : ℕ) → m < 2 → b < 2 → x < 2 ^ k → put_digit m x b < 2 ^ (m + k)
unfolding put_digit
put_digit-lt zero k x b h hb l = rw zero-add l
put_digit-lt (suc zero) k x b h hb l = rw one-add (omega arith)
put_digit-lt (suc (suc m)) k x b h hb l = absurd (omega arith)

drop_digit-lt : (m k y : ℕ) → m < 2 → y < 2 ^ (m + k) → drop_digit m y < 2 ^ k
unfolding drop_digit
drop_digit-lt zero k y h l = rw zero-add at l
drop_digit-lt (suc zero) k y h l = let l' : y < 2 ^ suc k = rw one-add at l in omega arith
drop_digit-lt (suc (suc m)) k y h l = absurd (omega arith)

put_digit-zero : (m : ℕ) → put_digit m 0 0 ≡ 0
unfolding put_digit
put_digit-zero zero = refl
put_digit-zero (suc m) = refl

drop_digit-zero : (m : ℕ) → drop_digit m 0 ≡ 0
unfolding drop_digit
drop_digit-zero zero = refl
drop_digit-zero (suc m) = refl

low_digit-zero : (m : ℕ) → low_digit m 0 ≡ 0
unfolding low_digit
low_digit-zero zero = refl
low_digit-zero (suc m) = refl

-- ---- outside

pub outside-half : (n M : ℕ) → outside (suc n) M / 2 ≡ outside n (M / 2)
unfolding outside
outside-half n M = omega arith

pub outside_low : (n M : ℕ) → outside (suc n) M % 2 ≡ 1 - M % 2
unfolding outside
outside_low n M = omega arith

pub outside-lt : (n M : ℕ) → outside n M < 2 ^ n
unfolding outside
outside-lt zero M = omega arith
outside-lt (suc n) M = omega (arith, outside-lt n (M / 2))

-- of the inputs below b each is in M or outside it
pub ones-outside : (n b M : ℕ) → b ≤ n → ones_in b (outside n M) + ones_in b M ≡ b
unfolding ones_in
ones-outside n zero M h = refl
ones-outside zero (suc b) M h = absurd (omega arith)
ones-outside (suc n) (suc b) M h = rw (outside-half, outside_low) (omega (arith, ones-outside n b (M / 2) (omega arith)))

-- so there are n - k outside a mask of k
pub ones-others : (n k M : ℕ) → ones_in n M ≡ k → ones_in n (outside n M) ≡ n - k
ones-others n k M h = omega (arith, ones-outside n n M (omega arith))

pub ones-size : (n k M : ℕ) → ones_in n M ≡ k → k ≤ n
ones-size n k M h = omega (arith, ones-outside n n M (omega arith))

-- ---- bounds

pub gather-lt : (n M x : ℕ) → gather n M x < 2 ^ ones_in n M
unfolding gather ones_in
gather-lt zero M x = omega arith
gather-lt (suc n) M x = put_digit-lt (M % 2) (ones_in n (M / 2)) _ (x % 2) (low-lt M) (low-lt x) (gather-lt n (M / 2) (x / 2))

pub spread-lt : (n M y : ℕ) → spread n M y < 2 ^ n
unfolding spread
spread-lt zero M y = omega arith
spread-lt (suc n) M y = omega (arith, spread-lt n (M / 2) (drop_digit (M % 2) y), low_digit-lt (M % 2) y)

-- ---- bits past those of the mask

drop_digit-past : (m o r q : ℕ) → m < 2 → drop_digit m (r + q * 2 ^ (m + o)) ≡ drop_digit m r + q * 2 ^ o
unfolding drop_digit
drop_digit-past zero o r q h = rw zero-add
drop_digit-past (suc zero) o r q h = rw (one-add, pow-suc, ← (mul_assoc q (2 ^ o) 2)) (omega arith)
drop_digit-past (suc (suc m)) o r q h = absurd (omega arith)

low_digit-past : (m o r q : ℕ) → m < 2 → low_digit m (r + q * 2 ^ (m + o)) ≡ low_digit m r
unfolding low_digit
low_digit-past zero o r q h = refl
low_digit-past (suc zero) o r q h = rw (one-add, pow-suc, ← (mul_assoc q (2 ^ o) 2)) (omega arith)
low_digit-past (suc (suc m)) o r q h = absurd (omega arith)

spread-past : (n M r q : ℕ) → spread n M (r + q * 2 ^ ones_in n M) ≡ spread n M r
unfolding spread ones_in
spread-past zero M r q = refl
spread-past (suc n) M r q =
    rw (drop_digit-past (M % 2) (ones_in n (M / 2)) r q (low-lt M), low_digit-past (M % 2) (ones_in n (M / 2)) r q (low-lt M), spread-past n (M / 2) (drop_digit (M % 2) r) q)

-- a mask of k inputs takes the k lowest bits
pub spread-mod : (n k M y : ℕ) → ones_in n M ≡ k → spread n M (y % 2 ^ k) ≡ spread n M y
spread-mod n k M y e =
    rw (← e) (sym (spread-past n M (y % 2 ^ ones_in n M) (y / 2 ^ ones_in n M)) ∙ ap (spread n M) (add_comm _ _ ∙ div-add-mod' y (2 ^ ones_in n M)))

-- ---- zero

pub gather-zero : (n M : ℕ) → gather n M 0 ≡ 0
unfolding gather
gather-zero zero M = refl
gather-zero (suc n) M = rw (gather-zero n (M / 2)) (put_digit-zero (M % 2))

pub spread-zero : (n M : ℕ) → spread n M 0 ≡ 0
unfolding spread
spread-zero zero M = refl
spread-zero (suc n) M = rw (drop_digit-zero (M % 2), low_digit-zero (M % 2), spread-zero n (M / 2))

-- ---- there and back

join-none : (M j r : ℕ) → join 0 M j r ≡ 0
unfolding join spread
join-none M j r = refl

join_step : (n M j r : ℕ)
    → join (suc n) M j r ≡ join n (M / 2) (drop_digit (1 - M % 2) j) (drop_digit (M % 2) r) * 2 + (low_digit (1 - M % 2) j + low_digit (M % 2) r)
unfolding join spread
join_step n M j r = rw (outside-half, outside_low) (omega arith)

join-half : (n M j r : ℕ) → join (suc n) M j r / 2 ≡ join n (M / 2) (drop_digit (1 - M % 2) j) (drop_digit (M % 2) r)
join-half n M j r = omega (arith, join_step n M j r, low_digits-lt (M % 2) j r (low-lt M))

join-low : (n M j r : ℕ) → join (suc n) M j r % 2 ≡ low_digit (1 - M % 2) j + low_digit (M % 2) r
join-low n M j r = omega (arith, join_step n M j r, low_digits-lt (M % 2) j r (low-lt M))

pub join-lt : (n M j r : ℕ) → join n M j r < 2 ^ n
join-lt zero M j r = rw (join-none M j r) (omega arith)
join-lt (suc n) M j r =
    omega (arith, join_step n M j r, low_digits-lt (M % 2) j r (low-lt M), join-lt n (M / 2) (drop_digit (1 - M % 2) j) (drop_digit (M % 2) r))

-- what was put in M
pub gather-join : (n M j r : ℕ) → r < 2 ^ ones_in n M → gather n M (join n M j r) ≡ r
unfolding gather ones_in
gather-join zero M j r h = sym (lt-one h)
gather-join (suc n) M j r h =
    rw (join-half, join-low, gather-join n (M / 2) (drop_digit (1 - M % 2) j) (drop_digit (M % 2) r) (drop_digit-lt (M % 2) _ r (low-lt M) h))
    (put_digit-in (M % 2) j r (low-lt M))

-- what was put outside M
pub gather-outside-join : (n M j r : ℕ) → j < 2 ^ ones_in n (outside n M) → gather n (outside n M) (join n M j r) ≡ j
unfolding gather ones_in
gather-outside-join zero M j r h = sym (lt-one h)
gather-outside-join (suc n) M j r h =
    let h' : j < 2 ^ (1 - M % 2 + ones_in n (outside n (M / 2))) = rw (outside-half, outside_low) at h in
    rw (
      join-half,
      join-low,
      outside-half,
      outside_low,
      gather-outside-join n (M / 2) (drop_digit (1 - M % 2) j) (drop_digit (M % 2) r) (drop_digit-lt (1 - M % 2) _ j (omega arith) h'),
    )
    (put_digit-out (M % 2) j r (low-lt M))

-- a number is joined of its two parts
pub join-gather : (n M x : ℕ) → x < 2 ^ n → join n M (gather n (outside n M) x) (gather n M x) ≡ x
unfolding gather
join-gather zero M x h = join-none M 0 0 ∙ sym (lt-one h)
join-gather (suc n) M x h =
    let lx : x % 2 < 2 = low-lt x in
    let lm : M % 2 < 2 = low-lt M in
    rw (join_step, outside-half, outside_low)
    (simp (drop_digit-put, low_digits-put, join-gather n (M / 2) (x / 2) (omega arith)) (div-add-mod' x 2))

join-zero : (n M r : ℕ) → join n M 0 r ≡ spread n M r
unfolding join
join-zero n M r = rw (spread-zero n (outside n M)) (zero-add (spread n M r))

pub gather-spread : (n M r : ℕ) → r < 2 ^ ones_in n M → gather n M (spread n M r) ≡ r
gather-spread n M r h = ap (gather n M) (sym (join-zero n M r)) ∙ gather-join n M 0 r h

-- a number with no bit outside M is spread from its bits in M
pub spread-gather : (n M x : ℕ) → x < 2 ^ n → gather n (outside n M) x ≡ 0 → spread n M (gather n M x) ≡ x
spread-gather n M x h z = sym (join-zero n M (gather n M x)) ∙ ap (λ (j : ℕ). join n M j (gather n M x)) (sym z) ∙ join-gather n M x h

-- ---- sums by blocks

gather-even : (n M s : ℕ) → gather (suc n) M (s * 2) ≡ put_digit (M % 2) (gather n (M / 2) s) 0
unfolding gather
gather-even n M s =
    let h : s * 2 / 2 ≡ s = omega arith in
    let l : s * 2 % 2 ≡ 0 = omega arith in
    rw (h, l)

gather-odd : (n M s : ℕ) → gather (suc n) M (s * 2 + 1) ≡ put_digit (M % 2) (gather n (M / 2) s) 1
unfolding gather
gather-odd n M s =
    let h : (s * 2 + 1) / 2 ≡ s = omega arith in
    let l : (s * 2 + 1) % 2 ≡ 1 = omega arith in
    rw (h, l)

module _ (op : ℕ → ℕ → ℕ) (assoc : (a b c : ℕ) → op (op a b) c ≡ op a (op b c)) (comm : (a b : ℕ) → op a b ≡ op b a)
    (unit : (a : ℕ) → op a 0 ≡ a) where
  -- all g j r, for j below 2 ^ a and r below 2 ^ k
  abbrev rectangle : ℕ → ℕ → (ℕ → ℕ → ℕ) → ℕ
  rectangle a k g = fold_below op (2 ^ a) (λ j. fold_below op (2 ^ k) (λ r. g j r))

  sums-step : (m a k : ℕ) (g : ℕ → ℕ → ℕ) → m < 2
      → op (rectangle a k (λ j r. g (put_digit (1 - m) j 0) (put_digit m r 0))) (rectangle a k (λ j r. g (put_digit (1 - m) j 1) (put_digit m r 1)))
      ≡ rectangle (1 - m + a) (m + k) g
  unfolding put_digit
  sums-step zero a k g h = simp (one-add, zero-add, add-zero) (sym (fold-split op assoc comm unit a (λ j. fold_below op (2 ^ k) (g j))))
  sums-step (suc zero) a k g h =
      simp (one-add, zero-add, add-zero, fold-split op assoc comm unit k)
      (sym (fold-op op assoc comm unit (2 ^ a) (λ j. fold_below op (2 ^ k) (λ r. g j (r * 2))) (λ j. fold_below op (2 ^ k) (λ r. g j (r * 2 + 1)))))
  sums-step (suc (suc m)) a k g h = absurd (omega arith)

  sums_none : (M : ℕ) (g : ℕ → ℕ → ℕ) → fold_below op 1 (λ t. g (gather 0 (outside 0 M) t) (gather 0 M t)) ≡ rectangle 0 0 g
  unfolding gather fold_below
  sums_none M g = sym (comm 0 (op 0 (g 0 0)) ∙ unit (op 0 (g 0 0)))

  -- over all t below 2 ^ n: over what stands outside M, and for each over what stands in M
  pub sums : (n M : ℕ) (g : ℕ → ℕ → ℕ) → fold_below op (2 ^ n) (λ t. g (gather n (outside n M) t) (gather n M t))
      ≡ fold_below op (2 ^ ones_in n (outside n M)) (λ j. fold_below op (2 ^ ones_in n M) (λ r. g j r))
  unfolding ones_in
  sums zero M g = sums_none M g
  sums (suc n) M g =
      fold-split op assoc comm unit n (λ t. g (gather (suc n) (outside (suc n) M) t) (gather (suc n) M t))
      ∙ simp (gather-even, gather-odd, outside-half, outside_low)
      (ap₂ op (sums n (M / 2) (λ j r. g (put_digit (1 - M % 2) j 0) (put_digit (M % 2) r 0)))
      (sums n (M / 2) (λ j r. g (put_digit (1 - M % 2) j 1) (put_digit (M % 2) r 1)))
      ∙ sums-step (M % 2) (ones_in n (outside n (M / 2))) (ones_in n (M / 2)) g (low-lt M))
