-- The test on all bytes by one bound on their OR, as `within_outputs` makes it (`below-seen`, `below-whole`), and what it says of each byte.
use mathlib.Core.Path.{◌≡◌, sym, ap, ◌∙◌}
use mathlib.Core.Bool.{Bool, ◌&&◌, and_assoc, and-true}
use mathlib.Core.List.{List, [], ◌∷◌}
use Prim.Native.Nat.{ℕ, zero, suc, ◌^◌, ◌≤◌, ◌<◌}
use native.Mathlib.Omega.{arith}
use lib.Bits.{bit_or, or_lt, or_add_and, and_le_l, and_le_r}
use lib.Dec.{T, leb, ltb, ltb→lt, lt→ltb, le→leb}
use lib.Pow.{pow_mono, pow_pos}
use borrow.Author.Tests.{lt-ltb}
use Rattle.std.specs.List.{fold}
use Rattle.numbers.specs.Bytes.{at, all_below}
use Rattle.numbers.proofs.Tests.{same_test, and_intro, and_left, and_right}

-- ---- what the OR of the bytes tells

or-le : (a b : ℕ) → (a ≤ bit_or a b) × (b ≤ bit_or a b)
or-le a b = (omega (arith, or_add_and a b, and_le_r a b), omega (arith, or_add_and a b, and_le_l a b))

or-below : (m a b : ℕ) → ltb (bit_or a b) (2 ^ m) ≡ (ltb a (2 ^ m) && ltb b (2 ^ m))
or-below m a b =
    same_test (ltb (bit_or a b) (2 ^ m)) (ltb a (2 ^ m) && ltb b (2 ^ m))
    (λ t.
    let h = ltb→lt (bit_or a b) (2 ^ m) t in
    and_intro (ltb a (2 ^ m)) (ltb b (2 ^ m)) (lt→ltb a (2 ^ m) (omega (arith, (or-le a b).0))) (lt→ltb b (2 ^ m) (omega (arith, (or-le a b).1))))
    (λ t. lt→ltb (bit_or a b) (2 ^ m) (or_lt m a b (ltb→lt a (2 ^ m) (and_left (ltb a (2 ^ m)) (ltb b (2 ^ m)) t)) (ltb→lt b (2 ^ m) (and_right (ltb a (2 ^ m)) (ltb b (2 ^ m)) t))))

-- the OR of what was seen and of the bytes is below 2^m where each of them is
seen-each : (m : ℕ) (bytes : List ℕ) (seen : ℕ) → ltb (fold bit_or seen bytes) (2 ^ m) ≡ (ltb seen (2 ^ m) && all_below (2 ^ m) bytes)
unfolding all_below
seen-each m [] seen = sym (and-true (ltb seen (2 ^ m)))
seen-each m (x ∷ xs) seen =
    seen-each m xs (bit_or seen x)
    ∙ ap (λ (b : Bool). b && all_below (2 ^ m) xs) (or-below m seen x)
    ∙ and_assoc (ltb seen (2 ^ m)) (ltb x (2 ^ m)) (all_below (2 ^ m) xs)

pub below-seen : (m : ℕ) (bytes : List ℕ) → ltb (fold bit_or 0 bytes) (2 ^ m) ≡ all_below (2 ^ m) bytes
below-seen m bytes = seen-each m bytes 0 ∙ ap (λ (b : Bool). b && all_below (2 ^ m) bytes) (lt-ltb 0 (2 ^ m) (pow_pos m))

-- ---- bytes below a bound

pub below_at : (bound : ℕ) (bytes : List ℕ) → 0 < bound → T (all_below bound bytes) → (p : ℕ) → at bytes p < bound
unfolding all_below
below_at bound [] h t = λ p. h
below_at bound (x ∷ xs) h t = elim [
  | zero ↦ ltb→lt x bound (and_left (ltb x bound) (all_below bound xs) t)
  | suc p ↦ below_at bound xs h (and_right (ltb x bound) (all_below bound xs) t) p
]

pub below-from : (bound : ℕ) (bytes : List ℕ) → ((p : ℕ) → at bytes p < bound) → T (all_below bound bytes)
unfolding all_below
below-from bound [] h = tt
below-from bound (x ∷ xs) h = and_intro (ltb x bound) (all_below bound xs) (lt→ltb x bound (h 0)) (below-from bound xs (λ p. h (suc p)))

-- a byte has no bit at 8 or above
pub below-whole : (m : ℕ) (bytes : List ℕ) → 8 ≤ m → ((p : ℕ) → at bytes p < 2 ^ 8) → leb 8 m ≡ all_below (2 ^ m) bytes
below-whole m bytes h small =
    let least : 2 ^ 8 ≤ 2 ^ m = pow_mono h in
    same_test (leb 8 m) (all_below (2 ^ m) bytes) (λ t. below-from (2 ^ m) bytes (λ p. omega (arith, small p))) (λ t. le→leb 8 m h)
