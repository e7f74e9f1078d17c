-- The longest listing. A record within its limits has a listing of at most 5,929 bytes, those of its first word and those before the digit of k
-- (`listing-most`). The listing of an answer has at most 5,906 and these (`answer-longest`), with `f2` 5,911 with `form` and 5,912 with `form2`: an
-- answer's constant is in its mask, so that it has at most 255 products. Where the terms of a block do not choose apart and there are as many, its mixed
-- set is the least there is, so that there are two bytes fewer (`listing-longest`): 5,908 and 5,909 with a digit, 5,909 and 5,910 with `f0` and `f1`.
use mathlib.Core.Bool.{Bool, true, false, cond}
use mathlib.Core.List.{[], ◌∷◌}
use mathlib.Core.Path.{◌≡◌, refl}
use Prim.Native.Nat.{ℕ, ◌+◌, ◌*◌, ◌^◌, ◌≤◌, ◌<◌}
use native.Mathlib.Nat.{mul-le-mul}
use native.Mathlib.Omega.{arith}
use borrow.Author.Tests.{lt-ltb, ltb-true, ltb-false}
use lib.Dec.{ltb}
use lib.ListN.{length}
use lib.Pow.{pow_mono}
use Rattle.numbers.specs.Bytes.{at}
use Rattle.expansions.specs.declared.kinds.Class.{Class}
use Rattle.expansions.specs.declared.families.Family.{Family}
use Rattle.expansions.specs.Classes.{apart}
use Rattle.expansions.specs.Costs.{products}
use Rattle.search.specs.Expansion.{Answered}
use Rattle.search.specs.declared.expansion.Expansion.{Expansion}
use Rattle.expansions.proofs.Costs.{products-le}
use Rattle.search.proofs.expansion.Full.{answer-products-lt, full-least}
use Rattle.listings.specs.Listing.{digit_count, mixed_mark, form_word, listing}
use Rattle.listings.specs.Inner.Lengths.{digits_of}
use Rattle.listings.proofs.Lengths.{listing_length, length-form_fields, length-listing}
use Rattle.listings.proofs.Characters.{digit_count-in}

-- ---- how many digits

pub digit_count-one : (x : ℕ) → x < 10 → digit_count x ≡ 1
unfolding digit_count
digit_count-one x h = rw (lt-ltb x 10 h)

pub digit_count-three : (x : ℕ) → x < 1000 → digit_count x ≤ 3
unfolding digit_count
digit_count-three x h = go (ltb x 10) (ltb x 100) where
  go : (a b : Bool) → cond a 1 (cond b 2 (cond (ltb x 1000) 3 4)) ≤ 3
  go true b = omega arith
  go false true = omega arith
  go false false = rw (lt-ltb x 1000 h) (omega arith)

-- the digits of the seven numbers, where n, m and k are digits and M and i have at most d together
module _ (C : Class) (family : Family) (n m k : ℕ) (e : Expansion) (hn : n ≤ 8) (hm : m ≤ 8) (hk : k < 10) (few : e.products ≤ 256) where
  digits_le : (d : ℕ) → digit_count e.mixed + digit_count e.fixed ≤ d
      → digits_of (n ∷ m ∷ k ∷ e.mixed ∷ e.fixed ∷ e.products ∷ e.literals ∷ []) ≤ d + 10
  unfolding digits_of
  digits_le d h =
      omega (arith, digit_count-one n (omega arith), digit_count-one m (omega arith), digit_count-one k hk, digit_count-three e.products (omega arith), digit_count-in e.literals)

  length-le : (d p : ℕ) → digit_count e.mixed + digit_count e.fixed ≤ d → products n (at e.coefficients) ≤ p
      → length (listing C family n m k e) ≤ 35 + d + p * 23 + length (form_word family) + length (mixed_mark C)
  unfolding listing_length
  length-le d p h l =
      let terms : products n (at e.coefficients) * (5 + n + 1 + m + 1) ≤ p * 23 = mul-le-mul l (omega arith) in
      rw (length-listing C family n m k e) (omega (arith, digits_le d h, length-form_fields C n m k e.mixed e.fixed e.products e.literals))

pub listing-most : (C : Class) (family : Family) (n m k : ℕ) (e : Expansion) → n ≤ 8 → m ≤ 8 → k < 10 → e.mixed < 256 → e.fixed < 256 → e.products ≤ 256
    → length (listing C family n m k e) ≤ 5929 + length (form_word family) + length (mixed_mark C)
listing-most C family n m k e hn hm hk M i few =
    let most : products n (at e.coefficients) ≤ 256 = omega (arith, products-le n (at e.coefficients), pow_mono {i = n} {j = 8} hn) in
    length-le C family n m k e hn hm hk few 6 256 (omega (arith, digit_count-three e.mixed (omega arith), digit_count-three e.fixed (omega arith))) most

-- ---- the answer's listing

module _ (C : Class) (family : Family) (n m k : ℕ) (e : Expansion) (f : ℕ → ℕ) (hn : n ≤ 8) (hm : m ≤ 8) (hk : k ≤ 3) (le : k ≤ n)
    (bytes : (p : ℕ) → p < 2 ^ n → f p < 2 ^ 8) (minimal : Answered C family n k f e) where
  size : 2 ^ n ≤ 256
  size = pow_mono {i = n} {j = 8} hn

  few : e.products ≤ 255
  few = omega (arith, size, answer-products-lt C family n k f _ _ _ _ _ _ _ hn le bytes minimal)

  fixed : digit_count e.fixed ≤ 3
  fixed = digit_count-three e.fixed (omega (arith, size, minimal.answer.member.pair.fixed))

  mixed : digit_count e.mixed ≤ 3
  mixed = digit_count-three e.mixed (omega (arith, size, minimal.answer.member.pair.mask))

  answer-length : (d p : ℕ) → digit_count e.mixed + digit_count e.fixed ≤ d → e.products ≤ p
      → length (listing C family n m k e) ≤ 35 + d + p * 23 + length (form_word family) + length (mixed_mark C)
  answer-length d p h l = length-le C family n m k e hn hm (omega arith) (omega (arith, few)) d p h (omega (arith, minimal.products_counted))

  pub answer-longest : length (listing C family n m k e) ≤ 5906 + length (form_word family) + length (mixed_mark C)
  answer-longest = answer-length 6 255 (omega (arith, mixed, fixed)) few

  pub listing-longest : apart C k ≡ false → length (listing C family n m k e) ≤ 5904 + length (form_word family) + length (mixed_mark C)
  listing-longest one = go (ltb e.products 255) refl
    where
      go : (b : Bool) → ltb e.products 255 ≡ b → length (listing C family n m k e) ≤ 5904 + length (form_word family) + length (mixed_mark C)
      go true h = omega (arith, answer-length 6 254 (omega (arith, mixed, fixed)) (omega (arith, ltb-true e.products 255 h)))
      go false h =
          let least = full-least C family n k f _ _ _ _ _ _ _ hn le bytes minimal one (omega (arith, size, ltb-false e.products 255 h)) in
          let lowest : digit_count e.mixed ≡ 1 = digit_count-one e.mixed (omega (arith, least, pow_mono {i = k} {j = 3} hk)) in
          answer-length 4 255 (omega (arith, fixed, lowest)) few
