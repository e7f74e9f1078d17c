-- The truth of a term at a point: by the lowest input and the rest, and in document 01's words (`holds-words`).
use mathlib.Core.Path.{◌≡◌, refl, sym, ap, ◌∙◌}
use mathlib.Core.Bool.{true, ◌&&◌}
use mathlib.Core.Logic.{◌↔◌}
use Prim.Native.Nat.{ℕ, zero, suc, ◌+◌, ◌*◌, ◌/◌, ◌%◌, ◌^◌, ◌<◌}
use native.Mathlib.Nat.{add-zero}
use native.Mathlib.Omega.{arith}
use lib.Bits.{bit_and, bit_xor, differ, xor_zero_r}
use lib.Dec.{eqb, T}
use Rattle.numbers.specs.Bits.{bit, inside}
use Rattle.algebra.specs.Terms.{literal, LiteralsTrue, holds, lowest}
use Rattle.numbers.specs.Tests.{only}
use Rattle.numbers.proofs.Ands.{and_xor}
use Rattle.numbers.proofs.Xor.{low-lt, xor-half, xor_low}
use Rattle.numbers.proofs.Bits.{bit-xor, inside-zero, covered, inside-to, inside-digits, inside-from}

-- ---- a term's truth, by the lowest input and the rest

pub holds-even : (s w p : ℕ) → holds (s * 2) w p ≡ holds s (w / 2) (p / 2)
unfolding holds covered
holds-even s w p = ap (λ (x : ℕ). inside x (bit_xor p w)) (sym (add-zero (s * 2))) ∙ inside-digits s 0 (bit_xor p w) (omega arith) ∙ ap (inside s) (xor-half p w)

pub holds-odd : (s w p : ℕ) → holds (s * 2 + 1) w p ≡ (lowest w p && holds s (w / 2) (p / 2))
unfolding holds lowest covered
holds-odd s w p = inside-digits s 1 (bit_xor p w) (omega arith) ∙ ap (λ (x : ℕ). eqb (bit_xor p w % 2) 1 && inside s x) (xor-half p w)

pub holds-zero : (w p : ℕ) → holds 0 w p ≡ true
unfolding holds
holds-zero w p = inside-zero (bit_xor p w)

-- of the points 2 q and 2 q + 1 the literal is true at one
pub lowest-once : (w q c : ℕ) → bit_xor (only (lowest w (q * 2)) c) (only (lowest w (q * 2 + 1)) c) ≡ c
unfolding lowest only
lowest-once w q c =
    let e : q * 2 % 2 ≡ 0 = omega arith in
    let e' : (q * 2 + 1) % 2 ≡ 1 = omega arith in
    rw (xor_low (q * 2) w, xor_low (q * 2 + 1) w, e, e') (go (w % 2) (low-lt w))
  where
    go : (x : ℕ) → x < 2 → bit_xor (only (eqb (differ 0 x) 1) c) (only (eqb (differ 1 x) 1) c) ≡ c
    go zero h = refl
    go (suc zero) h = xor_zero_r c
    go (suc (suc x)) h = absurd (omega arith)

-- of a polarity only the bits at the term count
pub holds-shown : (t w w' p : ℕ) → bit_and t w ≡ bit_and t w' → holds t w p ≡ holds t w' p
unfolding holds inside
holds-shown t w w' p e = ap (λ (x : ℕ). eqb x t) (and_xor t p w ∙ ap (bit_xor (bit_and t p)) e ∙ sym (and_xor t p w'))

-- ---- in words

-- a literal is where the input's value and the polarity's bit differ
literal-differ : (w x : ℕ) → w < 2 → x < 2 → literal w x ≡ differ x w
unfolding literal
literal-differ zero zero hw hx = refl
literal-differ zero (suc x) hw hx = refl
literal-differ (suc zero) zero hw hx = refl
literal-differ (suc zero) (suc zero) hw hx = refl
literal-differ (suc zero) (suc (suc x)) hw hx = absurd (omega arith)
literal-differ (suc (suc w)) x hw hx = absurd (omega arith)

literal-bit : (i w p : ℕ) → literal (bit i w) (bit i p) ≡ bit i (bit_xor p w)
literal-bit i w p = literal-differ (bit i w) (bit i p) (low-lt (w / 2 ^ i)) (low-lt (p / 2 ^ i)) ∙ sym (bit-xor i p w)

-- the test on masks, by which the code goes, and document 01's words agree
pub holds-words : (t w p : ℕ) → T (holds t w p) ↔ LiteralsTrue t w p
unfolding holds LiteralsTrue
holds-words t w p = (
  (λ h i e. literal-bit i w p ∙ inside-to t (bit_xor p w) h i e),
  (λ f. inside-from t (bit_xor p w) (λ i e. sym (literal-bit i w p) ∙ f i e)),
)
