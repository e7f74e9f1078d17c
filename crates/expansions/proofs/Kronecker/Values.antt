-- The value of an expansion of a kind. It is linear in the coefficients (`kronecker-value-xor`) and splits by the highest input
-- (`kronecker-value-top`). So the coefficients are unique "for a mixture of the three steps, once over n" (`kronecker-unique`).
use mathlib.Core.Path.{◌≡◌, refl, sym, ap, ap₂, ◌∙◌}
use mathlib.Core.Bool.{Bool, ◌&&◌}
use mathlib.Core.Logic.{◌↔◌}
use Prim.Native.Nat.{ℕ, zero, suc, ◌+◌, ◌*◌, ◌^◌, ◌<◌}
use native.Mathlib.Omega.{arith}
use native.Mathlib.Nat.{not-suc-le-zero}
use lib.Arith.{lt-one}
use lib.Bits.{bit_xor, xor_zero_r, xor_self}
use lib.Dec.{T, lit<}
use Rattle.numbers.specs.Sums.{fold_below, xor_below}
use Rattle.numbers.specs.Bits.{bit}
use Rattle.numbers.specs.Tests.{only}
use Rattle.numbers.proofs.Bits.{bit_below}
use Rattle.numbers.proofs.Xor.{xor_assoc, xor-eq}
use Rattle.numbers.proofs.Sums.{fold-ext, fold-map, xor-op, xor-only-map}
use Rattle.numbers.proofs.Tests.{only-and, only-xor, only_zero, and_intro, and_left, and_right}
use Rattle.expansions.proofs.Least.{below-one-more}
use Rattle.expansions.specs.Kronecker.Letters.{literal_of, literal_true, TermTrue, term_true, kronecker_value}
use Rattle.expansions.proofs.Kronecker.Halves.{bit-top, below-halves, half_lt, fold-halves}

-- ---- a term's truth

-- the test and the words agree
pub term_words : (n : ℕ) (letters : ℕ → ℕ) (t p : ℕ) → T (term_true n letters t p) ↔ TermTrue n letters t p
unfolding term_true TermTrue
term_words n letters t p = (to n, from n)
  where
    at : ℕ → Bool
    at i = literal_true (literal_of (letters i) (bit i t)) (bit i p)

    to : (n : ℕ) → T (term_true n letters t p) → (i : ℕ) → i < n → T (at i)
    to zero h = λ i l. absurd (not-suc-le-zero l)
    to (suc n) h = below-one-more n (λ i. T (at i)) (to n (and_right (at n) (term_true n letters t p) h)) (and_left (at n) (term_true n letters t p) h)

    from : (n : ℕ) → ((i : ℕ) → i < n → T (at i)) → T (term_true n letters t p)
    from zero h = tt
    from (suc n) h = and_intro (at n) (term_true n letters t p) (h n (omega arith)) (from n (λ i l. h i (omega arith)))

-- only the bits of the n inputs count
term-ext : (n : ℕ) (letters : ℕ → ℕ) (t t' p p' : ℕ) → ((i : ℕ) → i < n → bit i t ≡ bit i t') → ((i : ℕ) → i < n → bit i p ≡ bit i p')
    → term_true n letters t p ≡ term_true n letters t' p'
unfolding term_true
term-ext zero letters t t' p p' e f = refl
term-ext (suc n) letters t t' p p' e f =
    ap₂ ◌&&◌ (ap₂ (λ (x y : ℕ). literal_true (literal_of (letters n) x) y) (e n (omega arith)) (f n (omega arith)))
    (term-ext n letters t t' p p' (λ i l. e i (omega arith)) (λ i l. f i (omega arith)))

-- and only their letters
term-letters : (n : ℕ) (a b : ℕ → ℕ) (t p : ℕ) → ((i : ℕ) → i < n → a i ≡ b i) → term_true n a t p ≡ term_true n b t p
unfolding term_true
term-letters zero a b t p e = refl
term-letters (suc n) a b t p e =
    ap₂ ◌&&◌ (ap (λ (x : ℕ). literal_true (literal_of x (bit n t)) (bit n p)) (e n (omega arith))) (term-letters n a b t p (λ i l. e i (omega arith)))

-- by the highest input and the rest
term-top : (n : ℕ) (letters : ℕ → ℕ) (d s a q : ℕ) → d < 2 → s < 2 ^ n → a < 2 → q < 2 ^ n
    → term_true (suc n) letters (d * 2 ^ n + s) (a * 2 ^ n + q) ≡ (literal_true (literal_of (letters n) d) a && term_true n letters s q)
unfolding term_true
term-top n letters d s a q hd hs ha hq =
    ap₂ ◌&&◌ (ap₂ (λ (x y : ℕ). literal_true (literal_of (letters n) x) y) (bit-top n d s hd hs) (bit-top n a q ha hq))
    (term-ext n letters (d * 2 ^ n + s) s (a * 2 ^ n + q) q (λ i l. bit_below i n d s l) (λ i l. bit_below i n a q l))

-- ---- the value

pub kronecker-value-ext : (n : ℕ) (letters c d : ℕ → ℕ) (p : ℕ) → ((t : ℕ) → t < 2 ^ n → c t ≡ d t)
    → kronecker_value n letters c p ≡ kronecker_value n letters d p
unfolding kronecker_value
kronecker-value-ext n letters c d p e = fold-ext bit_xor (2 ^ n) _ _ (λ t l. ap (only (term_true n letters t p)) (e t l))

pub kronecker-value-letters : (n : ℕ) (a b c : ℕ → ℕ) (p : ℕ) → ((i : ℕ) → i < n → a i ≡ b i) → kronecker_value n a c p ≡ kronecker_value n b c p
unfolding kronecker_value
kronecker-value-letters n a b c p e = fold-ext bit_xor (2 ^ n) _ _ (λ t l. ap (λ (x : Bool). only x (c t)) (term-letters n a b t p e))

pub kronecker-value-xor : (n : ℕ) (letters c d : ℕ → ℕ) (p : ℕ)
    → kronecker_value n letters (λ t. bit_xor (c t) (d t)) p ≡ bit_xor (kronecker_value n letters c p) (kronecker_value n letters d p)
unfolding kronecker_value
kronecker-value-xor n letters c d p = simp only-xor (xor-op (2 ^ n) _ _)

-- a map that passes through the exclusive OR, as taking some of the outputs
pub kronecker-value-map : (h : ℕ → ℕ) → h 0 ≡ 0 → ((a b : ℕ) → h (bit_xor a b) ≡ bit_xor (h a) (h b))
    → (n : ℕ) (letters c : ℕ → ℕ) (p : ℕ) → h (kronecker_value n letters c p) ≡ kronecker_value n letters (λ t. h (c t)) p
unfolding kronecker_value
kronecker-value-map h z x n letters c p = xor-only-map h z x (2 ^ n) (λ t. term_true n letters t p) c

-- with no input there is one term, the constant
pub kronecker-value-none : (letters c : ℕ → ℕ) (p : ℕ) → kronecker_value 0 letters c p ≡ c 0
unfolding kronecker_value fold_below only term_true
kronecker-value-none letters c p = refl

-- what the terms with the bit d at the highest input add, from those terms' value over the other inputs
unfoldable pub at_literal : (letter d a v : ℕ) → ℕ
at_literal letter d a v = only (literal_true (literal_of letter d) a) v

pub kronecker-value-top : (n : ℕ) (letters c : ℕ → ℕ) (a q : ℕ) → a < 2 → q < 2 ^ n → kronecker_value (suc n) letters c (a * 2 ^ n + q)
    ≡ bit_xor (at_literal (letters n) 0 a (kronecker_value n letters (λ s. c (0 * 2 ^ n + s)) q))
    (at_literal (letters n) 1 a (kronecker_value n letters (λ s. c (1 * 2 ^ n + s)) q))
unfolding kronecker_value at_literal
kronecker-value-top n letters c a q ha hq = fold-halves bit_xor xor_assoc xor_zero_r n _ ∙ ap₂ bit_xor (half 0 (omega arith)) (half 1 (omega arith))
  where
    half : (d : ℕ) → d < 2 → xor_below (2 ^ n) (λ s. only (term_true (suc n) letters (d * 2 ^ n + s) (a * 2 ^ n + q)) (c (d * 2 ^ n + s)))
        ≡ only (literal_true (literal_of (letters n) d) a) (xor_below (2 ^ n) (λ s. only (term_true n letters s q) (c (d * 2 ^ n + s))))
    half d hd =
        let b : Bool = literal_true (literal_of (letters n) d) a in
        fold-ext bit_xor (2 ^ n) _ (λ s. only b (only (term_true n letters s q) (c (d * 2 ^ n + s))))
        (λ s l. ap (λ (x : Bool). only x (c (d * 2 ^ n + s))) (term-top n letters d s a q hd l ha hq) ∙ only-and b (term_true n letters s q) (c (d * 2 ^ n + s)))
        ∙ sym (fold-map bit_xor (only b) (only_zero b) (only-xor b) (2 ^ n) (λ s. only (term_true n letters s q) (c (d * 2 ^ n + s))))

-- ---- uniqueness

-- what is 0 at both values of an input has no part without it or with it, whichever the step
parts-zero : (letter : ℕ) (v : ℕ → ℕ) → ((a : ℕ) → a < 2 → bit_xor (at_literal letter 0 a (v 0)) (at_literal letter 1 a (v 1)) ≡ 0)
    → (d : ℕ) → d < 2 → v d ≡ 0
unfolding at_literal only literal_true literal_of
parts-zero zero v e zero h = sym (xor_zero_r (v 0)) ∙ e 0 (lit< tt)
parts-zero zero v e (suc zero) h = e 1 (lit< tt)
parts-zero (suc zero) v e zero h = sym (xor_zero_r (v 0)) ∙ e 0 (lit< tt)
parts-zero (suc zero) v e (suc zero) h = sym (xor-eq (v 0) (v 1) (e 1 (lit< tt))) ∙ sym (xor_zero_r (v 0)) ∙ e 0 (lit< tt)
parts-zero (suc (suc letter)) v e zero h = sym (xor_zero_r (v 0)) ∙ e 1 (lit< tt)
parts-zero (suc (suc letter)) v e (suc zero) h = sym (xor-eq (v 0) (v 1) (e 0 (lit< tt))) ∙ sym (xor_zero_r (v 0)) ∙ e 1 (lit< tt)
parts-zero letter v e (suc (suc d)) h = absurd (omega arith)

-- an expansion that is 0 at every point has no coefficient
kronecker-kernel : (n : ℕ) (letters c : ℕ → ℕ) → ((p : ℕ) → p < 2 ^ n → kronecker_value n letters c p ≡ 0) → (t : ℕ) → t < 2 ^ n → c t ≡ 0
kronecker-kernel zero letters c z = λ t h. rw (lt-one h) (sym (kronecker-value-none letters c 0) ∙ z 0 (lit< tt))
kronecker-kernel (suc n) letters c z =
    below-halves n (λ t. c t ≡ 0)
    (λ d s hd hs.
    kronecker-kernel n letters (λ x. c (d * 2 ^ n + x))
    (λ q hq.
    parts-zero (letters n) (λ b. kronecker_value n letters (λ x. c (b * 2 ^ n + x)) q)
    (λ a ha. sym (kronecker-value-top n letters c a q ha hq) ∙ z (a * 2 ^ n + q) (half_lt n a q ha hq)) d hd) s hs)

-- two expansions of one kind, whatever its letters, that agree at every point have the same coefficients
pub kronecker-unique : (n : ℕ) (letters c d : ℕ → ℕ) → ((p : ℕ) → p < 2 ^ n → kronecker_value n letters c p ≡ kronecker_value n letters d p)
    → (t : ℕ) → t < 2 ^ n → c t ≡ d t
kronecker-unique n letters c d e t h =
    xor-eq (c t) (d t)
    (kronecker-kernel n letters (λ s. bit_xor (c s) (d s))
    (λ p l. kronecker-value-xor n letters c d p ∙ ap (λ (x : ℕ). bit_xor x (kronecker_value n letters d p)) (e p l)
    ∙ xor_self (kronecker_value n letters d p)) t h)
