-- The total transforms: the bytes moved by w and joined are the coefficients (`coefficients-filled`), joined and then moved are the values
-- (`values-filled`), and with the inputs in which two polarities differ turned over they are the coefficients under the other
-- (`changed-filled`).
use mathlib.Core.Path.{◌≡◌, refl, sym, ap, ◌∙◌}
use mathlib.Core.Bool.{true}
use mathlib.Core.List.{List}
use Prim.Native.Nat.{ℕ, suc, ◌+◌, ◌*◌, ◌/◌, ◌%◌, ◌^◌, ◌≤◌, ◌<◌}
use native.Mathlib.Nat.{div-add-mod', mod-lt, mod_self, mod-eq_of_lt, zero-add}
use native.Mathlib.Omega.{arith}
use borrow.Author.Tests.{lt-ltb}
use lib.Pow.{pow_pos, pow_mono, shl_lt, shl_exact}
use lib.ListN.{length}
use lib.Bits.{bit_xor, xor_lt}
use Rattle.numbers.specs.Bits.{bit}
use Rattle.numbers.specs.Bytes.{at, tabulate}
use Rattle.numbers.proofs.Bytes.{length-tabulate, at-tabulate, tabulate-ext}
use Rattle.numbers.proofs.Flips.{xor_above}
use Rattle.numbers.proofs.Xor.{xor-cancel-l}
use Rattle.numbers.proofs.Multiples.{multiple-down}
use Rattle.algebra.specs.Terms.{value}
use Rattle.algebra.specs.Coefficients.{xor_inside, coefficient}
use Rattle.algebra.specs.Transform.{lane, in_lanes, fits, coefficient_bytes, changed_bytes}
use Rattle.algebra.specs.Inner.Steps.{half_step, turned_where, all_steps}
use Rattle.algebra.proofs.Inside.{inside-ext}
use Rattle.algebra.proofs.Coefficients.{value-inside, coefficient-value}
use Rattle.algebra.proofs.HalfSteps.{half-lane, where-lane, where_below, steps-lane, steps-below}
use Rattle.algebra.proofs.Turned.{steps-inside, coefficient-changed}
use Rattle.algebra.proofs.Lanes.{Fitting, fits-true, lanes-one, place-lt, point-lt}

-- ---- in lanes

-- steps that go through each lane by itself
steps-lanes : (k n : ℕ) (all each : ℕ → (ℕ → ℕ) → ℕ → ℕ) (g : ℕ → ℕ) (x : ℕ)
    → ((s : ℕ) (f : ℕ → ℕ) (q o : ℕ) → o < 2 ^ k → all s f (q * 2 ^ k + o) ≡ each s (lane k f o) q) → all_steps all n g x ≡ in_lanes k (all_steps each n) g x
unfolding in_lanes
steps-lanes k n all each g x e =
    ap (all_steps all n g) (sym (div-add-mod' x (2 ^ k))) ∙ steps-lane k all each (x % 2 ^ k) (λ s f q. e s f q (x % 2 ^ k) (mod-lt x (pow_pos k))) n g (x / 2 ^ k)

joined-lanes : (k n : ℕ) (g : ℕ → ℕ) (x : ℕ) → x < 2 ^ (k + n) → all_steps (λ s. half_step 1 (k + s)) n g x ≡ in_lanes k (xor_inside n) g x
unfolding in_lanes
joined-lanes k n g x h =
    steps-lanes k n (λ s. half_step 1 (k + s)) (half_step 1) g x (λ s f q o l. half-lane 1 k s f q o l)
    ∙ steps-inside n (lane k g (x % 2 ^ k)) (x / 2 ^ k) (point-lt k n x h)

-- ---- moved

-- `w << k` moves by w within each lane
moved_by : (k n w : ℕ) → k ≤ 8 → n ≤ 8 → w < 2 ^ n → w * 2 ^ k % 2 ^ 64 ≡ w * 2 ^ k
moved_by k n w hk hn hw = shl_exact n k 64 hw (omega arith)

pub move-room : (k n w given lent : ℕ) → Fitting k n w given lent → (q : ℕ) → q < lent → bit_xor q (w * 2 ^ k % 2 ^ 64) < given
move-room k n w given lent f q h =
    let e : n + k ≡ k + n = omega arith in
    let l : w * 2 ^ k < 2 ^ (k + n) = rw e at (shl_lt n k f.polarity) in
    rw (f.given_long, moved_by k n w f.lows f.inputs f.polarity) (xor_lt (k + n) q (w * 2 ^ k) (omega (arith, f.lent_long)) l)

-- the bytes are a whole number of functions for steps from any input up to k on
pub steps-ready : (k n w given lent j len : ℕ) → Fitting k n w given lent → j ≤ k → len ≡ lent → (j ≤ 8) × (n ≤ 8) × (len % 2 ^ (j + n) ≡ 0)
steps-ready k n w given lent j len f h e =
    (omega (arith, f.lows), f.inputs, multiple-down (k + n) (j + n) len (omega arith) (rw (e ∙ f.lent_long) (mod_self (2 ^ (k + n)))))

-- ---- the bytes filled

pub coefficients-filled : (k n w : ℕ) (tables before moved after : List ℕ) → fits k n w (length tables) (length before) ≡ true
    → moved ≡ tabulate (length before) (λ q. at tables (bit_xor q (w * 2 ^ k % 2 ^ 64)))
    → after ≡ tabulate (length moved) (all_steps (λ s. half_step 1 (k + s)) n (at moved)) → after ≡ coefficient_bytes k n w tables before
unfolding coefficient_bytes coefficient in_lanes
coefficients-filled k n w tables before moved after e em ea =
    let f = fits-true k n w (length tables) (length before) e in
    let lm : length moved ≡ length before = ap length em ∙ length-tabulate (length before) _ in
    let each : (r o : ℕ) → r < 2 ^ n → o < 2 ^ k → at moved (r * 2 ^ k + o) ≡ at tables (bit_xor r w * 2 ^ k + o) =
    λ r o l m.
    ap (λ (b : List ℕ). at b (r * 2 ^ k + o)) em
    ∙ at-tabulate (length before) _ (r * 2 ^ k + o) (omega (arith, f.lent_long, place-lt k n r o l m))
    ∙ ap (at tables) (ap (bit_xor (r * 2 ^ k + o)) (moved_by k n w f.lows f.inputs f.polarity) ∙ xor_above k w r o m) in
    rw e (ea ∙ rw lm (tabulate-ext (length before) _ _ (λ x h.
    joined-lanes k n (at moved) x (omega (arith, f.lent_long)) ∙ inside-ext n _ _ (x / 2 ^ k) (λ r l. each r (x % 2 ^ k) l (mod-lt x (pow_pos k))))))

-- one function, joined in an array of 256 and then moved
pub values-filled : (n w : ℕ) (coefficients joined : List ℕ) → n ≤ 8 → w < 2 ^ n
    → joined ≡ tabulate (length (tabulate 256 (at coefficients))) (all_steps (λ s. half_step 1 (0 + s)) n (at (tabulate 256 (at coefficients))))
    → tabulate (2 ^ n) (λ q. at joined (bit_xor q w)) ≡ tabulate (2 ^ n) (value n (λ t. w) (at coefficients))
values-filled n w coefficients joined hn hw ej =
    tabulate-ext (2 ^ n) _ _ (λ p h.
    let x = bit_xor p w in
    let l : x < 2 ^ n = xor_lt n p w h hw in
    let size-le : 2 ^ n ≤ 256 = pow_mono hn in
    ap (λ (b : List ℕ). at b x) ej
    ∙ at-tabulate (length (tabulate 256 (at coefficients))) _ x (omega (arith, length-tabulate 256 (at coefficients)))
    ∙ joined-lanes 0 n (at (tabulate 256 (at coefficients))) x (rw (zero-add n) l) ∙ lanes-one (xor_inside n) (at (tabulate 256 (at coefficients))) x
    ∙ inside-ext n _ (at coefficients) x (λ q k. at-tabulate 256 (at coefficients) q (omega arith))
    ∙ sym (value-inside n w (at coefficients) p))

-- an array of 256 bytes is a whole number of tables of up to eight inputs
pub array_whole : (n : ℕ) → n ≤ 8 → 256 % 2 ^ (0 + n) ≡ 0
array_whole n h = rw (zero-add n) (multiple-down 8 n 256 h refl)

pub changed-filled : (k n v w : ℕ) (before after : List ℕ) → fits k n v (length before) (length before) ≡ true → w < 2 ^ n
    → after ≡ tabulate (length before) (all_steps (λ s. turned_where (bit s (bit_xor v w)) (k + s)) n (at before)) → after ≡ changed_bytes k n v w before
unfolding changed_bytes in_lanes
changed-filled k n v w before after e hw ea =
    let f = fits-true k n v (length before) (length before) e in
    let x = bit_xor v w in
    let turn : ℕ → (ℕ → ℕ) → ℕ → ℕ = λ s. turned_where (bit s x) s in
    let each : (c : ℕ → ℕ) (q : ℕ) → q < 2 ^ n → all_steps turn n c q ≡ coefficient n w (value n (λ t. v) c) q =
    λ c q h.
    steps-below (2 ^ n) turn n (λ s l. where_below (2 ^ n) (bit s x) s (multiple-down n (suc s) (2 ^ n) l (mod_self (2 ^ n))))
    c (coefficient n v (value n (λ t. v) c)) (λ t l. sym (coefficient-value n v c t l)) q h
    ∙ coefficient-changed n v x n (value n (λ t. v) c) q (omega arith)
    ∙ ap (λ (u : ℕ). coefficient n u (value n (λ t. v) c) q) (ap (bit_xor v) (mod-eq_of_lt (xor_lt n v w f.polarity hw)) ∙ xor-cancel-l v w) in
    rw (e, lt-ltb w (2 ^ n) hw) (ea ∙ tabulate-ext (length before) _ _ (λ y h.
    steps-lanes k n (λ s. turned_where (bit s x) (k + s)) turn (at before) y (λ s g q o l. where-lane (bit s x) k s g q o l)
    ∙ each (lane k (at before) (y % 2 ^ k)) (y / 2 ^ k) (point-lt k n y (omega (arith, f.lent_long)))))
