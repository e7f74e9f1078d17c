-- A half step as a map of functions: in each lane by itself (`half-lane`), of a function whose points are moved (`half-moved`), and by the
-- points below a bound alone (`half-below`); and the same of steps for several inputs, one after the other.
use mathlib.Core.Path.{◌≡◌, refl, sym, ap, ◌∙◌, fun_ext}
use mathlib.Core.Bool.{cond}
use Prim.Native.Nat.{ℕ, zero, suc, ◌+◌, ◌-◌, ◌*◌, ◌%◌, ◌^◌, ◌<◌}
use native.Mathlib.Numerals.{one-add}
use native.Mathlib.Omega.{arith}
use lib.Bits.{bit_xor}
use lib.Dec.{eqb}
use Rattle.numbers.specs.Bits.{bit}
use Rattle.numbers.proofs.Bits.{bit-zero}
use Rattle.numbers.proofs.Flips.{bit-above, flip-above, flip-lowest, bit-unmoved, flip-lt, xor-around}
use Rattle.algebra.specs.Transform.{lane}
use Rattle.algebra.specs.Inner.Steps.{half_step, turned_where, all_steps}

-- ---- in lanes

pub half-lane : (d low s : ℕ) (g : ℕ → ℕ) (q o : ℕ) → o < 2 ^ low → half_step d (low + s) g (q * 2 ^ low + o) ≡ half_step d s (lane low g o) q
unfolding half_step
half-lane d low s g q o h = rw (bit-above low s q o h, flip-above low s q o h)

-- the input s + 1 of 2 q + b is the input s of q
pub half_up : (d s : ℕ) (g : ℕ → ℕ) (q b : ℕ) → b < 2 → half_step d (suc s) g (q * 2 + b) ≡ half_step d s (lane 1 g b) q
half_up d s g q b h = ap (λ (x : ℕ). half_step d x g (q * 2 + b)) (sym (one-add s)) ∙ half-lane d 1 s g q b h

-- the lowest input of 2 q + b is b
pub half-lowest : (d : ℕ) (g : ℕ → ℕ) (q b : ℕ) → b < 2
    → half_step d 0 g (q * 2 + b) ≡ cond (eqb b d) (bit_xor (g (q * 2 + b)) (g (q * 2 + (1 - b)))) (g (q * 2 + b))
unfolding half_step
half-lowest d g q b h =
    let e : bit 0 (q * 2 + b) ≡ b = bit-zero (q * 2 + b) ∙ omega arith in
    rw (e, flip-lowest q b h)

pub where-lane : (d low s : ℕ) (g : ℕ → ℕ) (q o : ℕ) → o < 2 ^ low → turned_where d (low + s) g (q * 2 ^ low + o) ≡ turned_where d s (lane low g o) q
unfolding turned_where
where-lane zero low s g q o h = refl
where-lane (suc d) low s g q o h = half-lane 0 low s g q o h

-- ---- points moved

pub half-moved : (d s v : ℕ) (g : ℕ → ℕ) (t : ℕ) → bit s v ≡ 0 → half_step d s (λ q. g (bit_xor q v)) t ≡ half_step d s g (bit_xor t v)
unfolding half_step
half-moved d s v g t e = rw (bit-unmoved s t v e, xor-around t (2 ^ s) v)

-- ---- by the points below a bound

-- what h leaves below N follows from what stands below N
abbrev pub Below : ℕ → ((ℕ → ℕ) → ℕ → ℕ) → Type 0
Below N h = (f g : ℕ → ℕ) → ((x : ℕ) → x < N → f x ≡ g x) → (t : ℕ) → t < N → h f t ≡ h g t

pub half-below : (N d s : ℕ) → N % 2 ^ suc s ≡ 0 → Below N (half_step d s)
unfolding half_step
half-below N d s e f g k t h = rw (k t h, k (bit_xor t (2 ^ s)) (flip-lt N s t e h))

pub where_below : (N d s : ℕ) → N % 2 ^ suc s ≡ 0 → Below N (turned_where d s)
unfolding turned_where
where_below N zero s e f g k = k
where_below N (suc d) s e f g k = half-below N 0 s e f g k

-- ---- steps for several inputs

pub steps-lane : (low : ℕ) (all each : ℕ → (ℕ → ℕ) → ℕ → ℕ) (o : ℕ)
    → ((s : ℕ) (g : ℕ → ℕ) (q : ℕ) → all s g (q * 2 ^ low + o) ≡ each s (lane low g o) q)
    → (n : ℕ) (g : ℕ → ℕ) (q : ℕ) → all_steps all n g (q * 2 ^ low + o) ≡ all_steps each n (lane low g o) q
unfolding all_steps
steps-lane low all each o e zero g q = refl
steps-lane low all each o e (suc n) g q =
    e n (all_steps all n g) q ∙ ap (λ (f : ℕ → ℕ). each n f q) (fun_ext (λ x. steps-lane low all each o e n g x))

-- the lowest input's step first
pub steps_first : (step : ℕ → (ℕ → ℕ) → ℕ → ℕ) (n : ℕ) (g : ℕ → ℕ) → all_steps step (suc n) g ≡ all_steps (λ s. step (suc s)) n (step 0 g)
unfolding all_steps
steps_first step zero g = refl
steps_first step (suc n) g = ap (step (suc n)) (steps_first step n g)

pub steps-below : (N : ℕ) (step : ℕ → (ℕ → ℕ) → ℕ → ℕ) (n : ℕ) → ((s : ℕ) → s < n → Below N (step s)) → Below N (all_steps step n)
unfolding all_steps
steps-below N step zero b f g k = k
steps-below N step (suc n) b f g k = b n (omega arith) (all_steps step n f) (all_steps step n g) (steps-below N step n (λ s l. b s (omega arith)) f g k)
