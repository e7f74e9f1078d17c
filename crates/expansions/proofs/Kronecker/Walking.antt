-- The walk's places: how the letter of one more input leads from one to three (`place-next`), which kinds each has (`among-parts`), and that
-- the lowest score of a place's kinds is that of the three that follow it (`walked-three`).
use mathlib.Core.Path.{◌≡◌, refl, sym, ap, ap₂, ◌∙◌}
use mathlib.Core.Logic.{◌⊎◌, inl, inr}
use mathlib.Core.List.{List}
use Prim.Native.Nat.{ℕ, zero, suc, ◌+◌, ◌-◌, ◌*◌, ◌/◌, ◌%◌, ◌^◌, ◌≤◌, ◌<◌}
use native.Mathlib.Nat.{mul_comm, pow-suc, mod-lt, div-lt_iff_lt-mul, div-add-mod', pow-le-pow_right, mul-mod_left}
use native.Mathlib.Numerals.{add-one}
use native.Mathlib.Omega.{arith}
use lib.Arith.{digits_lt, digits_mod, mod-mul, lt-one}
use lib.Dec.{lit<}
use lib.ListN.{length, get_or-eq_default}
use lib.Pow.{pow_mono, pow-add}
use Rattle.numbers.specs.Bytes.{at, tabulate}
use Rattle.numbers.specs.Sums.{fold_below}
use Rattle.numbers.proofs.Bits.{bit_below}
use Rattle.numbers.proofs.Sums.{fold-ext}
use Rattle.numbers.proofs.Tables.{at-whole}
use Rattle.expansions.specs.declared.families.Family.TheVariants.{One}
use Rattle.expansions.specs.Rules.{weight, rule_of}
use Rattle.expansions.specs.Kronecker.Letters.{literal_of, literal_count, letters_of}
use Rattle.expansions.specs.Kronecker.Steps.{kronecker_step, kronecker_coefficient}
use Rattle.expansions.specs.Kronecker.Costs.{term_literals}
use Rattle.expansions.specs.Inner.KroneckerWalk.{Stepped, Light, Weighed, Among, Lowered, AtPlace}
use Rattle.numbers.proofs.Shifts.{one_shifted}
use Rattle.expansions.proofs.Kronecker.Lowering.{lowered-three}
use Rattle.expansions.proofs.Kronecker.Halves.{bit-top, below-halves}
use Rattle.expansions.proofs.Kronecker.Letters.{three-pos, digit_low, digit-top}
use Rattle.expansions.proofs.Kronecker.Steps.{kronecker-coefficient-letters, kronecker-step-ext, kronecker-step-shannon}
use Rattle.expansions.proofs.Kronecker.Costs.{term-literals-le, term-literals-ext}

-- ---- literals of one more input

pub literals-top : (i : ℕ) (letters : ℕ → ℕ) (d s : ℕ) → d < 2 → s < 2 ^ i
    → term_literals (suc i) letters (d * 2 ^ i + s) ≡ term_literals i letters s + literal_count (literal_of (letters i) d)
unfolding term_literals fold_below
literals-top i letters d s hd hs =
    ap₂ ◌+◌ (fold-ext ◌+◌ i _ _ (λ j l. ap (λ (x : ℕ). literal_count (literal_of (letters j) x)) (bit_below j i d s l)))
    (ap (λ (x : ℕ). literal_count (literal_of (letters i) x)) (bit-top i d s hd hs))

-- what the step's letter adds to a term without the input, and to one with it
pub count-present : (letter : ℕ) → literal_count (literal_of letter 1) ≡ 1
unfolding literal_count literal_of
count-present zero = refl
count-present (suc zero) = refl
count-present (suc (suc letter)) = refl

pub count-absent : (letter : ℕ) → literal_count (literal_of (suc letter) 0) ≡ 0
unfolding literal_count literal_of
count-absent zero = refl
count-absent (suc letter) = refl

pub count-shannon : literal_count (literal_of 0 0) ≡ 1
unfolding literal_count literal_of
count-shannon = refl

pub add-weight : (x y : ℕ) → weight (rule_of One) (x + y) ≡ weight (rule_of One) x + y
unfolding weight
add-weight x y = omega arith

-- ---- places of the walk

-- their numbers are small
small : (i k power : ℕ) → i < 8 → k < 3 ^ i → power ≡ 3 ^ i → k + power + power < 8192
small i k power h l e =
    let three : 3 ^ suc i ≡ 3 ^ i * 3 = pow-suc 3 i in
    let most : 3 ^ suc i ≤ 3 ^ 8 = pow-le-pow_right (lit< tt) h in
    omega arith

pub place-light : (n i k power : ℕ) (f values weights : ℕ → ℕ) → AtPlace n i k power f values weights → Light (2 ^ i) weights
unfolding weight
place-light n i k power f values weights a s l =
    omega (arith, a.weighed s l, term-literals-le i (letters_of k) s, a.depth, a.inputs)

module _ (n i k power letter k' : ℕ) (f values weights values' weights' : ℕ → ℕ) (a : AtPlace n i k power f values weights) (more : i + 1 < n)
    (hl : letter < 3) (ek : k' ≡ letter * 3 ^ i + k) (stepped : (t : ℕ) → t < 2 ^ n → values' t ≡ kronecker_step i letter values t)
    (w : Weighed i (literal_count (literal_of letter 0)) weights weights') where
  low : (j : ℕ) → j < i → letters_of k j ≡ letters_of k' j
  low j l = rw ek (sym (digit_low i j letter k l))

  top : letters_of k' i ≡ letter
  top = rw ek (digit-top i letter k hl a.kind)

  values-next : (t : ℕ) → t < 2 ^ n → values' t ≡ kronecker_coefficient (suc i) (letters_of k') f t
  unfolding kronecker_coefficient
  values-next t l =
      stepped t l ∙ kronecker-step-ext n i letter values (kronecker_coefficient i (letters_of k) f) (omega arith) a.stepped t l
      ∙ ap₂ (λ (x : ℕ) (g : ℕ → ℕ). kronecker_step i x g t) (sym top) (kronecker-coefficient-letters i (letters_of k) (letters_of k') f low)

  weights-next : (s : ℕ) → s < 2 ^ suc i → weights' s ≡ weight (rule_of One) (term_literals (suc i) (letters_of k') s)
  weights-next =
      below-halves i (λ s. weights' s ≡ weight (rule_of One) (term_literals (suc i) (letters_of k') s)) (λ d s hd hs. each d s hd hs ∙ sym (top-weight d s hd hs))
    where
      top-weight : (d s : ℕ) → d < 2 → s < 2 ^ i
          → weight (rule_of One) (term_literals (suc i) (letters_of k') (d * 2 ^ i + s)) ≡ weights s + literal_count (literal_of letter d)
      top-weight d s hd hs =
          ap (weight (rule_of One)) (literals-top i (letters_of k') d s hd hs)
          ∙ ap₂ (λ (x y : ℕ). weight (rule_of One) (x + literal_count (literal_of y d))) (sym (term-literals-ext i (letters_of k) (letters_of k') s low)) top
          ∙ add-weight (term_literals i (letters_of k) s) (literal_count (literal_of letter d))
          ∙ ap (λ (x : ℕ). x + literal_count (literal_of letter d)) (sym (a.weighed s hs))

      each : (d s : ℕ) → d < 2 → s < 2 ^ i → weights' (d * 2 ^ i + s) ≡ weights s + literal_count (literal_of letter d)
      each zero s hd hs = ap weights' (omega arith) ∙ w.absent s hs
      each (suc zero) s hd hs = ap weights' (omega arith) ∙ w.present s hs ∙ ap (λ (x : ℕ). weights s + x) (sym (count-present letter))
      each (suc (suc d)) s hd hs = absurd (omega arith)

  kind-next : k' < 3 ^ suc i
  kind-next = rw (ek, pow-suc 3 i, mul_comm (3 ^ i) 3) (digits_lt hl a.kind)

  digit-next : power * 3 ≡ 3 ^ suc i
  digit-next = ap (λ (x : ℕ). x * 3) a.digit ∙ sym (pow-suc 3 i)

  pub place-next : AtPlace n (i + 1) k' (power * 3) f values' weights'
  place-next =
      rw (add-one i)
      (record {
        inputs = a.inputs;
        depth = omega arith;
        kind = kind-next;
        digit = digit-next;
        room = small (suc i) k' (power * 3) (omega (arith, a.inputs)) kind-next digit-next;
        stepped = values-next;
        weighed = weights-next;
      })

-- ---- the kinds of a place

among-digit : (i x : ℕ) → x % 3 ^ (i + 1) ≡ x / 3 ^ i % 3 * 3 ^ i + x % 3 ^ i
among-digit i x = rw (add-one i, pow-suc 3 i, mul_comm (3 ^ i) 3) (mod-mul x (lit< tt) (three-pos i))

-- each kind of a place is of one of the three that follow it
pub among-parts : (n i k k1 k2 : ℕ) → k1 ≡ 1 * 3 ^ i + k → k2 ≡ 2 * 3 ^ i + k → (x : ℕ) → Among n i k x
    → Among n (i + 1) k x ⊎ (Among n (i + 1) k1 x ⊎ Among n (i + 1) k2 x)
among-parts n i k k1 k2 e1 e2 x a = go (x / 3 ^ i % 3) (mod-lt (x / 3 ^ i) (lit< tt)) (among-digit i x)
  where
    go : (d : ℕ) → d < 3 → x % 3 ^ (i + 1) ≡ d * 3 ^ i + x % 3 ^ i → Among n (i + 1) k x ⊎ (Among n (i + 1) k1 x ⊎ Among n (i + 1) k2 x)
    go zero h e = inl (a.0, omega (arith, e, a.1))
    go (suc zero) h e = inr (inl (a.0, omega (arith, e, a.1, e1)))
    go (suc (suc zero)) h e = inr (inr (a.0, omega (arith, e, a.1, e2)))
    go (suc (suc (suc d))) h e = absurd (omega arith)

pub among-back : (n i k letter k' : ℕ) → k < 3 ^ i → k' ≡ letter * 3 ^ i + k → (x : ℕ) → Among n (i + 1) k' x → Among n i k x
among-back n i k letter k' h e x a = (
  a.0,
  sym (digits_mod (x / 3 ^ i % 3) (mod-lt x (three-pos i))) ∙ ap (λ (y : ℕ). y % 3 ^ i) (sym (among-digit i x) ∙ a.1 ∙ e) ∙ digits_mod letter h,
)

-- at the last input each of the three has one kind
pub among-last : (m k k1 k2 : ℕ) → k1 ≡ 1 * 3 ^ m + k → k2 ≡ 2 * 3 ^ m + k → (x : ℕ) → Among (suc m) m k x → (x ≡ k) ⊎ ((x ≡ k1) ⊎ (x ≡ k2))
among-last m k k1 k2 e1 e2 x a =
    go (x / 3 ^ m) ((div-lt_iff_lt-mul (three-pos m)).1 (rw (← mul_comm (3 ^ m) 3, ← pow-suc 3 m) a.0)) (div-add-mod' x (3 ^ m))
  where
    go : (d : ℕ) → d < 3 → d * 3 ^ m + x % 3 ^ m ≡ x → (x ≡ k) ⊎ ((x ≡ k1) ⊎ (x ≡ k2))
    go zero h e = inl (omega (arith, e, a.1))
    go (suc zero) h e = inr (inl (omega (arith, e, a.1, e1)))
    go (suc (suc zero)) h e = inr (inr (omega (arith, e, a.1, e2)))
    go (suc (suc (suc d))) h e = absurd (omega arith)

pub last-among : (m k letter k' : ℕ) → k < 3 ^ m → letter < 3 → k' ≡ letter * 3 ^ m + k → (x : ℕ) → x ≡ k' → Among (suc m) m k x
last-among m k letter k' h l e x e' =
    rw (e', e) (rw (pow-suc 3 m, mul_comm (3 ^ m) 3) (digits_lt l h), digits_mod letter h)

-- ---- the first place

-- the table, and 0 from its end on
pub padded-at : (table : List ℕ) → length table ≤ 256 → (t : ℕ) → at (tabulate 256 (at table)) t ≡ at table t
padded-at table h t = ap (λ (g : ℕ → ℕ). g t) (at-whole 256 (at table) (λ s l. get_or-eq_default table 0 (omega arith)))

pub place-start : (n : ℕ) (table values : List ℕ) (weights : ℕ → ℕ) → 1 ≤ n → n ≤ 8 → length table ≡ 2 ^ n → values ≡ tabulate 256 (at table)
    → weights 0 ≡ 4096 → AtPlace n 0 0 1 (at table) (at values) weights
unfolding kronecker_coefficient term_literals fold_below weight
place-start n table values weights h l long e w =
    record {
      inputs = l;
      depth = h;
      kind = omega arith;
      digit = refl;
      room = omega arith;
      stepped = λ t k. ap (λ (v : List ℕ). at v t) e ∙ padded-at table (omega (arith, pow_mono l)) t;
      weighed = λ s k. ap weights (lt-one k) ∙ w;
    }

-- ---- the three places that follow a place, in the code's terms

module _ (n i k power : ℕ) (f values weights : ℕ → ℕ) (a : AtPlace n i k power f values weights) where
  pub step_fits : i + 1 < n → (i < 8) × (1 * 2 ^ n % 2 ^ 64 ≤ 256) × (1 * 2 ^ n % 2 ^ 64 % 2 ^ suc i ≡ 0)
  step_fits more =
      let e : 1 * 2 ^ n % 2 ^ 64 ≡ 2 ^ n = one_shifted n (omega (arith, a.inputs)) in
      let s : n ≡ n - suc i + suc i = omega arith in
      let w : 2 ^ n ≡ 2 ^ (n - suc i) * 2 ^ suc i = ap (λ (x : ℕ). 2 ^ x) s ∙ pow-add 2 (n - suc i) (suc i) in (
        omega (arith, a.inputs),
        omega (arith, e, pow_mono a.inputs),
        ap (λ (x : ℕ). x % 2 ^ suc i) (e ∙ w) ∙ mul-mod_left (2 ^ (n - suc i)) (2 ^ suc i),
      )

  pub place-shannon : (weights' : ℕ → ℕ) → i + 1 < n → Weighed i 1 weights weights' → AtPlace n (i + 1) k (power * 3) f values weights'
  place-shannon weights' more w =
      place-next n i k power 0 k f values weights values weights' a more (omega arith) (omega arith)
      (λ t l. sym (kronecker-step-shannon i values t)) (rw count-shannon w)

  place-davio : (letter k' : ℕ) (values' weights' : ℕ → ℕ) → i + 1 < n → letter < 2 → k' ≡ suc letter * 3 ^ i + k
      → Stepped i (suc letter) (1 * 2 ^ n % 2 ^ 64) values values' → Weighed i 0 weights weights' → AtPlace n (i + 1) k' (power * 3) f values' weights'
  place-davio letter k' values' weights' more hl ek s w =
      let e : 1 * 2 ^ n % 2 ^ 64 ≡ 2 ^ n = one_shifted n (omega (arith, a.inputs)) in
      place-next n i k power (suc letter) k' f values weights values' weights' a more (omega arith) ek
      (λ t l. s.done t (omega (arith, e))) (rw (count-absent letter) w)

  place-one : k + power ≡ 1 * 3 ^ i + k
  place-one = omega (arith, a.digit)

  place-two : k + power + power ≡ 2 * 3 ^ i + k
  place-two = omega (arith, a.digit)

  pub place-positive : (values' weights' : ℕ → ℕ) → i + 1 < n → Stepped i 1 (1 * 2 ^ n % 2 ^ 64) values values' → Weighed i 0 weights weights'
      → AtPlace n (i + 1) (k + power) (power * 3) f values' weights'
  place-positive values' weights' more s w = place-davio 0 (k + power) values' weights' more (omega arith) place-one s w

  pub place-negative : (values' weights' : ℕ → ℕ) → i + 1 < n → Stepped i 2 (1 * 2 ^ n % 2 ^ 64) values values' → Weighed i 0 weights weights'
      → AtPlace n (i + 1) (k + power + power) (power * 3) f values' weights'
  place-negative values' weights' more s w = place-davio 1 (k + power + power) values' weights' more (omega arith) place-two s w

  pub walked-three : (score : ℕ → ℕ) (best p q r : ℕ) → Lowered score (Among n (i + 1) k) best p → Lowered score (Among n (i + 1) (k + power)) p q
      → Lowered score (Among n (i + 1) (k + power + power)) q r → Lowered score (Among n i k) best r
  walked-three score best p q r x y z =
      lowered-three score _ _ _ _ best p q r x y z (among-parts n i k (k + power) (k + power + power) place-one place-two)
      (among-back n i k 0 k a.kind (omega arith)) (among-back n i k 1 (k + power) a.kind place-one)
      (among-back n i k 2 (k + power + power) a.kind place-two)
