-- Tests: two that follow from one another are one (`same_test`), tests joined by `◌&&◌` and `◌||◌`, one test for all numbers below a bound
-- (`every-to`, `every-from`), and a number by a test.
use mathlib.Core.Path.{◌≡◌, refl, sym, subst, ◌∙◌}
use mathlib.Core.Bool.{Bool, true, false, ◌&&◌, ◌||◌, true≢false, false≢true}
use Prim.Native.Nat.{ℕ, zero, suc, ◌≤◌, ◌<◌}
use native.Mathlib.Decide.{ℕ_discrete}
use native.Mathlib.Nat.{not-suc-le-zero}
use native.Mathlib.Omega.{arith}
use lib.Bits.{bit_xor}
use lib.Dec.{eqb, ltb, T, eqb→eq, eqb_refl, lt→ltb, ltb→lt}
use Rattle.numbers.specs.Tests.{only, every}

-- ---- tests

-- two tests are one where each follows from the other
pub same_test : (a b : Bool) → (T a → T b) → (T b → T a) → a ≡ b
same_test true true f g = refl
same_test true false f g = absurd (f tt)
same_test false true f g = absurd (g tt)
same_test false false f g = refl

pub eqb_of : (a b : ℕ) → a ≡ b → T (eqb a b)
eqb_of a b e = subst (λ (x : ℕ). T (eqb a x)) e (eqb_refl a)

pub eqb_same : (a b c d : ℕ) → (a ≡ b → c ≡ d) → (c ≡ d → a ≡ b) → eqb a b ≡ eqb c d
eqb_same a b c d f g = same_test (eqb a b) (eqb c d) (λ t. eqb_of c d (f (eqb→eq a b t))) (λ t. eqb_of a b (g (eqb→eq c d t)))

pub and_intro : (a b : Bool) → T a → T b → T (a && b)
and_intro true b x y = y
and_intro false b x y = x

pub and_left : (a b : Bool) → T (a && b) → T a
and_left true b t = tt
and_left false b t = t

pub and_right : (a b : Bool) → T (a && b) → T b
and_right true b t = t
and_right false b t = absurd t

-- tests as equations: both pass where `◌&&◌` passes, and both fail where `◌||◌` fails

pub both_left : (s t : Bool) → (s && t) ≡ true → s ≡ true
both_left true t e = refl
both_left false t e = e

pub both_right : (s t : Bool) → (s && t) ≡ true → t ≡ true
both_right true t e = e
both_right false t e = absurd (false≢true e)

pub both_true : (s t : Bool) → s ≡ true → t ≡ true → (s && t) ≡ true
both_true s t p q = rw (p, q)

pub neither_left : (s t : Bool) → (s || t) ≡ false → s ≡ false
neither_left true t e = e
neither_left false t e = refl

pub neither_right : (s t : Bool) → (s || t) ≡ false → t ≡ false
neither_right true t e = absurd (true≢false e)
neither_right false t e = e

-- ---- `every`

pub every-to : (N : ℕ) (test : ℕ → Bool) → every N test ≡ true → (t : ℕ) → t < N → test t ≡ true
unfolding every
every-to zero test e t h = absurd (not-suc-le-zero h)
every-to (suc N) test e t h = go (ℕ_discrete t N) (every-to N test (both_left (every N test) (test N) e) t) where
  go : Dec (t ≡ N) → (t < N → test t ≡ true) → test t ≡ true
  go (yes z) ih = rw z (both_right (every N test) (test N) e)
  go (no z) ih = ih (omega arith)

pub every-from : (N : ℕ) (test : ℕ → Bool) → ((t : ℕ) → t < N → test t ≡ true) → every N test ≡ true
unfolding every
every-from zero test h = refl
every-from (suc N) test h = both_true (every N test) (test N) (every-from N test (λ t l. h t (omega arith))) (h N (omega arith))

-- one number that fails is enough
pub every-fails : (N : ℕ) (test : ℕ → Bool) (t : ℕ) → t < N → test t ≡ false → every N test ≡ false
every-fails N test t h e = go (every N test) refl where
  go : (b : Bool) → every N test ≡ b → b ≡ false
  go true a = sym (every-to N test a t h) ∙ e
  go false a = refl

-- ---- `only`

pub only-and : (a b : Bool) (c : ℕ) → only (a && b) c ≡ only a (only b c)
unfolding only
only-and true b c = refl
only-and false b c = refl

pub only-and-r : (a b : Bool) (c : ℕ) → only (a && b) c ≡ only b (only a c)
unfolding only
only-and-r true b c = refl
only-and-r false true c = refl
only-and-r false false c = refl

pub only_zero : (a : Bool) → only a 0 ≡ 0
unfolding only
only_zero true = refl
only_zero false = refl

pub only-xor : (a : Bool) (c d : ℕ) → only a (bit_xor c d) ≡ bit_xor (only a c) (only a d)
unfolding only
only-xor true c d = refl
only-xor false c d = refl

-- a map that keeps 0
pub only-map : (h : ℕ → ℕ) → h 0 ≡ 0 → (a : Bool) (c : ℕ) → h (only a c) ≡ only a (h c)
unfolding only
only-map h z true c = refl
only-map h z false c = z

pub only-closed : (P : ℕ → Type 0) → P 0 → (a : Bool) (c : ℕ) → P c → P (only a c)
unfolding only
only-closed P z true c p = p
only-closed P z false c p = z

-- ---- numbers below a bound, and 0 from it on

pub only_below : (j N x : ℕ) → j < N → only (ltb j N) x ≡ x
unfolding only
only_below j N x h = go (ltb j N) (lt→ltb j N h)
  where
    go : (b : Bool) → T b → only b x ≡ x
    go true t = refl
    go false t = absurd t

pub only_above : (j N x : ℕ) → N ≤ j → only (ltb j N) x ≡ 0
unfolding only
only_above j N x h = go (ltb j N) refl
  where
    go : (b : Bool) → ltb j N ≡ b → only b x ≡ 0
    go true e = absurd (omega (arith, ltb→lt j N (subst T (sym e) tt)))
    go false e = refl

-- only the values below N count
pub only-ext : (j N x y : ℕ) → (j < N → x ≡ y) → only (ltb j N) x ≡ only (ltb j N) y
unfolding only
only-ext j N x y e = go (ltb j N) refl
  where
    go : (b : Bool) → ltb j N ≡ b → only b x ≡ only b y
    go true t = e (ltb→lt j N (subst T (sym t) tt))
    go false t = refl
