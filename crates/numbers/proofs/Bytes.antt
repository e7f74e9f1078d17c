-- A list is the table of a function where its length and its elements say so (`is-table`), and a loop that fills a list from the front, place by place
-- (`filled_more`) or run by run (`filled-run`).
use mathlib.Core.Path.{◌≡◌, refl, sym, ap, ◌∙◌}
use mathlib.Core.List.{List}
use Prim.Native.Nat.{ℕ, zero, suc, ◌+◌, ◌≤◌, ◌<◌}
use native.Mathlib.Nat.{le_of_suc-le-suc, not-suc-le-zero, add-zero}
use native.Mathlib.Numerals.{add-one}
use native.Mathlib.Decide.{ℕ_discrete}
use native.Mathlib.Omega.{arith}
use lib.ListN.{length, set, length-set}
use lib.Seq.{sets, ext_get_or, get_or-set_same, get_or-set_other}
use Rattle.numbers.specs.Bytes.{at, tabulate}

-- ---- tabulate

pub length-tabulate : (N : ℕ) (g : ℕ → ℕ) → length (tabulate N g) ≡ N
unfolding tabulate
length-tabulate zero g = refl
length-tabulate (suc N) g = ap suc (length-tabulate N (λ i. g (suc i)))

pub at-tabulate : (N : ℕ) (g : ℕ → ℕ) (t : ℕ) → t < N → at (tabulate N g) t ≡ g t
unfolding tabulate
at-tabulate zero g t h = absurd (not-suc-le-zero h)
at-tabulate (suc N) g zero h = refl
at-tabulate (suc N) g (suc t) h = at-tabulate N (λ i. g (suc i)) t (le_of_suc-le-suc h)

pub is-table : (N : ℕ) (g : ℕ → ℕ) (b : List ℕ) → length b ≡ N → ((t : ℕ) → t < N → at b t ≡ g t) → b ≡ tabulate N g
is-table N g b l e =
    ext_get_or 0 b (tabulate N g) (l ∙ sym (length-tabulate N g))
    (λ t h. let k : t < N = omega (arith, l) in e t k ∙ sym (at-tabulate N g t k))

pub tabulate-ext : (N : ℕ) (g h : ℕ → ℕ) → ((t : ℕ) → t < N → g t ≡ h t) → tabulate N g ≡ tabulate N h
tabulate-ext N g h e = is-table N h (tabulate N g) (length-tabulate N g) (λ t l. at-tabulate N g t l ∙ e t l)

-- ---- runs of stores

run-next : (q N : ℕ) → q + suc N ≡ suc q + N
run-next q N = omega arith

-- one store more, at the end of the run
pub sets-tabulate : (l : List ℕ) (q N : ℕ) (g : ℕ → ℕ) → set (sets l q (tabulate N g)) (q + N) (g N) ≡ sets l q (tabulate (suc N) g)
unfolding tabulate
sets-tabulate l q zero g = rw (add-zero q) refl
sets-tabulate l q (suc N) g = rw (run-next q N) (sets-tabulate (set l q (g 0)) (suc q) N (λ i. g (suc i)))

-- ---- a list that is filled from the front

-- `after` is `before` with the first q places filled by g
pub record Filled (g : ℕ → ℕ) (q : ℕ) (before after : List ℕ) : Type 0 where
  pub long : length after ≡ length before
  pub done : (t : ℕ) → t < q → at after t ≡ g t
  pub kept : (t : ℕ) → q ≤ t → at after t ≡ at before t

pub filled_none : (g : ℕ → ℕ) (before : List ℕ) → Filled g 0 before before
filled_none g before = record { long = refl; done = λ t h. absurd (not-suc-le-zero h); kept = λ t h. refl }

pub filled_more : (g : ℕ → ℕ) (q : ℕ) (before after : List ℕ) (v : ℕ) → q < length after → v ≡ g q → Filled g q before after → Filled g (q + 1) before (set after q v)
filled_more g q before after v h e f =
    record {
      long = length-set after q v ∙ f.long;
      done = λ t l. go t l (ℕ_discrete t q);
      kept = λ t l. get_or-set_other after q t v 0 (omega arith) ∙ f.kept t (omega arith);
    }
  where
    go : (t : ℕ) → t < q + 1 → Dec (t ≡ q) → at (set after q v) t ≡ g t
    go t l (yes e') = rw e' (get_or-set_same after q v 0 h ∙ e)
    go t l (no n) = get_or-set_other after q t v 0 n ∙ f.done t (omega arith)

-- a run of places more
pub filled-run : (g h : ℕ → ℕ) (N q : ℕ) (before after : List ℕ) → q + N ≤ length after → ((o : ℕ) → o < N → h o ≡ g (q + o)) → Filled g q before after
    → Filled g (q + N) before (sets after q (tabulate N h))
unfolding tabulate
filled-run g h zero q before after l e f = rw (add-zero q) f
filled-run g h (suc N) q before after l e f =
    let one : Filled g (suc q) before (set after q (h 0)) = rw (add-one q) at (filled_more g q before after (h 0) (omega arith) (e 0 (omega arith) ∙ ap g (add-zero q)) f) in
    rw (run-next q N)
    (filled-run g (λ o. h (suc o)) N (suc q) before (set after q (h 0)) (omega (arith, length-set after q (h 0))) (λ o k. e (suc o) (omega arith) ∙ ap g (run-next q o)) one)

pub filled-all : (g : ℕ → ℕ) (q : ℕ) (before after : List ℕ) → length after ≤ q → Filled g q before after → after ≡ tabulate (length before) g
filled-all g q before after h f = is-table (length before) g after f.long (λ t l. f.done t (omega (arith, f.long)))
