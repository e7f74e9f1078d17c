-- Lists as tables of functions: the table of a function that is 0 past its end is that function (`at-whole`), a list of zeros is the table
-- of 0 (`tabulate-zero`), and a list whose entries pass a test that the checker computes is the table (`matches-tabulate`).
use mathlib.Core.Path.{◌≡◌, refl, sym, ap, ◌∙◌, fun_ext}
use mathlib.Core.Bool.{Bool, true, ◌&&◌}
use mathlib.Core.List.{List, [], ◌∷◌}
use Prim.Native.Nat.{ℕ, zero, suc, ◌+◌, ◌-◌, ◌≤◌, ◌<◌}
use native.Mathlib.Nat.{add-zero, zero-add, add-suc, suc-add, le_of_suc-le-suc, not-suc-le-zero}
use native.Mathlib.Decide.{dec_lt}
use native.Mathlib.Omega.{arith}
use lib.Dec.{T, eqb, eqb→eq}
use lib.ListN.{length, get_or, drop, replicate, length-replicate, get_or-replicate, replicate-append-replicate, get_or-eq_default}
use lib.Seq.{drop_at}
use Rattle.numbers.specs.Bytes.{at, tabulate}
use Rattle.numbers.proofs.Bytes.{length-tabulate, at-tabulate, is-table}
use Rattle.numbers.proofs.Tests.{and_left, and_right}

-- ---- all places

pub at-whole : (N : ℕ) (g : ℕ → ℕ) → ((t : ℕ) → N ≤ t → g t ≡ 0) → at (tabulate N g) ≡ g
at-whole N g zeros = fun_ext (λ t. go t (dec_lt t N))
  where
    go : (t : ℕ) → Dec (t < N) → at (tabulate N g) t ≡ g t
    go t (yes h) = at-tabulate N g t h
    go t (no h) = get_or-eq_default (tabulate N g) 0 (omega (arith, length-tabulate N g)) ∙ sym (zeros t (omega arith))

-- ---- zeros

pub tabulate-zero : (N : ℕ) → tabulate N (λ t. 0) ≡ replicate {A = ℕ} N 0
unfolding tabulate
tabulate-zero zero = refl
tabulate-zero (suc N) = ap (λ (l : List ℕ). 0 ∷ l) (tabulate-zero N)

pub get_d-zeros : (k p : ℕ) → get_or {A = ℕ} (replicate k 0) p 0 ≡ 0
get_d-zeros k p = go (dec_lt p k)
  where
    go : Dec (p < k) → get_or {A = ℕ} (replicate k 0) p 0 ≡ 0
    go (yes h) = get_or-replicate k p 0 0 h
    go (no h) = get_or-eq_default (replicate {A = ℕ} k 0) 0 (omega (arith, length-replicate {A = ℕ} k 0))

pub drop-zeros : (k n : ℕ) → k ≤ n → drop k (replicate {A = ℕ} n 0) ≡ replicate (n - k) 0
drop-zeros k n h =
    let whole : k + (n - k) ≡ n = omega arith in
    let parted = replicate-append-replicate {A = ℕ} k (n - k) 0 ∙ ap (λ (x : ℕ). replicate {A = ℕ} x 0) whole in
    ap (drop k) (sym parted) ∙ drop_at (replicate k 0) (replicate (n - k) 0) k (length-replicate {A = ℕ} k 0)

-- ---- a test of all entries

-- the entries of the list are g i, g (i + 1), ..
unfoldable pub matches : (ℕ → ℕ) → ℕ → List ℕ → Bool
matches g i [] = true
matches g i (x ∷ xs) = eqb x (g i) && matches g (suc i) xs

matches-at : (g : ℕ → ℕ) (xs : List ℕ) (i : ℕ) → T (matches g i xs) → (k : ℕ) → k < length xs → at xs k ≡ g (i + k)
unfolding matches
matches-at g [] i t k h = absurd (not-suc-le-zero h)
matches-at g (x ∷ xs) i t zero h = eqb→eq x (g i) (and_left (eqb x (g i)) (matches g (suc i) xs) t) ∙ ap g (sym (add-zero i))
matches-at g (x ∷ xs) i t (suc k) h =
    matches-at g xs (suc i) (and_right (eqb x (g i)) (matches g (suc i) xs) t) k (le_of_suc-le-suc h) ∙ ap g (suc-add i k ∙ sym (add-suc i k))

-- a list of N entries that pass is the table
pub matches-tabulate : (N : ℕ) (g : ℕ → ℕ) (xs : List ℕ) → length xs ≡ N → T (matches g 0 xs) → xs ≡ tabulate N g
matches-tabulate N g xs l t =
    is-table N g xs l (λ k h. let b : k < length xs = omega arith in matches-at g xs 0 t k b ∙ ap g (zero-add k))
