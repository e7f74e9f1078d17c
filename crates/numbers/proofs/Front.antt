-- A list of N numbers that a loop fills from the front by g: before the first place (`front_none`), after one place more (`front_more`) or a run of k
-- places more (`front_run`), and once it is full (`front_all`).
use mathlib.Core.Path.{◌≡◌, ap, ◌∙◌}
use mathlib.Core.List.{List, ◌++◌}
use Prim.Native.Nat.{ℕ, ◌+◌, ◌-◌, ◌≤◌, ◌<◌}
use native.Mathlib.Nat.{not-suc-le-zero}
use native.Mathlib.Decide.{dec_lt}
use native.Mathlib.Omega.{arith}
use lib.ListN.{length, set, take, drop, get_or-append, length-set, length-append}
use lib.Seq.{get_or-set_same, get_or-set_other}
use borrow.Author.Count.{below_more}
use borrow.Rule.Slice.PartMut.{put_mid}
use Rattle.std.proofs.lemmas.List.{get_or-take, get_or-append_right, length-take-le, length-drop}
use Rattle.numbers.specs.Bytes.{at, tabulate}
use Rattle.numbers.proofs.Bytes.{length-tabulate, at-tabulate, is-table}

-- the first q of the N places are filled
pub record Front (g : ℕ → ℕ) (N q : ℕ) (xs : List ℕ) : Type 0 where
  pub long : length xs ≡ N
  pub done : (t : ℕ) → t < q → at xs t ≡ g t

pub front_none : (g : ℕ → ℕ) (N : ℕ) (xs : List ℕ) → length xs ≡ N → Front g N 0 xs
front_none g N xs h = record { long = h; done = λ t l. absurd (not-suc-le-zero l) }

pub front_more : (g : ℕ → ℕ) (N q : ℕ) (xs : List ℕ) (v : ℕ) → q < N → v ≡ g q → Front g N q xs → Front g N (q + 1) (set xs q v)
front_more g N q xs v h e f =
    record {
      long = length-set xs q v ∙ f.long;
      done =
          below_more (λ t. at (set xs q v) t ≡ g t) q (λ t l. get_or-set_other xs q t v 0 (omega arith) ∙ f.done t l)
          (get_or-set_same xs q v 0 (omega (arith, f.long)) ∙ e);
    }

-- the run is written over a part of the list
pub front_run : (g h : ℕ → ℕ) (N q k : ℕ) (xs ys : List ℕ) → q + k ≤ N → ys ≡ tabulate k h → ((o : ℕ) → o < k → h o ≡ g (q + o)) → Front g N q xs
    → Front g N (q + k) (put_mid q k xs ys)
front_run g h N q k xs ys room run same f =
    record {
      long = omega (arith, f.long, size, before, length-append (take q xs) (ys ++ drop k (drop q xs)), length-append ys (drop k (drop q xs)), length-drop k (drop q xs), length-drop q xs);
      done = λ t l. go t l (dec_lt t q);
    }
  where
    size : length ys ≡ k
    size = ap length run ∙ length-tabulate k h

    before : length (take q xs) ≡ q
    before = length-take-le q xs (omega (arith, f.long))

    go : (t : ℕ) → t < q + k → Dec (t < q) → at (put_mid q k xs ys) t ≡ g t
    go t l (yes b) = get_or-append (take q xs) _ 0 t (omega (arith, before)) ∙ get_or-take q xs t 0 b ∙ f.done t b
    go t l (no b) =
        let place : q + (t - q) ≡ t = omega arith in
        get_or-append_right (take q xs) _ q t 0 before (omega arith) ∙ get_or-append ys _ 0 (t - q) (omega (arith, size))
        ∙ ap (λ (zs : List ℕ). at zs (t - q)) run ∙ at-tabulate k h (t - q) (omega arith) ∙ same (t - q) (omega arith) ∙ ap g place

pub front_all : (g : ℕ → ℕ) (N q : ℕ) (xs : List ℕ) → N ≤ q → Front g N q xs → xs ≡ tabulate N g
front_all g N q xs h f = is-table N g xs f.long (λ t l. f.done t (omega arith))
