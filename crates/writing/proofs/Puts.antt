-- Bytes written into a buffer. One write after another is one write of both (`put_then`), and a loop that writes the bytes of a list one
-- by one writes the list (`written_all`).
use mathlib.Core.List.{List, [], ◌∷◌, ◌++◌, append_assoc}
use mathlib.Core.Path.{◌≡◌, refl, ap, ◌∙◌}
use Prim.Native.Nat.{ℕ, suc, ◌+◌, ◌-◌, ◌≤◌, ◌<◌}
use native.Mathlib.Nat.{add-zero}
use native.Mathlib.Numerals.{add-one}
use native.Mathlib.Omega.{arith}
use lib.ListN.{length, get_or, take, drop, set, length-append, length-set}
use borrow.Rule.Slice.PartMut.{put_mid}
use lib.Seq.{drop-drop, sets, sets-eq, length-sets, take-suc, take_all, length-take-le}
use Rattle.writing.specs.Put.{Put}

-- ---- one write after another

pub sets-append : (v w o : List ℕ) (at : ℕ) → sets (sets o at v) (at + length v) w ≡ sets o at (v ++ w)
sets-append [] w o at = rw add-zero
sets-append (x ∷ v) w o at =
    let e : at + suc (length v) ≡ suc at + length v = omega arith in
    rw e (sets-append v w (set o at x) (suc at))

pub put-none : (o : List ℕ) (at : ℕ) → Put o at [] o at
put-none o at = record { to = omega arith; holds = refl }

pub put_then : {o p q v w : List ℕ} {at b c : ℕ} → Put o at v p b → Put p b w q c → Put o at (v ++ w) q c
put_then {o} {p} {q} {v} {w} {at} {b} {c} i j =
    record {
      to = omega (arith, i.to, j.to, length-append v w);
      holds = j.holds ∙ rw (i.holds, i.to) (sets-append v w o at);
    }

pub put-length : {o p v : List ℕ} {at b : ℕ} → Put o at v p b → length p ≡ length o
put-length {o} {p} {v} {at} {b} i = ap length i.holds ∙ length-sets o at v

-- a write at the front: the bytes, and what stood past them
pub put_front : {o p v : List ℕ} {b : ℕ} → length v ≤ length o → Put o 0 v p b → p ≡ v ++ drop (length v) o
put_front {o} {p} {v} {b} h i =
    let e : 0 + length v ≡ length v = omega arith in
    i.holds ∙ sets-eq v o 0 (omega arith) ∙ rw e

-- a part of the buffer that is replaced, as by `copy_from_slice`
pub put_part : {p : List ℕ} (o : List ℕ) (at : ℕ) (v : List ℕ) → at + length v ≤ length o → p ≡ v
    → Put o at v (put_mid at (at + length v - at) o p) (at + length v)
put_part {p} o at v h e =
    let k : at + length v - at ≡ length v = omega arith in
    record {
      to = refl;
      holds = rw (k, e, drop-drop (length v) at o, sets-eq v o at h, append_assoc);
    }

-- ---- byte by byte

-- `after` is `before` with the first k bytes of v written from `at` on
pub record Written (v : List ℕ) (at : ℕ) (before after : List ℕ) (k : ℕ) : Type 0 where
  pub within : k ≤ length v
  pub long : length after ≡ length before
  pub holds : after ≡ sets before at (take k v)

pub written_none : (v : List ℕ) (at : ℕ) (o : List ℕ) → Written v at o o 0
written_none v at o = record { within = omega arith; long = refl; holds = refl }

pub written-more : {v : List ℕ} {at : ℕ} {o p : List ℕ} {k b : ℕ} → k < length v → b ≡ get_or v k 0 → Written v at o p k
    → Written v at o (set p (at + k) b) (k + 1)
written-more {v} {at} {o} {p} {k} {b} h e i =
    record {
      within = omega arith;
      long = length-set p (at + k) b ∙ i.long;
      holds =
          rw (i.holds, e, add-one, take-suc v k 0 h)
          (rw (length-take-le k v (omega arith)) at (sets-append (take k v) (get_or v k 0 ∷ []) o at));
    }

pub written_all : {v : List ℕ} {at : ℕ} {o p : List ℕ} {k : ℕ} → length v ≤ k → Written v at o p k → Put o at v p (at + k)
written_all {v} {at} {o} {p} {k} h i = record { to = omega (arith, i.within); holds = i.holds ∙ rw (take_all k v h) }
