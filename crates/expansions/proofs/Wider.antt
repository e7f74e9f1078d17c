-- W-207: one more mixed input in the free class is never dearer (`wider-no-dearer`, `wider`), and there is a least cost (`free-least`). A rival stays one when
-- an input goes into M, every term with the polarity that it had (`rival-wider`): what agrees outside M agrees outside a set with one input more (`one_more`).
use mathlib.Core.Path.{◌≡◌, refl, sym, ap, ◌∙◌}
use Prim.Native.Nat.{ℕ, zero, suc, ◌+◌, ◌-◌, ◌*◌, ◌/◌, ◌%◌, ◌^◌, ◌≤◌, ◌<◌}
use native.Mathlib.Omega.{arith}
use lib.Count.{ones_in}
use lib.Pow.{pow_pos}
use Rattle.numbers.proofs.Xor.{low-lt}
use Rattle.expansions.specs.Split.{put_digit, gather, outside, join}
use Rattle.expansions.specs.declared.families.Family.{Family}
use Rattle.expansions.specs.declared.kinds.Kind.TheVariants.{Mixed}
use Rattle.expansions.specs.declared.kinds.Class.TheVariants.{Free}
use Rattle.expansions.specs.Members.{block, InClass}
use Rattle.expansions.specs.Rules.{NoDearer}
use Rattle.expansions.specs.Rivals.{Rival, mixed, LeastCost, HasLeast}
use Rattle.expansions.specs.Wider.{WiderNoDearer}
use Rattle.expansions.proofs.Answers.{answer-minimal}
use Rattle.expansions.proofs.Rivals.{minimal-least}
use Rattle.expansions.proofs.Split.{outside-half, outside_low, gather-lt, join-lt, gather-join, gather-outside-join}

-- ---- one input more

-- M' has one input more than M: what agrees outside M agrees outside M'
record OneMore (n M M' : ℕ) : Type 0 where
  pub mask : M' < 2 ^ n
  pub size : ones_in n M' ≡ suc (ones_in n M)
  pub outer : (x y : ℕ) → block n M x ≡ block n M y → block n M' x ≡ block n M' y

block-step : (n M x : ℕ) → block (suc n) M x ≡ put_digit (1 - M % 2) (block n (M / 2) (x / 2)) (x % 2)
unfolding gather
block-step n M x = rw (outside-half, outside_low)

-- where the lowest input is outside M the rests agree
rest_out : (m a b x y : ℕ) → m ≡ 0 → put_digit (1 - m) a x ≡ put_digit (1 - m) b y → x < 2 → y < 2 → a ≡ b
unfolding put_digit
rest_out m a b x y e h lx ly = let d : put_digit 1 a x ≡ put_digit 1 b y = rw e at h in omega arith

-- and where it is in M
rest_in : (m a b x y : ℕ) → m ≡ 1 → put_digit (1 - m) a x ≡ put_digit (1 - m) b y → a ≡ b
unfolding put_digit
rest_in m a b x y e h = rw e at h

-- where it is in M nothing else counts
from-rest : (m a b x y : ℕ) → m ≡ 1 → a ≡ b → put_digit (1 - m) a x ≡ put_digit (1 - m) b y
unfolding put_digit
from-rest m a b x y e h = rw e h

module _ (n M : ℕ) (h : M < 2 ^ suc n) where
  -- the lowest input is outside M: take it in
  take-lowest : M % 2 ≡ 0 → OneMore (suc n) M (M + 1)
  unfolding ones_in
  take-lowest e =
      record {
        mask = omega arith;
        size = rw (low, half, e) (omega arith);
        outer =
            λ x y d.
            let d' = sym (block-step n M x) ∙ d ∙ block-step n M y in
            block-step n (M + 1) x
            ∙ from-rest ((M + 1) % 2) _ _ (x % 2) (y % 2) low (rw half (rest_out (M % 2) _ _ (x % 2) (y % 2) e d' (low-lt x) (low-lt y)))
            ∙ sym (block-step n (M + 1) y);
      }
    where
      low : (M + 1) % 2 ≡ 1
      low = omega arith

      half : (M + 1) / 2 ≡ M / 2
      half = omega arith

  -- it is in M: take in another
  take-other : M % 2 ≡ 1 → (M' : ℕ) → OneMore n (M / 2) M' → OneMore (suc n) M (M' * 2 + 1)
  unfolding ones_in
  take-other e M' more =
      record {
        mask = omega (arith, more.mask);
        size = rw (low, half, e) (omega (arith, more.size));
        outer =
            λ x y d.
            let d' = sym (block-step n M x) ∙ d ∙ block-step n M y in
            block-step n (M' * 2 + 1) x
            ∙ from-rest ((M' * 2 + 1) % 2) _ _ (x % 2) (y % 2) low (rw half (more.outer (x / 2) (y / 2) (rest_in (M % 2) _ _ (x % 2) (y % 2) e d')))
            ∙ sym (block-step n (M' * 2 + 1) y);
      }
    where
      low : (M' * 2 + 1) % 2 ≡ 1
      low = omega arith

      half : (M' * 2 + 1) / 2 ≡ M'
      half = omega arith

  take : (m : ℕ) → M % 2 ≡ m → m < 2 → (ones_in n (M / 2) < n → (M' : ℕ) × OneMore n (M / 2) M') → ones_in (suc n) M < suc n
      → (M' : ℕ) × OneMore (suc n) M M'
  unfolding ones_in
  take zero e hm ih l = (M + 1, take-lowest e)
  take (suc zero) e hm ih l = let more = ih (omega arith) in (more.0 * 2 + 1, take-other e more.0 more.1)
  take (suc (suc m)) e hm ih l = absurd (omega arith)

one_more : (n M : ℕ) → M < 2 ^ n → ones_in n M < n → (M' : ℕ) × OneMore n M M'
one_more zero M h l = absurd (omega arith)
one_more (suc n) M h l = take n M h (M % 2) refl (low-lt M) (one_more n (M / 2) (omega arith)) l

-- ---- the same expansion with one more mixed input

-- i loses the bit of that input
class-wider : (n k M i M' : ℕ) (w : ℕ → ℕ) → InClass Free n k M i w → OneMore n M M' → InClass Free n (suc k) M' (join n M' (block n M' i) 0) w
class-wider n k M i M' w in_class more =
    record {
      pair =
          record {
            mask = more.mask;
            size = more.size ∙ ap suc in_class.pair.size;
            fixed = join-lt n M' (block n M' i) 0;
            clear = gather-join n M' (block n M' i) 0 (pow_pos (ones_in n M'));
          };
      within = in_class.within;
      outer = λ t h. more.outer (w t) i (in_class.outer t h) ∙ sym (gather-outside-join n M' (block n M' i) 0 (gather-lt n (outside n M') i));
      shared = tt;
    }

pub rival-wider : (n k : ℕ) (f : ℕ → ℕ) (p l : ℕ) → suc k ≤ n → Rival n f (Mixed Free k) p l → Rival n f (Mixed Free (suc k)) p l
rival-wider n k f _ _ h (mixed _ _ v M i w c in_class gives) =
    let more = one_more n M in_class.pair.mask (omega (arith, in_class.pair.size)) in
    mixed Free (suc k) v more.0 (join n more.0 (block n more.0 i) 0) w c (class-wider n k M i more.0 w in_class more.1) gives

pub wider-no-dearer : (n k : ℕ) (F : Family) (f : ℕ → ℕ) → suc k ≤ n → (p l p' l' : ℕ)
    → LeastCost n F (Mixed Free k) f p l → LeastCost n F (Mixed Free (suc k)) f p' l' → NoDearer F p' l' p l
wider-no-dearer n k F f h p l p' l' a b = b.cheapest p l (rival-wider n k f p l h a.reached)

pub free-least : (n k : ℕ) (F : Family) (f : ℕ → ℕ) → n ≤ 8 → ((p : ℕ) → p < 2 ^ n → f p < 2 ^ 8) → k ≤ 2 → k ≤ n → HasLeast n F (Mixed Free k) f
free-least n k F f hn bytes few hk = (_, _, minimal-least Free F n k f few _ _ _ _ _ _ _ (answer-minimal Free F n k f hn hk bytes))

pub wider : (n : ℕ) (F : Family) (f : ℕ → ℕ) → WiderNoDearer n F f
wider n F f =
    record { least = λ hn bytes k few hk. free-least n k F f hn bytes few hk; f2 = wider-no-dearer n 1 F f; f1 = wider-no-dearer n 0 F f }
