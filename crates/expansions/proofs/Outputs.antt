-- W-206: fewer outputs are no dearer, at every kind of k and for both families (`fewer-outputs`). One law carries it: a map of outputs that keeps 0 and
-- passes through the exclusive OR, as keeping some bits of every coefficient, makes of a rival for a table one for the mapped table, with no new product
-- and no new literal (`rival-map`). Of two answers of the class it follows for what they state (`minimal-fewer`).
use mathlib.Core.List.{List}
use mathlib.Core.Path.{◌≡◌, refl, sym, ap, ◌∙◌}
use Prim.Native.Nat.{ℕ, zero, suc, ◌+◌, ◌/◌, ◌%◌, ◌^◌, ◌≤◌, ◌<◌}
use native.Mathlib.Decide.{dec_lt}
use native.Mathlib.Omega.{arith}
use lib.Bits.{bit_xor}
use lib.Count.{ones_in}
use lib.ListN.{get_or, get_or-map}
use Rattle.numbers.specs.Bytes.{at}
use Rattle.numbers.specs.Sums.{sum_below}
use Rattle.algebra.specs.Terms.{value}
use Rattle.algebra.proofs.Value.{value-map}
use Rattle.expansions.specs.declared.families.Family.{Family}
use Rattle.expansions.specs.declared.kinds.Kind.{Kind}
use Rattle.expansions.specs.declared.kinds.Kind.TheVariants.{Mixed}
use Rattle.expansions.specs.declared.kinds.Class.{Class}
use Rattle.expansions.specs.Classes.{most_mixed}
use Rattle.expansions.specs.Members.{Gives}
use Rattle.expansions.specs.Costs.{counted, products, literals}
use Rattle.expansions.specs.Rules.{NoDearer}
use Rattle.expansions.specs.Answers.{Minimal}
use Rattle.expansions.specs.Kronecker.Costs.{kronecker_literals}
use Rattle.expansions.specs.Rivals.{Rival, mixed, kronecker, LeastCost}
use Rattle.expansions.specs.Outputs.{IsChoice, chosen_count, chosen_outputs, chosen_table, RivalWithin, FewerOutputs}
use Rattle.expansions.proofs.Split.{gather-lt, gather-zero, ones-size}
use Rattle.expansions.proofs.Blocks.{gather-xor}
use Rattle.expansions.proofs.ClosedUp.{gather-closed-up}
use Rattle.expansions.proofs.Counted.{counted-fewer}
use Rattle.expansions.proofs.Costs.{sum_mono}
use Rattle.expansions.proofs.Rules.{no-dearer-fewer, no-dearer-trans}
use Rattle.expansions.proofs.Rivals.{minimal-least}
use Rattle.expansions.proofs.Kronecker.Values.{kronecker-value-map}

-- ---- any map of outputs that passes through the exclusive OR

module _ (h : ℕ → ℕ) (none : h 0 ≡ 0) (both : (a b : ℕ) → h (bit_xor a b) ≡ bit_xor (h a) (h b)) where
  sum-fewer : (N : ℕ) (c x : ℕ → ℕ) → sum_below N (λ t. counted (h (c t)) (x t)) ≤ sum_below N (λ t. counted (c t) (x t))
  sum-fewer N c x = sum_mono N _ _ (λ t l. counted-fewer h none (c t) (x t))

  products-fewer : (n : ℕ) (c : ℕ → ℕ) → products n (λ t. h (c t)) ≤ products n c
  unfolding products
  products-fewer n c = sum-fewer (2 ^ n) c _

  literals-fewer : (n : ℕ) (c : ℕ → ℕ) → literals n (λ t. h (c t)) ≤ literals n c
  unfolding literals
  literals-fewer n c = sum-fewer (2 ^ n) c _

  kronecker-literals-fewer : (n : ℕ) (letters c : ℕ → ℕ) → kronecker_literals n letters (λ t. h (c t)) ≤ kronecker_literals n letters c
  unfolding kronecker_literals
  kronecker-literals-fewer n letters c = sum-fewer (2 ^ n) c _

  -- the mask is mapped like the coefficients
  gives-map : (n v : ℕ) (w c f : ℕ → ℕ) → Gives n v w c f → Gives n (h v) w (λ t. h (c t)) (λ q. h (f q))
  gives-map n v w c f gives p l =
      ap (λ (y : ℕ). bit_xor y (h v)) (sym (value-map h none both n w c p)) ∙ sym (both (value n w c p) v) ∙ ap h (gives p l)

  pub rival-map : (n : ℕ) (f : ℕ → ℕ) (kind : Kind) (p l : ℕ) → Rival n f kind p l → RivalWithin n (λ q. h (f q)) kind p l
  rival-map n f _ _ _ (mixed C k v M i w c in_class gives) =
      record {
        products = products n (λ t. h (c t));
        literals = literals n (λ t. h (c t));
        rival = mixed C k (h v) M i w (λ t. h (c t)) in_class (gives-map n v w c f gives);
        products_within = products-fewer n c;
        literals_within = literals-fewer n c;
      }
  rival-map n f _ _ _ (kronecker letters c kind gives) =
      record {
        products = products n (λ t. h (c t));
        literals = kronecker_literals n letters (λ t. h (c t));
        rival = kronecker letters (λ t. h (c t)) kind (λ p l. sym (kronecker-value-map h none both n letters c p) ∙ ap h (gives p l));
        products_within = products-fewer n c;
        literals_within = kronecker-literals-fewer n letters c;
      }

  -- what no rival of the mapped table undercuts costs no more than the whole
  pub map-no-dearer : (n : ℕ) (F : Family) (kind : Kind) (f : ℕ → ℕ) (p l p' l' : ℕ)
      → LeastCost n F kind f p l → LeastCost n F kind (λ q. h (f q)) p' l' → NoDearer F p' l' p l
  map-no-dearer n F kind f p l p' l' whole mapped =
      let kept = rival-map n f kind p l whole.reached in
      no-dearer-trans F p' l' kept.products kept.literals p l
      (mapped.cheapest kept.products kept.literals kept.rival)
      (no-dearer-fewer F kept.products kept.literals p l kept.products_within kept.literals_within)

-- ---- the chosen outputs

chosen-some : (m s : ℕ) → 0 < s → s < 2 ^ m → 0 < chosen_count m s
unfolding ones_in
chosen-some zero s h l = absurd (omega arith)
chosen-some (suc m) s h l = go (dec_lt 0 (s / 2)) (chosen-some m (s / 2))
  where
    go : Dec (0 < s / 2) → (0 < s / 2 → s / 2 < 2 ^ m → 0 < ones_in m (s / 2)) → 0 < s % 2 + ones_in m (s / 2)
    go (yes k) ih = omega (arith, ih k (omega arith))
    go (no k) ih = omega arith

pub chosen_at : (m s : ℕ) (t : List ℕ) (p : ℕ) → at (chosen_table m s t) p ≡ chosen_outputs m s (at t p)
unfolding chosen_table
chosen_at m s t p = sym (ap (get_or (chosen_table m s t) p) (gather-zero m s)) ∙ get_or-map (chosen_outputs m s) t p 0

pub fewer-outputs : (n m : ℕ) (F : Family) (kind : Kind) (f : ℕ → ℕ) (s : ℕ) → IsChoice m s → FewerOutputs n m F kind f s
fewer-outputs n m F kind f s choice =
    record {
      some = chosen-some m s choice.0 choice.1;
      few = ones-size m (chosen_count m s) s refl;
      outputs = λ p. gather-lt m s (f p);
      closed_up = λ p. gather-closed-up m s (f p);
      kept = rival-map (chosen_outputs m s) (gather-zero m s) (gather-xor m s) n f kind;
      no_dearer = map-no-dearer (chosen_outputs m s) (gather-zero m s) (gather-xor m s) n F kind f;
    }

-- what the minimising call states of a table and of chosen outputs of it
pub minimal-fewer : (C : Class) (F : Family) (n m k : ℕ) (f : ℕ → ℕ) (s : ℕ) → k ≤ most_mixed C → IsChoice m s
    → (v M i : ℕ) (x c : ℕ → ℕ) (p l : ℕ) → Minimal C F n k f v M i x c p l
    → (v' M' i' : ℕ) (x' c' : ℕ → ℕ) (p' l' : ℕ) → Minimal C F n k (λ q. chosen_outputs m s (f q)) v' M' i' x' c' p' l' → NoDearer F p' l' p l
minimal-fewer C F n m k f s few choice v M i x c p l whole v' M' i' x' c' p' l' chosen =
    (fewer-outputs n m F (Mixed C k) f s choice).no_dearer p l p' l' (minimal-least C F n k f few v M i x c p l whole)
    (minimal-least C F n k _ few v' M' i' x' c' p' l' chosen)
