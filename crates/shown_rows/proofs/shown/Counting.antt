-- Counting the products and the literals of rows, term by term: a row with outputs is a product (`count-product`), any other is none (`count_none`).
use mathlib.Core.List.{List}
use mathlib.Core.Path.{◌≡◌, refl}
use Prim.Native.Nat.{ℕ, ◌+◌, ◌*◌, ◌≤◌}
use native.Mathlib.Numerals.{add-one}
use native.Mathlib.Omega.{arith}
use lib.Count.{ones}
use Rattle.numbers.specs.Sums.{fold_below, sum_below}
use Rattle.expansions.specs.Costs.{counted}
use Rattle.expansions.proofs.Counted.{counted_none, counted-some}
use Rattle.shown_rows.specs.Rows.{coefficient_in}

-- p products and l literals are those of the terms below t
pub record Counting (rows : List ℕ) (t p l : ℕ) : Type 0 where
  pub products : p ≡ sum_below t (λ u. counted (coefficient_in rows u) 1)
  pub literals : l ≡ sum_below t (λ u. counted (coefficient_in rows u) (ones u))
  pub few_products : p ≤ t
  pub few_literals : l ≤ t * 8

pub count-start : (rows : List ℕ) → Counting rows 0 0 0
unfolding fold_below
count-start rows = record { products = refl; literals = refl; few_products = omega arith; few_literals = omega arith }

module _ (rows : List ℕ) (t p l : ℕ) (before : Counting rows t p l) where
  pub count-product : (x : ℕ) → (coefficient_in rows t ≡ 0 → ⊥) → x ≡ ones t → ones t ≤ 8 → Counting rows (t + 1) (p + 1) (l + x)
  unfolding fold_below
  count-product x some e few =
      record {
        products = rw (add-one t) (omega (arith, before.products, counted-some (coefficient_in rows t) 1 some));
        literals = rw (add-one t) (omega (arith, before.literals, counted-some (coefficient_in rows t) (ones t) some));
        few_products = omega (arith, before.few_products);
        few_literals = omega (arith, before.few_literals);
      }

  pub count_none : coefficient_in rows t ≡ 0 → Counting rows (t + 1) p l
  unfolding fold_below
  count_none none =
      record {
        products = rw (add-one t) (omega (arith, before.products, counted_none (coefficient_in rows t) 1 none));
        literals = rw (add-one t) (omega (arith, before.literals, counted_none (coefficient_in rows t) (ones t) none));
        few_products = omega (arith, before.few_products);
        few_literals = omega (arith, before.few_literals);
      }
