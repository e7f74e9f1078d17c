-- What document 02's W-206 does not say. "The least cost of the chosen outputs .. is at most the whole's": of the costs as the family compares them, and not
-- of the literals alone (`literals-alone`) nor, for family two, of the products alone (`products-alone`); and of outputs of the same table
-- (`another-table`). Each is shown by a pair of least costs, which are rows of the table of marked designs.
use mathlib.Core.List.{List, [], ◌∷◌, Memᴰ}
use mathlib.Core.Path.{◌≡◌, sym, ap, subst, fun_ext, ◌∙◌}
use Prim.Native.Nat.{ℕ, ◌≤◌, ◌^◌}
use native.Mathlib.Omega.{arith}
use lib.Dec.{T, lit<, lit≤}
use Rattle.numbers.specs.Bytes.{at, all_below}
use Rattle.numbers.proofs.refusals.Outputs.{below_at}
use Rattle.expansions.specs.declared.families.Family.{Family}
use Rattle.expansions.specs.declared.families.Family.TheVariants.{One, Two}
use Rattle.expansions.specs.declared.kinds.Class.TheVariants.{Block}
use Rattle.expansions.specs.declared.kinds.Kind.{Kind}
use Rattle.expansions.specs.declared.kinds.Kind.TheVariants.{Mixed}
use Rattle.expansions.specs.Rules.{NoDearer}
use Rattle.expansions.specs.Costs.{products, literals}
use Rattle.expansions.specs.Inner.Answer.{answer_coefficient}
use Rattle.expansions.specs.Rivals.{LeastCost}
use Rattle.expansions.specs.Outputs.{IsChoice, chosen_outputs}
use Rattle.expansions.proofs.Answers.{answer-minimal}
use Rattle.expansions.proofs.Rivals.{minimal-least}
use Rattle.expansions.proofs.Outputs.{chosen_at}
use Rattle.designs.specs.Designs.{chosen_of, cost_of, computed, states, base_designs, marked_designs}
use Rattle.designs.specs.Designs.{dearer_table, none_or_two_table, two_of_three_table, families_table, shared_table}
use Rattle.designs.proofs.Designs.{designs-hold}

-- ---- least costs from rows

-- the numbers of a row that states what an answer costs
row-least : (F : Family) (n k : ℕ) (table : List ℕ) (p l : ℕ) → n ≤ 8 → k ≤ 3 → k ≤ n → T (all_below (2 ^ 8) table)
    → Memᴰ (states (cost_of Block F n k table) (p ∷ l ∷ [])) marked_designs → LeastCost n F (Mixed Block k) (at table) p l
unfolding computed
row-least F n k table p l hn few hk bytes m =
    let costs = designs-hold (states (cost_of Block F n k table) (p ∷ l ∷ [])) m in
    let products-are : products n (answer_coefficient Block F n k (at table)) ≡ p = cc in
    let literals-are : literals n (answer_coefficient Block F n k (at table)) ≡ l = cc in
    rw (products-are, literals-are) at
    (minimal-least Block F n k (at table) few _ _ _ _ _ _ _ (answer-minimal Block F n k (at table) hn hk (λ q h. below_at (2 ^ 8) table (lit< tt) bytes q)))

-- a row that states the table of the chosen outputs
row-chosen : (m s : ℕ) (table chosen : List ℕ) → Memᴰ (states (chosen_of m s table) chosen) marked_designs → at chosen ≡ (λ q. chosen_outputs m s (at table q))
unfolding computed
row-chosen m s table chosen r = fun_ext (λ q. ap (λ (b : List ℕ). at b q) (sym (designs-hold (states (chosen_of m s table) chosen) r)) ∙ chosen_at m s table q)

-- ---- the marked designs

-- none of three inputs on output 0, exactly two on output 1
none-or-two : LeastCost 3 One (Mixed Block 1) (at none_or_two_table) 4 6
unfolding base_designs marked_designs none_or_two_table all_below
none-or-two = row-least One 3 1 none_or_two_table 4 6 (lit≤ tt) (lit≤ tt) (lit≤ tt) tt (search (Memᴰ.head, Memᴰ.tail) depth 20)

-- its output 1 alone
two-of-three : LeastCost 3 One (Mixed Block 1) (λ q. chosen_outputs 2 2 (at none_or_two_table q)) 3 7
unfolding base_designs marked_designs two_of_three_table all_below
two-of-three =
    subst (λ (f : ℕ → ℕ). LeastCost 3 One (Mixed Block 1) f 3 7)
    (row-chosen 2 2 none_or_two_table two_of_three_table (search (Memᴰ.head, Memᴰ.tail) depth 20))
    (row-least One 3 1 two_of_three_table 3 7 (lit≤ tt) (lit≤ tt) (lit≤ tt) tt (search (Memᴰ.head, Memᴰ.tail) depth 20))

-- three outputs of four inputs, the third x1 with x2
shared : LeastCost 4 Two (Mixed Block 0) (at shared_table) 9 24
unfolding base_designs marked_designs shared_table all_below
shared = row-least Two 4 0 shared_table 9 24 (lit≤ tt) (lit≤ tt) (lit≤ tt) tt (search (Memᴰ.head, Memᴰ.tail) depth 20)

-- its outputs 0 and 1
not-shared : LeastCost 4 Two (Mixed Block 0) (λ q. chosen_outputs 3 3 (at shared_table q)) 10 19
unfolding base_designs marked_designs families_table all_below
not-shared =
    subst (λ (f : ℕ → ℕ). LeastCost 4 Two (Mixed Block 0) f 10 19)
    (row-chosen 3 3 shared_table families_table (search (Memᴰ.head, Memᴰ.tail) depth 20))
    (row-least Two 4 0 families_table 10 19 (lit≤ tt) (lit≤ tt) (lit≤ tt) tt (search (Memᴰ.head, Memᴰ.tail) depth 20))

-- W-207's design
under-x3 : LeastCost 3 One (Mixed Block 1) (at dearer_table) 2 5
unfolding base_designs marked_designs dearer_table all_below
under-x3 = row-least One 3 1 dearer_table 2 5 (lit≤ tt) (lit≤ tt) (lit≤ tt) tt (search (Memᴰ.head, Memᴰ.tail) depth 20)

-- ---- what does not hold

-- what W-206 would say of the two least costs p, l of a whole and p', l' of chosen outputs, if it were about R
abbrev OfEvery : (Family → (p l p' l' : ℕ) → Type 0) → Type 0
OfEvery R =
    (n m : ℕ) (family : Family) (kind : Kind) (f : ℕ → ℕ) (s : ℕ) → IsChoice m s → (p l p' l' : ℕ)
    → LeastCost n family kind f p l → LeastCost n family kind (λ q. chosen_outputs m s (f q)) p' l' → R family p l p' l'

-- 3 products with 7 literals cost less than 4 with 6
pub literals-alone : ¬ OfEvery (λ family p l p' l'. l' ≤ l)
literals-alone law = omega (arith, law 3 2 One (Mixed Block 1) (at none_or_two_table) 2 (lit< tt, lit< tt) 4 6 3 7 none-or-two two-of-three)

-- 10 products with 19 literals cost less than 9 with 24 for family two
pub products-alone : ¬ OfEvery (λ family p l p' l'. p' ≤ p)
products-alone law = omega (arith, law 4 3 Two (Mixed Block 0) (at shared_table) 3 (lit< tt, lit< tt) 9 24 10 19 shared not-shared)

-- a single output of one table can be dearer than a whole of another
pub another-table : ¬ ((n m : ℕ) (family : Family) (kind : Kind) (f g : ℕ → ℕ) (s : ℕ) → IsChoice m s → (p l p' l' : ℕ)
    → LeastCost n family kind f p l → LeastCost n family kind (λ q. chosen_outputs m s (g q)) p' l' → NoDearer family p' l' p l)
another-table law =
    omega (arith, (law 3 2 One (Mixed Block 1) (at dearer_table) (at none_or_two_table) 2 (lit< tt, lit< tt) 2 5 3 7 under-x3 two-of-three).0)
