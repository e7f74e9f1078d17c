-- The answer for each class and family, as documents 01 and 02 say it: the expansion that gives the table and comes first in the family's order. It is said by
-- the choices of blocks (`IsAnswer`) and term by term (`IsClassAnswer`); what is the one is the other, and there is one only (proofs/ClassAnswers,
-- `class-answer-from`, `class-answers-same`). The function that finds it stands in inner/Answer.
use Rattle.std.specs.Prelude.{◌≡◌, ℕ, ◌-◌, ◌^◌, ◌≤◌, ◌<◌}
use Rattle.expansions.specs.declared.kinds.Class.{Class}
use Rattle.expansions.specs.declared.kinds.Class.TheVariants.{Block, Free}
use Rattle.expansions.specs.Members.{place, InClass, Gives, polarity, Member, shows}
use Rattle.expansions.specs.Costs.{products, literals}
use Rattle.expansions.specs.declared.families.Family.{Family}
use Rattle.expansions.specs.Rules.{cost_of, tie_of, NoDearer}
use Rattle.expansions.specs.Least.{LeastThen}

-- ---- the answer in the documents' words

-- the cost, and where it is equal what Rest says. Family one: "fewest products, then fewest literals"; family two: "minimised by that charge, and among
-- equal charges by fewest products"
abbrev pub CostThen : Family → ℕ → (c c' : ℕ → ℕ) → Type 0 → Type 0
CostThen F n c c' Rest =
    LeastThen (cost_of F (products n c) (literals n c)) (cost_of F (products n c') (literals n c'))
    (LeastThen (tie_of F (products n c) (literals n c)) (tie_of F (products n c') (literals n c')) Rest)

-- "then least M, then least i, then in each block the least φj"; in both families, W-205: "Equal costs (with `table2`, equal charge and equal
-- products) go to the least mask, then to the least M, i and φj as in 01." x j is the choice of the block j, which in document 01's class is φj
abbrev pub NotAfter : Family → ℕ → ℕ → (v M i : ℕ) (x c : ℕ → ℕ) → (v' M' i' : ℕ) (x' c' : ℕ → ℕ) → Type 0
NotAfter F n k v M i x c v' M' i' x' c' =
    CostThen F n c c' (LeastThen v v' (LeastThen M M' (LeastThen i i' ((j : ℕ) → j < 2 ^ (n - k) → x j ≤ x' j))))

-- "The answer is the member that gives the table with fewest products, ..": no other that gives it, with "any coefficients" and any inversion mask,
-- comes before it
pub record IsAnswer (C : Class) (F : Family) (n k : ℕ) (f : ℕ → ℕ) (v M i : ℕ) (x c : ℕ → ℕ) : Type 0 where
  pub member : Member C n k M i x
  pub gives : Gives n v (polarity C n k M i x) c f
  pub first : (v' M' i' : ℕ) (x' c' : ℕ → ℕ) → Member C n k M' i' x' → Gives n v' (polarity C n k M' i' x') c' f → NotAfter F n k v M i x c v' M' i' x' c'

-- An answer with its counts p and l: "Products are the terms with c[t] not 0; literals are the bits set in those t, summed"
pub record Minimal (C : Class) (F : Family) (n k : ℕ) (f : ℕ → ℕ) (v M i : ℕ) (x c : ℕ → ℕ) (p l : ℕ) : Type 0 where
  pub answer : IsAnswer C F n k f v M i x c
  pub products_counted : p ≡ products n c
  pub literals_counted : l ≡ literals n c
  -- every other expansion of the class that gives these outputs, with "any coefficients" and any inversion mask, costs at least as much, as the family
  -- weighs them
  pub cheapest : (v' M' i' : ℕ) (x' c' : ℕ → ℕ) → Member C n k M' i' x' → Gives n v' (polarity C n k M' i' x') c' f
      → NoDearer F p l (products n c') (literals n c')

-- ---- the answer of either class, term by term

-- the polarity in M, closed up, of the term t: "unused ones zero", so that a term with no coefficient, and an input that the term has not, count as 0
abbrev pub shown_polarity : (n M : ℕ) (w c : ℕ → ℕ) → ℕ → ℕ
shown_polarity n M w c t = place n M (shows w c t)

-- "then the least polarity of term 0, 1, and so on": where all the terms before it agree, the polarity of the term t is no greater
abbrev pub TermByTerm : ℕ → (w w' : ℕ → ℕ) → Type 0
TermByTerm n w w' = (t : ℕ) → t < 2 ^ n → ((s : ℕ) → s < t → w s ≡ w' s) → w t ≤ w' t

-- what decides between expansions of equal cost, mask, M and i. Document 01: "then in each block the least φj", which every term of the block has in M;
-- document 02, W-207: "then the least polarity of term 0, 1, and so on, unused ones zero."
abbrev pub PolaritiesNotAfter : Class → (n M : ℕ) (w c : ℕ → ℕ) → (M' : ℕ) (w' c' : ℕ → ℕ) → Type 0
PolaritiesNotAfter Block n M w c M' w' c' = (t : ℕ) → t < 2 ^ n → place n M (w t) ≤ place n M' (w' t)
PolaritiesNotAfter Free n M w c M' w' c' = TermByTerm n (shown_polarity n M w c) (shown_polarity n M' w' c')

-- the expansion of the class, with any polarities that the class allows, any coefficients and any inversion mask, that gives the table and comes first:
-- "fewest products, then fewest literals", in family two "that charge, and among equal charges .. fewest products"; then the least mask, M and i; then the
-- least polarities
pub record IsClassAnswer (C : Class) (F : Family) (n k : ℕ) (f : ℕ → ℕ) (v M i : ℕ) (w c : ℕ → ℕ) : Type 0 where
  pub in_class : InClass C n k M i w
  pub gives : Gives n v w c f
  pub first : (v' M' i' : ℕ) (w' c' : ℕ → ℕ) → InClass C n k M' i' w' → Gives n v' w' c' f
      → CostThen F n c c' (LeastThen v v' (LeastThen M M' (LeastThen i i' (PolaritiesNotAfter C n M w c M' w' c'))))
