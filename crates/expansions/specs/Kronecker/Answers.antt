-- The answer among the Kronecker expansions, as document 02 says it: the expansion of one of the 3 ^ n kinds that gives the table and comes first. There is
-- one only (proofs/Kronecker/Answers, `kronecker-answers-same`). The function that finds it stands in inner/KroneckerAnswer.
use Rattle.std.specs.Prelude.{◌≡◌, ℕ, zero, suc}
use Rattle.expansions.specs.Costs.{products}
use Rattle.expansions.specs.declared.families.Family.TheVariants.{One}
use Rattle.expansions.specs.Rules.{NoDearer}
use Rattle.expansions.specs.Least.{LeastThen}
use Rattle.expansions.specs.Kronecker.Letters.{IsKind, KroneckerGives}
use Rattle.expansions.specs.Kronecker.Costs.{kronecker_literals}

-- ---- the answer in document 02's words

-- "the letters that come first, compared from xn down, `S` before `P` before `N`": a's letters are b's, or come before them
unfoldable pub LettersNotAfter : ℕ → (a b : ℕ → ℕ) → Type 0
LettersNotAfter zero a b = Unit
LettersNotAfter (suc n) a b = LeastThen (a n) (b n) (LettersNotAfter n a b)

-- document 01's "fewest products, then fewest literals"; "Equal costs go to the letters that come first"
abbrev pub KroneckerNotAfter : ℕ → (a c b d : ℕ → ℕ) → Type 0
KroneckerNotAfter n a c b d =
    LeastThen (products n c) (products n d) (LeastThen (kronecker_literals n a c) (kronecker_literals n b d) (LettersNotAfter n a b))

-- no expansion of these kinds that gives the table, with any coefficients, comes before it
pub record IsKroneckerAnswer (n : ℕ) (f letters c : ℕ → ℕ) : Type 0 where
  pub kind : IsKind n letters
  pub gives : KroneckerGives n letters c f
  pub first : (b d : ℕ → ℕ) → IsKind n b → KroneckerGives n b d f → KroneckerNotAfter n letters c b d

-- An answer with its counts p and l
pub record KroneckerMinimal (n : ℕ) (f letters c : ℕ → ℕ) (p l : ℕ) : Type 0 where
  pub answer : IsKroneckerAnswer n f letters c
  pub products_counted : p ≡ products n c
  pub literals_counted : l ≡ kronecker_literals n letters c
  -- "Demand 3 holds for `K` too, its rivals all expansions of these 3^n kinds that give the same outputs": each costs at least as much
  pub cheapest : (b d : ℕ → ℕ) → IsKind n b → KroneckerGives n b d f → NoDearer One p l (products n d) (kronecker_literals n b d)
