-- What holds of every expansion of a class that gives a table holds of every rival of its kind (`mixed-rivals`, `kronecker-rivals`), and how large its counts
-- can be (`rival-counts`). A table has one least cost (`least-unique`), and that of an answer is it (`minimal-least`, `kronecker-minimal-least`).
use mathlib.Core.Path.{◌≡◌}
use Prim.Native.Nat.{ℕ, ◌≤◌, ◌<◌}
use native.Mathlib.Omega.{arith}
use Rattle.numbers.proofs.Shifts.{points-le}
use Rattle.expansions.specs.declared.families.Family.{Family}
use Rattle.expansions.specs.declared.families.Family.TheVariants.{One}
use Rattle.expansions.specs.declared.kinds.Kind.{Kind}
use Rattle.expansions.specs.declared.kinds.Kind.TheVariants.{Mixed, Kronecker}
use Rattle.expansions.specs.declared.kinds.Class.{Class}
use Rattle.expansions.specs.Classes.{most_mixed}
use Rattle.expansions.specs.Members.{Gives, polarity, Member}
use Rattle.expansions.specs.Costs.{products, literals}
use Rattle.expansions.specs.Rules.{NoDearer}
use Rattle.expansions.specs.Answers.{Minimal}
use Rattle.expansions.specs.Kronecker.Letters.{IsKind, KroneckerGives}
use Rattle.expansions.specs.Kronecker.Costs.{kronecker_literals}
use Rattle.expansions.specs.Kronecker.Answers.{KroneckerMinimal}
use Rattle.expansions.specs.Rivals.{Rival, mixed, kronecker, LeastCost}
use Rattle.expansions.proofs.Costs.{products-le, literals-lt}
use Rattle.expansions.proofs.Kronecker.Costs.{kronecker-literals-lt}
use Rattle.expansions.proofs.Members.{gives-shown, member-class, class-choices}
use Rattle.expansions.proofs.Rules.{no-dearer-antisym}

-- ---- rivals

pub mixed-rivals : (C : Class) (n k : ℕ) (f : ℕ → ℕ) → k ≤ most_mixed C → (P : ℕ → ℕ → Type 0)
    → ((v M i : ℕ) (x c : ℕ → ℕ) → Member C n k M i x → Gives n v (polarity C n k M i x) c f → P (products n c) (literals n c))
    → (p l : ℕ) → Rival n f (Mixed C k) p l → P p l
mixed-rivals C n k f few P h p l (mixed _ _ v M i w c in_class gives) =
    let choice = class-choices C n k M i w c few in_class in
    h v M i choice.0 c choice.1 (gives-shown n v _ w c f choice.2 gives)

pub kronecker-rivals : (n : ℕ) (f : ℕ → ℕ) (P : ℕ → ℕ → Type 0)
    → ((letters c : ℕ → ℕ) → IsKind n letters → KroneckerGives n letters c f → P (products n c) (kronecker_literals n letters c))
    → (p l : ℕ) → Rival n f Kronecker p l → P p l
kronecker-rivals n f P h p l (kronecker letters c kind gives) = h letters c kind gives

-- a rival of at most eight inputs has at most 256 products, and fewer than 4,096 literals
pub rival-counts : (n : ℕ) (f : ℕ → ℕ) (kind : Kind) (p l : ℕ) → n ≤ 8 → Rival n f kind p l → (p ≤ 256) × (l < 4096)
rival-counts n f kind p l h (mixed C k v M i w c in_class gives) = (omega (arith, products-le n c, points-le n h), literals-lt n c h)
rival-counts n f kind p l h (kronecker letters c is-kind gives) = (omega (arith, products-le n c, points-le n h), kronecker-literals-lt n letters c h)

-- ---- the least cost

pub least-unique : (n : ℕ) (F : Family) (kind : Kind) (f : ℕ → ℕ) (p l p' l' : ℕ) → LeastCost n F kind f p l → LeastCost n F kind f p' l' → (p ≡ p') × (l ≡ l')
least-unique n F kind f p l p' l' a b = no-dearer-antisym F p l p' l' (a.cheapest p' l' b.reached) (b.cheapest p l a.reached)

pub minimal-least : (C : Class) (F : Family) (n k : ℕ) (f : ℕ → ℕ) → k ≤ most_mixed C
    → (v M i : ℕ) (x c : ℕ → ℕ) (p l : ℕ) → Minimal C F n k f v M i x c p l → LeastCost n F (Mixed C k) f p l
minimal-least C F n k f few v M i x c p l m =
    record {
      reached =
          rw (m.products_counted, m.literals_counted)
          (mixed C k v M i (polarity C n k M i x) c (member-class C n k M i x m.answer.member) m.answer.gives);
      cheapest = mixed-rivals C n k f few (NoDearer F p l) m.cheapest;
    }

pub kronecker-minimal-least : (n : ℕ) (f letters c : ℕ → ℕ) (p l : ℕ) → KroneckerMinimal n f letters c p l → LeastCost n One Kronecker f p l
kronecker-minimal-least n f letters c p l m =
    record {
      reached = rw (m.products_counted, m.literals_counted) (kronecker letters c m.answer.kind m.answer.gives);
      cheapest = kronecker-rivals n f (NoDearer One p l) m.cheapest;
    }
