-- `try_last` meets its contract: the three scores are those of the three kinds, and each lowers the best.
use mathlib.Core.Path.{◌≡◌}
use mathlib.Core.Logic.{◌⊎◌, inl, inr}
use Prim.Native.Nat.{ℕ, min, ◌≤◌, ◌<◌}
use native.Mathlib.Omega.{arith}
use Rattle.std.proofs.lemmas.Bool.{cases_lt}
use Rattle.expansions.proofs.Kronecker.Last.{tried-three}
use Rattle.expansions.proofs.Kronecker.Walking.{place-light}
use Rattle.kronecker.proofs.walk.try_last.Goals as goal

-- the lower of two scores
lowered : (best score least : ℕ) → least ≡ min best score → (least ≤ best) × (least ≤ score) × ((least ≡ best) ⊎ (least ≡ score))
lowered best score least e = go (cases_lt best score) where
  go : (best < score) ⊎ (score ≤ best) → (least ≤ best) × (least ≤ score) × ((least ≡ best) ⊎ (least ≡ score))
  go (inl h) = let f : least ≡ best = omega (arith, e) in (omega arith, omega arith, inl f)
  go (inr h) = let f : least ≡ score = omega (arith, e) in (omega arith, omega arith, inr f)

pub half_charges-halves-requires : goal.half_charges-halves-requires
half_charges-halves-requires c = let p = c.requires.1 in (omega (arith, p.inputs), place-light _ _ _ _ _ _ _ p)

pub returns : goal.returns
returns c =
    λ f a.
    tried-three _ _ _ _ _ _ a _ _ _ c.half_charges-halves.ensures _ _ _ _ _ _ _ c.kind_score-shannon.ensures
    c.kind_score-positive.ensures c.kind_score-negative.ensures
    (lowered _ _ _ c.min.ensures) (lowered _ _ _ c.min-2.ensures) (lowered _ _ _ c.min-3.ensures)
