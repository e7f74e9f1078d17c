-- W-207: in the free class a lesser choice of a block is a lesser polarity of the first of its terms that differ (`places-order`), and the terms of a block
-- ascend with their places: so an answer, which has the least choices, comes first term by term (`free-order`). Each way round, the polarities are the same
-- (`terms-antisym`).
use mathlib.Core.Path.{◌≡◌, sym, ◌∙◌, subst}
use Prim.Native.Nat.{ℕ, zero, suc, ◌-◌, ◌^◌, ◌≤◌, ◌<◌}
use native.Mathlib.Nat.{le_antisymm, not-suc-le-zero}
use native.Mathlib.Omega.{arith}
use lib.Bits.{bit_and, and_comm, and_mask}
use lib.Count.{ones_in}
use Rattle.expansions.specs.Split.{join}
use Rattle.expansions.specs.declared.kinds.Class.TheVariants.{Free}
use Rattle.expansions.specs.declared.families.Family.{Family}
use Rattle.expansions.specs.Classes.{choices, place_polarity}
use Rattle.expansions.specs.Members.{block, place, InClass, polarity, shows, shown_choice}
use Rattle.expansions.specs.Answers.{shown_polarity, TermByTerm, IsAnswer}
use Rattle.expansions.proofs.Classes.{own-in-place, own-order}
use Rattle.expansions.proofs.Split.{join-gather, join-lt}
use Rattle.expansions.proofs.Ascending.{spread-less}
use Rattle.expansions.proofs.Least.{below-one-more}
use Rattle.expansions.proofs.Blocks.{block-lt, place-lt, block-join, place-join}
use Rattle.expansions.proofs.Shown.{free-member, free-polarity}
use Rattle.expansions.proofs.Members.{member-class}
use Rattle.expansions.proofs.ShownChoices.{answer-shown}

-- ---- from the choices of blocks to the polarities of terms

-- what the place s shows of the polarity that it has under the choice x
abbrev own_shows : (k x s : ℕ) → ℕ
own_shows k x s = bit_and s (place_polarity Free k x s)

-- the lesser choice is the one that has the lesser polarity at the first place where they differ
places-order : (k x y : ℕ) → k ≤ 2 → x < choices Free k → y < choices Free k → x ≤ y
    → (s : ℕ) → s < 2 ^ k → ((r : ℕ) → r < s → own_shows k x r ≡ own_shows k y r) → own_shows k x s ≤ own_shows k y s
places-order zero x y h hx hy o zero l e = omega arith
places-order zero x y h hx hy o (suc s) l e = absurd (omega arith)
places-order (suc zero) x y h hx hy o zero l e = omega arith
places-order (suc zero) x y h hx hy o (suc zero) l e = omega (arith, and_comm 1 x, and_mask x 1, and_comm 1 y, and_mask y 1)
places-order (suc zero) x y h hx hy o (suc (suc s)) l e = absurd (omega arith)
places-order (suc (suc zero)) x y h hx hy o s l e =
    rw (own-in-place x s hx l, own-in-place y s hy l)
    (own-order x y hx hy o s l (λ r m. sym (own-in-place x r hx (omega arith)) ∙ e r m ∙ own-in-place y r hy (omega arith)))
places-order (suc (suc (suc k))) x y h hx hy o s l e = absurd (omega arith)

-- the terms of a block ascend with their places
join-less : (n M j r s : ℕ) → r < s → s < 2 ^ ones_in n M → join n M j r < join n M j s
unfolding join
join-less n M j r s h l = omega (arith, spread-less n M r s h l)

module _ (n k M : ℕ) (few : k ≤ 2) (size : ones_in n M ≡ k) (x y w w' : ℕ → ℕ)
    (hx : (j : ℕ) → j < 2 ^ (n - k) → x j < choices Free k) (hy : (j : ℕ) → j < 2 ^ (n - k) → y j < choices Free k)
    (own : (t : ℕ) → t < 2 ^ n → own_shows k (x (block n M t)) (place n M t) ≡ w t)
    (other : (t : ℕ) → t < 2 ^ n → own_shows k (y (block n M t)) (place n M t) ≡ w' t)
    (le : (j : ℕ) → j < 2 ^ (n - k) → x j ≤ y j) where
  terms-order : TermByTerm n w w'
  terms-order t h before =
      rw (← own t h, ← other t h)
      (places-order k (x j) (y j) few (hx j hj) (hy j hj) (le j hj) (place n M t) (place-lt n k M size t)
      (λ r hr.
      let l : r < 2 ^ k = omega (arith, place-lt n k M size t) in
      let below : join n M j r < t = subst (λ (z : ℕ). join n M j r < z) (join-gather n M t h) (join-less n M j r (place n M t) hr (rw size (place-lt n k M size t))) in
      let e : own_shows k (x (block n M (join n M j r))) (place n M (join n M j r)) ≡ own_shows k (y (block n M (join n M j r))) (place n M (join n M j r)) =
      own (join n M j r) (join-lt n M j r) ∙ before (join n M j r) below ∙ sym (other (join n M j r) (join-lt n M j r)) in
      rw (block-join n k M size j r hj, place-join n k M size j r l) at e))
    where
      j : ℕ
      j = block n M t

      hj : block n M t < 2 ^ (n - k)
      hj = block-lt n k M size t

-- ---- an answer beside an expansion of Definition 1, whose choices are those that its lines show

module _ (F : Family) (n k : ℕ) (f : ℕ → ℕ) (v M i : ℕ) (x c : ℕ → ℕ) (few : k ≤ 2) (answer : IsAnswer Free F n k f v M i x c)
    (M' i' : ℕ) (w' c' : ℕ → ℕ) (rival : InClass Free n k M' i' w') where
  abbrev terms : ℕ → ℕ
  terms = polarity Free n k M i x

  in_class : InClass Free n k M i terms
  in_class = member-class Free n k M i x answer.member

  abbrev choice' : ℕ → ℕ
  choice' = shown_choice Free n k M' (shows w' c')

  pub free-order : M ≡ M' → ((j : ℕ) → j < 2 ^ (n - k) → x j ≤ choice' j) → TermByTerm n (shown_polarity n M terms c) (shown_polarity n M' w' c')
  free-order e le =
      terms-order n k M few answer.member.pair.size (shown_choice Free n k M (shows terms c)) choice' (shown_polarity n M terms c) (shown_polarity n M' w' c')
      (free-member n k M i terms c few in_class).inner (free-member n k M' i' w' c' few rival).inner (free-polarity n k M i terms c few in_class)
      (subst (λ (z : ℕ). (t : ℕ) → t < 2 ^ n → own_shows k (choice' (block n z t)) (place n z t) ≡ shown_polarity n M' w' c' t) (sym e)
      (free-polarity n k M' i' w' c' few rival))
      (λ j l. rw (answer-shown Free F n k f v M i x c few answer j l) (le j l))

-- each way round, term by term: the same
pub terms-antisym : (n : ℕ) (w w' : ℕ → ℕ) → TermByTerm n w w' → TermByTerm n w' w → (t : ℕ) → t < 2 ^ n → w t ≡ w' t
terms-antisym n w w' a b t h = all (suc t) h t (omega arith)
  where
    all : (N : ℕ) → N ≤ 2 ^ n → (s : ℕ) → s < N → w s ≡ w' s
    all zero l s k = absurd (not-suc-le-zero k)
    all (suc N) l s k =
        let before : (s : ℕ) → s < N → w s ≡ w' s = all N (omega arith) in
        below-one-more N (λ (s : ℕ). w s ≡ w' s) before (le_antisymm (a N l before) (b N l (λ s k. sym (before s k)))) s k
