-- The answer of either class, term by term: what an answer by the choices of its blocks is (`class-answer-from`), and that there is one only
-- (`class-answers-same`), as far as its lines show it. Expansions whose lines agree where both have them, and that give the same table, have the same
-- coefficients (`agreeing-unique`).
use mathlib.Core.Path.{◌≡◌, refl, sym, ap, ap₂, ◌∙◌, subst}
use Prim.Native.Nat.{ℕ, zero, suc, ◌-◌, ◌^◌, ◌≤◌, ◌<◌}
use native.Mathlib.Decide.{ℕ_discrete}
use native.Mathlib.Nat.{le_antisymm}
use native.Mathlib.Omega.{arith}
use lib.Bits.{bit_and, bit_xor, and_le_l}
use Rattle.numbers.proofs.Xor.{xor-cancel-r}
use Rattle.algebra.specs.Terms.{value}
use Rattle.algebra.proofs.Value.{value-shown, value-unique}
use Rattle.expansions.specs.Split.{outside}
use Rattle.expansions.specs.declared.kinds.Class.{Class}
use Rattle.expansions.specs.declared.kinds.Class.TheVariants.{Block, Free}
use Rattle.expansions.specs.declared.families.Family.{Family}
use Rattle.expansions.specs.Classes.{most_mixed}
use Rattle.expansions.specs.Costs.{counted}
use Rattle.expansions.specs.Members.{block, place, InClass, Gives, polarity, Member, shows, shown_choice}
use Rattle.expansions.specs.Answers.{PolaritiesNotAfter, IsAnswer, IsClassAnswer}
use Rattle.expansions.proofs.Counted.{counted-some}
use Rattle.expansions.proofs.Least.{then_map, then-given, then-antisym}
use Rattle.expansions.proofs.Blocks.{block-lt, polarity-inside}
use Rattle.expansions.proofs.Polarities.{gather-and, parts-equal}
use Rattle.expansions.proofs.Shown.{free-member}
use Rattle.expansions.proofs.Members.{member-class, shared_choice, shared-member, shared-polarity}
use Rattle.expansions.proofs.ShownChoices.{shown-gives}
use Rattle.expansions.proofs.FreeAnswers.{free-order, terms-antisym}

-- ---- an answer by choices is first among all expansions of its class

module _ (F : Family) (n k : ℕ) (f : ℕ → ℕ) (v M i : ℕ) (x c : ℕ → ℕ) (v' M' i' : ℕ) (w' c' : ℕ → ℕ) where
  -- choices with which a member gives what the rival gives, and what the answer's being no greater comes to term by term
  beside-rival : (C : Class) → k ≤ most_mixed C → IsAnswer C F n k f v M i x c → InClass C n k M' i' w' → Gives n v' w' c' f
      → (y : ℕ → ℕ) × Member C n k M' i' y × Gives n v' (polarity C n k M' i' y) c' f
      × (M ≡ M' → ((j : ℕ) → j < 2 ^ (n - k) → x j ≤ y j) → PolaritiesNotAfter C n M (polarity C n k M i x) c M' w' c')
  beside-rival Block few answer rival gives =
      let y = shared_choice n k M' i' w' rival in
      let own = shared-member n k M' i' w' rival in (
        y,
        own,
        λ p l.
            ap (λ (z : ℕ). bit_xor z v')
            (value-shown n (polarity Block n k M' i' y) w' c' (λ t h u. ap (bit_and t) (shared-polarity n k M' i' w' rival t h)) p) ∙ gives p l,
        λ e le t h.
            let mine : place n M (polarity Block n k M i x t) ≡ x (block n M t) = polarity-inside Block n k M i x answer.member t in
            let other : y (block n M' t) ≡ place n M' (w' t) =
            sym (polarity-inside Block n k M' i' y own t) ∙ ap (place n M') (shared-polarity n k M' i' w' rival t h) in
            let between : y (block n M t) ≡ y (block n M' t) = ap (λ (z : ℕ). y (block n z t)) e in
            omega (arith, mine, other, between, le (block n M t) (block-lt n k M answer.member.pair.size t)),
      )
  beside-rival Free few answer rival gives = (
    shown_choice Free n k M' (shows w' c'),
    free-member n k M' i' w' c' few rival,
    shown-gives Free n k M' i' w' c' few rival v' f gives,
    free-order F n k f v M i x c few answer M' i' w' c' rival,
  )

pub class-answer-from : (C : Class) (F : Family) (n k : ℕ) (f : ℕ → ℕ) (v M i : ℕ) (x c : ℕ → ℕ) → k ≤ most_mixed C → IsAnswer C F n k f v M i x c
    → IsClassAnswer C F n k f v M i (polarity C n k M i x) c
class-answer-from C F n k f v M i x c few answer =
    record {
      in_class = member-class C n k M i x answer.member;
      gives = answer.gives;
      first =
          λ v' M' i' w' c' rival gives.
          let beside = beside-rival F n k f v M i x c v' M' i' w' c' C few answer rival gives in
          then_map _ _ (then_map _ _ (then_map _ _ (then-given M M' (λ e. then_map i i' (beside.3 e)))))
          (answer.first v' M' i' beside.0 c' beside.1 beside.2);
    }

-- ---- it is the only one

-- the polarity of a line of the first, where its coefficient is not 0, and else of the second
line_of : (a x y : ℕ) → ℕ
line_of zero x y = y
line_of (suc a) x y = x

line_first : (a x y : ℕ) → (a ≡ 0 → ⊥) → line_of a x y ≡ x
unfolding line_of
line_first zero x y u = absurd (u refl)
line_first (suc a) x y u = refl

-- expansions whose lines agree where both have them
module _ (n : ℕ) (w w' c c' : ℕ → ℕ) (agree : (t : ℕ) → t < 2 ^ n → (c t ≡ 0 → ⊥) → (c' t ≡ 0 → ⊥) → bit_and t (w t) ≡ bit_and t (w' t)) where
  -- the polarities of the lines of both
  abbrev both : ℕ → ℕ
  both t = line_of (c t) (w t) (w' t)

  second : (t : ℕ) → t < 2 ^ n → (c' t ≡ 0 → ⊥) → bit_and t (both t) ≡ bit_and t (w' t)
  unfolding line_of
  second t h u = go (c t) (agree t h) where
    go : (a : ℕ) → ((a ≡ 0 → ⊥) → (c' t ≡ 0 → ⊥) → bit_and t (w t) ≡ bit_and t (w' t)) → bit_and t (line_of a (w t) (w' t)) ≡ bit_and t (w' t)
    go zero same = refl
    go (suc a) same = same (λ e. absurd (omega (arith, e))) u

  pub agreeing-unique : ((p : ℕ) → p < 2 ^ n → value n w c p ≡ value n w' c' p) → (t : ℕ) → t < 2 ^ n → c t ≡ c' t
  agreeing-unique e =
      value-unique n both c c'
      (λ p l.
      value-shown n both w c (λ t h u. ap (bit_and t) (line_first (c t) (w t) (w' t) u)) p ∙ e p l
      ∙ sym (value-shown n both w' c' second p))

  -- so they show the same
  pub agreeing-shows : ((t : ℕ) → t < 2 ^ n → c t ≡ c' t) → (t : ℕ) → t < 2 ^ n → shows w c t ≡ shows w' c' t
  unfolding shows counted
  agreeing-shows e t h = go (ℕ_discrete (c t) 0) where
    go : Dec (c t ≡ 0) → counted (c t) (bit_and t (w t)) ≡ counted (c' t) (bit_and t (w' t))
    go (yes z) = let z' : c' t ≡ 0 = sym (e t h) ∙ z in rw (z, z')
    go (no u) = ap₂ counted (e t h) (agree t h u (λ z. u (e t h ∙ z)))

pub shows-line : (w c : ℕ → ℕ) (t : ℕ) → (c t ≡ 0 → ⊥) → shows w c t ≡ bit_and t (w t)
unfolding shows
shows-line w c t u = counted-some (c t) (bit_and t (w t)) u

-- the polarities of two expansions, neither of which comes after the other, agree on the inputs of M where both have a line
places-agree : (C : Class) (n M : ℕ) (w c w' c' : ℕ → ℕ) → PolaritiesNotAfter C n M w c M w' c' → PolaritiesNotAfter C n M w' c' M w c
    → (t : ℕ) → t < 2 ^ n → (c t ≡ 0 → ⊥) → (c' t ≡ 0 → ⊥) → place n M (bit_and t (w t)) ≡ place n M (bit_and t (w' t))
places-agree Block n M w c w' c' a b t h u u' =
    gather-and n M t (w t) ∙ ap (bit_and (place n M t)) (le_antisymm (a t h) (b t h)) ∙ sym (gather-and n M t (w' t))
places-agree Free n M w c w' c' a b t h u u' =
    ap (place n M) (sym (shows-line w c t u)) ∙ terms-antisym n _ _ a b t h ∙ ap (place n M) (shows-line w' c' t u')

-- and outside M they follow i
lines-agree : (C : Class) (n k M i : ℕ) (w c w' c' : ℕ → ℕ) → InClass C n k M i w → InClass C n k M i w'
    → PolaritiesNotAfter C n M w c M w' c' → PolaritiesNotAfter C n M w' c' M w c
    → (t : ℕ) → t < 2 ^ n → (c t ≡ 0 → ⊥) → (c' t ≡ 0 → ⊥) → bit_and t (w t) ≡ bit_and t (w' t)
lines-agree C n k M i w c w' c' in_class in-class' a b t h u u' =
    parts-equal n M (bit_and t (w t)) (bit_and t (w' t)) (omega (arith, and_le_l t (w t))) (omega (arith, and_le_l t (w' t)))
    (gather-and n (outside n M) t (w t) ∙ ap (bit_and (block n M t)) (in_class.outer t h ∙ sym (in-class'.outer t h)) ∙ sym (gather-and n (outside n M) t (w' t)))
    (places-agree C n M w c w' c' a b t h u u')

-- two answers are one: the same mask, M and i, the same polarities as far as lines show them, and the same coefficients
pub class-answers-same : (C : Class) (F : Family) (n k : ℕ) (f : ℕ → ℕ) (v M i : ℕ) (w c : ℕ → ℕ) (v' M' i' : ℕ) (w' c' : ℕ → ℕ)
    → IsClassAnswer C F n k f v M i w c → IsClassAnswer C F n k f v' M' i' w' c'
    → (v ≡ v') × (M ≡ M') × (i ≡ i') × ((t : ℕ) → t < 2 ^ n → shows w c t ≡ shows w' c' t) × ((t : ℕ) → t < 2 ^ n → c t ≡ c' t)
class-answers-same C F n k f v M i w c v' M' i' w' c' a b =
    let byCost = then-antisym _ _ (a.first v' M' i' w' c' b.in_class b.gives) (b.first v M i w c a.in_class a.gives) in
    let byTie = then-antisym _ _ byCost.1 byCost.2 in
    let byMask = then-antisym v v' byTie.1 byTie.2 in
    let byM = then-antisym M M' byMask.1 byMask.2 in
    let byI = then-antisym i i' byM.1 byM.2 in
    let agree = lines-agree C n k M i w c w' c' a.in_class (rw (byM.0, byI.0) b.in_class)
    (subst (λ (z : ℕ). PolaritiesNotAfter C n M w c z w' c') (sym byM.0) byI.1) (subst (λ (z : ℕ). PolaritiesNotAfter C n z w' c' M w c) (sym byM.0) byI.2) in
    let same = agreeing-unique n w w' c c' agree
    (λ p l. sym (xor-cancel-r (value n w c p) v) ∙ ap₂ bit_xor (a.gives p l ∙ sym (b.gives p l)) byMask.0 ∙ xor-cancel-r (value n w' c' p) v') in
    (byMask.0, byM.0, byI.0, agreeing-shows n w w' c c' agree same, same)
