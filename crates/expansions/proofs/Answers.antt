-- The answer of each class and family: the function's result is the member, with its inverters, of the documents' words (`answer-is`), and the only one
-- (`answer-only`). So every other expansion of the class that gives the table costs at least as much (`answer-cheapest`). Of the table only the points
-- count (`answer-ext`).
use mathlib.Core.Path.{◌≡◌, refl, sym, ap, ap₂, ◌∙◌, fun_ext}
use Prim.Native.Nat.{ℕ, zero, suc, ◌+◌, ◌-◌, ◌*◌, ◌/◌, ◌%◌, ◌^◌, ◌≤◌, ◌<◌}
use native.Mathlib.Nat.{mod-lt, div-lt_iff_lt-mul, le_antisymm}
use lib.Bits.{bit_xor}
use lib.Pow.{pow_pos}
use lib.Dec.{ltb}
use Rattle.numbers.specs.Tests.{only}
use Rattle.algebra.specs.Coefficients.{coefficient}
use Rattle.numbers.proofs.Sums.{fold-ext}
use Rattle.numbers.proofs.Tests.{only-closed, only_below, only_above}
use Rattle.numbers.proofs.Xor.{xor-cancel-r}
use Rattle.algebra.proofs.Value.{value-ext}
use Rattle.expansions.specs.Split.{gather, outside, join}
use Rattle.expansions.specs.declared.kinds.Class.{Class}
use Rattle.expansions.specs.Classes.{choices}
use Rattle.expansions.specs.Members.{block, polarity, Member, Gives}
use Rattle.expansions.specs.declared.families.Family.{Family}
use Rattle.expansions.specs.Costs.{products, literals}
use Rattle.expansions.specs.Rules.{NoDearer, rule_of}
use Rattle.expansions.proofs.Costs.{charge, charge-ext, charge-cost, charge-tie, priced-parts, priced-blocks}
use Rattle.expansions.proofs.Inverters.{constant, constant-inverted, without-ext, gives-unique, rival-step}
use Rattle.expansions.proofs.Rules.{base, rule-some}
use Rattle.expansions.specs.Least.{LeastThen}
use Rattle.expansions.specs.Answers.{NotAfter, IsAnswer, Minimal}
use Rattle.expansions.specs.Inner.Answer.{block_function, member_coefficient, block_charge, least_choice, pair_charge, valid_pair, least_pair}
use Rattle.expansions.specs.Inner.Answer.{answer_pair, answer_mixed, answer_fixed, answer_choice, expanded_coefficient, answer_inverted, without_constant, answer_coefficient}
use Rattle.expansions.proofs.Classes.{choices-some}
use Rattle.expansions.proofs.Split.{join-lt}
use Rattle.expansions.proofs.Masks.{valid-from, valid-size, valid-clear}
use Rattle.expansions.proofs.Least.{then-le, then-rest, then_map, then-antisym, then-digits, then-through, IsFirst}
use Rattle.expansions.proofs.Blocks.{block-lt, member-expands, member-lt, member-ext}
use Rattle.expansions.proofs.Lowest.{lowest-pair}
use Rattle.expansions.proofs.Minimal.{choice-first, pair-first, pair-minimal}

-- ---- places past the last

pub answer-choice : (C : Class) (F : Family) (n k : ℕ) (f : ℕ → ℕ) (j : ℕ) → j < 2 ^ (n - k)
    → answer_choice C F n k f j ≡ least_choice (choices C k) (block_charge C (rule_of F) n k f (answer_mixed C F n k f) (answer_fixed C F n k f) j)
unfolding answer_choice
answer-choice C F n k f j h = only_below j (2 ^ (n - k)) _ h

pub answer-choice-zero : (C : Class) (F : Family) (n k : ℕ) (f : ℕ → ℕ) (j : ℕ) → 2 ^ (n - k) ≤ j → answer_choice C F n k f j ≡ 0
unfolding answer_choice
answer-choice-zero C F n k f j h = only_above j (2 ^ (n - k)) _ h

expanded-coefficient : (C : Class) (F : Family) (n k : ℕ) (f : ℕ → ℕ) (t : ℕ) → t < 2 ^ n
    → expanded_coefficient C F n k f t ≡ member_coefficient C n k f (answer_mixed C F n k f) (answer_fixed C F n k f) (answer_choice C F n k f) t
unfolding expanded_coefficient
expanded-coefficient C F n k f t h = only_below t (2 ^ n) _ h

pub answer-inverted : (C : Class) (F : Family) (n k : ℕ) (f : ℕ → ℕ)
    → answer_inverted C F n k f ≡ member_coefficient C n k f (answer_mixed C F n k f) (answer_fixed C F n k f) (answer_choice C F n k f) 0
unfolding answer_inverted
answer-inverted C F n k f = expanded-coefficient C F n k f 0 (pow_pos n)

pub answer-coefficient : (C : Class) (F : Family) (n k : ℕ) (f : ℕ → ℕ) (t : ℕ) → t < 2 ^ n
    → answer_coefficient C F n k f t ≡ without_constant (member_coefficient C n k f (answer_mixed C F n k f) (answer_fixed C F n k f) (answer_choice C F n k f)) t
unfolding answer_coefficient
answer-coefficient C F n k f = without-ext n _ _ (expanded-coefficient C F n k f)

pub answer-coefficient-zero : (C : Class) (F : Family) (n k : ℕ) (f : ℕ → ℕ) (t : ℕ) → 2 ^ n ≤ t → answer_coefficient C F n k f t ≡ 0
unfolding answer_coefficient without_constant expanded_coefficient
answer-coefficient-zero C F n k f zero h = refl
answer-coefficient-zero C F n k f (suc t) h = only_above (suc t) (2 ^ n) _ h

-- ---- the answer is a member that gives the table

module _ (C : Class) (F : Family) (n k : ℕ) (f : ℕ → ℕ) (hk : k ≤ n) where
  -- there is a valid pair: the k lowest inputs, and no complement
  pub answer-first : IsFirst (2 ^ n * 2 ^ n) (λ x. valid_pair n k (x / 2 ^ n) (x % 2 ^ n))
      (λ x. pair_charge n k (choices C k) (block_charge C (rule_of F) n k f (x / 2 ^ n) (x % 2 ^ n))) (answer_pair C F n k f)
  unfolding answer_pair
  answer-first =
      let lowest = lowest-pair n k hk in
      pair-first n k (choices C k) (choices-some C k) (valid_pair n k) (block_charge C (rule_of F) n k f) (2 ^ k - 1) 0 lowest.mask lowest.fixed
      (valid-from n k (2 ^ k - 1) 0 lowest.size lowest.clear)

  pub answer-member : Member C n k (answer_mixed C F n k f) (answer_fixed C F n k f) (answer_choice C F n k f)
  unfolding answer_mixed answer_fixed
  answer-member =
      record {
        pair =
            record {
              mask = (div-lt_iff_lt-mul (pow_pos n)).1 answer-first.below;
              size = valid-size n k (answer_mixed C F n k f) (answer_fixed C F n k f) answer-first.fits;
              fixed = mod-lt (answer_pair C F n k f) (pow_pos n);
              clear = valid-clear n k (answer_mixed C F n k f) (answer_fixed C F n k f) answer-first.fits;
            };
        inner = λ j l. rw (answer-choice C F n k f j l) (choice-first (choices C k) (choices-some C k) (block_charge C (rule_of F) n k f (answer_mixed C F n k f) (answer_fixed C F n k f) j)).below;
      }

  pub answer-gives : Gives n (answer_inverted C F n k f) (polarity C n k (answer_mixed C F n k f) (answer_fixed C F n k f) (answer_choice C F n k f)) (answer_coefficient C F n k f) f
  unfolding answer_inverted answer_coefficient
  answer-gives p h =
      constant-inverted n _ (expanded_coefficient C F n k f) p ∙ value-ext n _ _ _ p (expanded-coefficient C F n k f)
      ∙ member-expands C n k (answer_mixed C F n k f) (answer_fixed C F n k f) (answer_choice C F n k f) answer-member f p h

  -- ---- bounds

  pub answer-choice-lt : (j : ℕ) → answer_choice C F n k f j < choices C k
  unfolding answer_choice
  answer-choice-lt j =
      only-closed (λ x. x < choices C k) (choices-some C k) (ltb j (2 ^ (n - k))) _
      (choice-first (choices C k) (choices-some C k) (block_charge C (rule_of F) n k f (answer_mixed C F n k f) (answer_fixed C F n k f) j)).below

  module _ (m : ℕ) (outputs : (p : ℕ) → p < 2 ^ n → f p < 2 ^ m) where
    expanded-lt : (t : ℕ) → expanded_coefficient C F n k f t < 2 ^ m
    unfolding expanded_coefficient
    expanded-lt t =
        only-closed (λ x. x < 2 ^ m) (pow_pos m) (ltb t (2 ^ n)) _
        (member-lt m n k (answer_mixed C F n k f) (answer_fixed C F n k f) f outputs C (answer_choice C F n k f) answer-member t)

    pub answer-inverted-lt : answer_inverted C F n k f < 2 ^ m
    unfolding answer_inverted
    answer-inverted-lt = expanded-lt 0

    pub answer-coefficient-lt : (t : ℕ) → answer_coefficient C F n k f t < 2 ^ m
    unfolding answer_coefficient without_constant
    answer-coefficient-lt zero = pow_pos m
    answer-coefficient-lt (suc t) = expanded-lt (suc t)

  -- ---- and comes first

  abbrev expanded : ℕ → ℕ
  expanded = member_coefficient C n k f (answer_mixed C F n k f) (answer_fixed C F n k f) (answer_choice C F n k f)

  -- what the answer's pair is charged: 256 times what the answer costs, and its mask
  pub answer-charge : pair_charge n k (choices C k) (block_charge C (rule_of F) n k f (answer_mixed C F n k f) (answer_fixed C F n k f))
      ≡ charge (rule_of F) n (answer_coefficient C F n k f) * 256 + answer_inverted C F n k f
  unfolding pair_charge
  answer-charge =
      fold-ext ◌+◌ (2 ^ (n - k)) _ _ (λ j l. sym (ap (block_charge C (rule_of F) n k f (answer_mixed C F n k f) (answer_fixed C F n k f) j) (answer-choice C F n k f j l)))
      ∙ sym (priced-blocks (rule_of F) C n k f (answer_mixed C F n k f) (answer_fixed C F n k f) (answer_choice C F n k f) answer-member.pair.size)
      ∙ priced-parts (rule_of F) n expanded
      ∙ ap₂ (λ (x y : ℕ). x * 256 + y) (charge-ext (rule_of F) n _ _ (λ t h. sym (answer-coefficient C F n k f t h))) (sym (answer-inverted C F n k f))

  module _ (bytes : (p : ℕ) → p < 2 ^ n → f p < 2 ^ 8) (v M i : ℕ) (y c : ℕ → ℕ) (member : Member C n k M i y) (gives : Gives n v (polarity C n k M i y) c f) where
    abbrev rival : ℕ → ℕ
    rival = member_coefficient C n k f M i y

    abbrev Rest : Type 0
    Rest = LeastThen (answer_mixed C F n k f) M (LeastThen (answer_fixed C F n k f) i ((j : ℕ) → j < 2 ^ (n - k) → answer_choice C F n k f j ≤ y j))

    -- by what the terms besides the constant cost, then by the constant, which is the mask
    by-charge : LeastThen (charge (rule_of F) n (answer_coefficient C F n k f)) (charge (rule_of F) n (without_constant rival)) (LeastThen (answer_inverted C F n k f) (rival 0) Rest)
    unfolding answer_mixed answer_fixed answer_pair
    by-charge =
        then-digits 256 _ _ _ _ (answer-inverted-lt 8 bytes) (member-lt 8 n k M i f bytes C y member 0)
        (rw (← answer-charge, ← priced-parts (rule_of F) n rival, priced-blocks (rule_of F) C n k f M i y member.pair.size)
        (then_map _ _ (then_map _ _ (then_map _ _ (λ p j l. rw (answer-choice C F n k f j l) (p j l))))
        (pair-minimal n k (choices C k) (choices-some C k) (valid_pair n k) (block_charge C (rule_of F) n k f) M i member.pair.mask member.pair.fixed
        (valid-from n k M i member.pair.size member.pair.clear) y member.inner)))

    pub answer-before : n ≤ 8
        → NotAfter F n k (answer_inverted C F n k f) (answer_mixed C F n k f) (answer_fixed C F n k f) (answer_choice C F n k f) (answer_coefficient C F n k f) v M i y c
    answer-before h =
        then-digits (base F) _ _ _ _ (charge-tie F n (answer_coefficient C F n k f) h) (charge-tie F n c h)
        (rw (← charge-cost F n (answer_coefficient C F n k f) h, ← charge-cost F n c h)
        (then-through _ _ _ (answer_inverted C F n k f) (rival 0) v by-charge (rival-step C n k v M i y member f c gives (rule_of F) (rule-some F))))

module _ (C : Class) (F : Family) (n k : ℕ) (f : ℕ → ℕ) (hn : n ≤ 8) (hk : k ≤ n) (bytes : (p : ℕ) → p < 2 ^ n → f p < 2 ^ 8) where
  pub answer-is : IsAnswer C F n k f (answer_inverted C F n k f) (answer_mixed C F n k f) (answer_fixed C F n k f) (answer_choice C F n k f) (answer_coefficient C F n k f)
  answer-is =
      record {
        member = answer-member C F n k f hk;
        gives = answer-gives C F n k f hk;
        first = λ v M i x c member gives. answer-before C F n k f hk bytes v M i x c member gives hn;
      }

-- ---- it is the only one

-- two answers are one: the same mask, M and i, chosen of blocks and coefficients of terms
pub answers-same : (C : Class) (F : Family) (n k : ℕ) (f : ℕ → ℕ) (v M i : ℕ) (x c : ℕ → ℕ) (v' M' i' : ℕ) (x' c' : ℕ → ℕ)
    → IsAnswer C F n k f v M i x c → IsAnswer C F n k f v' M' i' x' c'
    → (v ≡ v') × (M ≡ M') × (i ≡ i') × ((j : ℕ) → j < 2 ^ (n - k) → x j ≡ x' j) × ((t : ℕ) → t < 2 ^ n → c t ≡ c' t)
answers-same C F n k f v M i x c v' M' i' x' c' a b =
    let byCost = then-antisym _ _ (a.first v' M' i' x' c' b.member b.gives) (b.first v M i x c a.member a.gives) in
    let byTie = then-antisym _ _ byCost.1 byCost.2 in
    let byMask = then-antisym v v' byTie.1 byTie.2 in
    let byM = then-antisym M M' byMask.1 byMask.2 in
    let byI = then-antisym i i' byM.1 byM.2 in
    let chosen : (j : ℕ) → j < 2 ^ (n - k) → x j ≡ x' j = λ j l. le_antisymm (byI.1 j l) (byI.2 j l) in (
      byMask.0,
      byM.0,
      byI.0,
      chosen,
      λ t h.
          sym (xor-cancel-r (c t) (constant v t))
          ∙ ap (λ (x : ℕ). bit_xor x (constant v t))
          (gives-unique C n k v M i x a.member f c a.gives t h
          ∙ ap₂ (λ (a b : ℕ). member_coefficient C n k f a b x t) byM.0 byI.0
          ∙ member-ext C n k f M' i' x x' t (chosen (block n M' t) (block-lt n k M' b.member.pair.size t))
          ∙ sym (gives-unique C n k v' M' i' x' b.member f c' b.gives t h)
          ∙ ap (λ (x : ℕ). bit_xor (c' t) (constant x t)) (sym byMask.0))
          ∙ xor-cancel-r (c' t) (constant v t),
    )

module _ (C : Class) (F : Family) (n k : ℕ) (f : ℕ → ℕ) (hn : n ≤ 8) (hk : k ≤ n) (bytes : (p : ℕ) → p < 2 ^ n → f p < 2 ^ 8) where
  pub answer-only : (v M i : ℕ) (x c : ℕ → ℕ) → IsAnswer C F n k f v M i x c
      → (v ≡ answer_inverted C F n k f) × (M ≡ answer_mixed C F n k f) × (i ≡ answer_fixed C F n k f)
      × ((j : ℕ) → j < 2 ^ (n - k) → x j ≡ answer_choice C F n k f j) × ((t : ℕ) → t < 2 ^ n → c t ≡ answer_coefficient C F n k f t)
  answer-only v M i x c a = answers-same C F n k f v M i x c _ _ _ _ _ a (answer-is C F n k f hn hk bytes)

  -- the constant of an answer is in its mask
  pub answer-constant : (v M i : ℕ) (x c : ℕ → ℕ) → IsAnswer C F n k f v M i x c → c 0 ≡ 0
  unfolding answer_coefficient without_constant
  answer-constant v M i x c a = (answer-only v M i x c a).4 0 (pow_pos n)

-- ---- nothing is cheaper

-- what comes first costs least
pub answer-cheapest : (C : Class) (F : Family) (n k : ℕ) (f : ℕ → ℕ) (v M i : ℕ) (x c : ℕ → ℕ) → IsAnswer C F n k f v M i x c
    → (v' M' i' : ℕ) (x' c' : ℕ → ℕ) → Member C n k M' i' x' → Gives n v' (polarity C n k M' i' x') c' f
    → NoDearer F (products n c) (literals n c) (products n c') (literals n c')
answer-cheapest C F n k f v M i x c a v' M' i' x' c' member gives =
    let before = a.first v' M' i' x' c' member gives in
    (then-le _ _ before, λ e. then-le _ _ (then-rest _ _ e before))

pub answer-minimal : (C : Class) (F : Family) (n k : ℕ) (f : ℕ → ℕ) → n ≤ 8 → k ≤ n → ((p : ℕ) → p < 2 ^ n → f p < 2 ^ 8)
    → Minimal C F n k f (answer_inverted C F n k f) (answer_mixed C F n k f) (answer_fixed C F n k f) (answer_choice C F n k f) (answer_coefficient C F n k f)
    (products n (answer_coefficient C F n k f)) (literals n (answer_coefficient C F n k f))
answer-minimal C F n k f hn hk bytes =
    let a = answer-is C F n k f hn hk bytes in
    record { answer = a; products_counted = refl; literals_counted = refl; cheapest = answer-cheapest C F n k f _ _ _ _ _ a }

-- ---- only the table's values at the points count

module _ (C : Class) (F : Family) (n k : ℕ) (f g : ℕ → ℕ) (e : (p : ℕ) → p < 2 ^ n → f p ≡ g p) where
  block_function-ext : (M i j : ℕ) → block_function n k f M i j ≡ block_function n k g M i j
  unfolding block_function
  block_function-ext M i j =
      fun_ext (λ s. ap (λ (h : ℕ → ℕ). coefficient (n - k) (gather n (outside n M) i) h j) (fun_ext (λ q. e (join n M q s) (join-lt n M q s))))

  pub block_charge-ext : (M i j x : ℕ) → block_charge C (rule_of F) n k f M i j x ≡ block_charge C (rule_of F) n k g M i j x
  unfolding block_charge
  block_charge-ext M i j x = rw (block_function-ext M i j)

  block_charges-ext : block_charge C (rule_of F) n k f ≡ block_charge C (rule_of F) n k g
  block_charges-ext = fun_ext (λ M. fun_ext (λ i. fun_ext (λ j. fun_ext (block_charge-ext M i j))))

  answer_pair-ext : answer_pair C F n k f ≡ answer_pair C F n k g
  unfolding answer_pair
  answer_pair-ext = ap (least_pair n k (choices C k) (valid_pair n k)) block_charges-ext

  answer_mixed-ext : answer_mixed C F n k f ≡ answer_mixed C F n k g
  unfolding answer_mixed
  answer_mixed-ext = rw answer_pair-ext

  answer_fixed-ext : answer_fixed C F n k f ≡ answer_fixed C F n k g
  unfolding answer_fixed
  answer_fixed-ext = rw answer_pair-ext

  answer_choice-ext : (j : ℕ) → answer_choice C F n k f j ≡ answer_choice C F n k g j
  unfolding answer_choice
  answer_choice-ext j =
      rw (answer_mixed-ext, answer_fixed-ext)
      (ap (λ (charge : ℕ → ℕ). only (ltb j (2 ^ (n - k))) (least_choice (choices C k) charge)) (fun_ext (block_charge-ext _ _ j)))

  expanded_coefficient-ext : (t : ℕ) → expanded_coefficient C F n k f t ≡ expanded_coefficient C F n k g t
  unfolding expanded_coefficient member_coefficient
  expanded_coefficient-ext t = rw (answer_mixed-ext, answer_fixed-ext) (simp (answer_choice-ext, block_function-ext))

  answer_inverted-ext : answer_inverted C F n k f ≡ answer_inverted C F n k g
  unfolding answer_inverted
  answer_inverted-ext = expanded_coefficient-ext 0

  answer_coefficient-ext : (t : ℕ) → answer_coefficient C F n k f t ≡ answer_coefficient C F n k g t
  unfolding answer_coefficient
  answer_coefficient-ext t = ap (λ (c : ℕ → ℕ). without_constant c t) (fun_ext expanded_coefficient-ext)

  pub answer-ext : (answer_inverted C F n k f ≡ answer_inverted C F n k g) × (answer_mixed C F n k f ≡ answer_mixed C F n k g) × (answer_fixed C F n k f ≡ answer_fixed C F n k g)
      × ((j : ℕ) → answer_choice C F n k f j ≡ answer_choice C F n k g j) × ((t : ℕ) → answer_coefficient C F n k f t ≡ answer_coefficient C F n k g t)
  answer-ext = (answer_inverted-ext, answer_mixed-ext, answer_fixed-ext, answer_choice-ext, answer_coefficient-ext)
