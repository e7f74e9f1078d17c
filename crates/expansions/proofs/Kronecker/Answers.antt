-- The answer among the Kronecker expansions: the function's result is the one that document 02's words ask for (`kronecker-answer-is`), and the
-- only one (`kronecker-answer-only`). So every other expansion of the 3 ^ n kinds that gives the table costs at least as much
-- (`kronecker-answer-cheapest`). Of the table only the points count (`answer-coefficient-ext`).
use mathlib.Core.Path.{◌≡◌, refl, sym, ap, ◌∙◌}
use mathlib.Core.Bool.{true}
use Prim.Native.Nat.{ℕ, ◌+◌, ◌*◌, ◌/◌, ◌%◌, ◌^◌, ◌≤◌, ◌<◌}
use native.Mathlib.Decide.{dec_lt}
use native.Mathlib.Omega.{arith}
use lib.Arith.{digits_div, digits_mod}
use lib.Pow.{pow_pos}
use Rattle.expansions.specs.declared.families.Family.TheVariants.{One}
use Rattle.expansions.specs.Costs.{products}
use Rattle.expansions.specs.Rules.{NoDearer}
use Rattle.expansions.specs.Least.{LeastThen, chosen}
use Rattle.expansions.proofs.Least.{then-le, then-rest, then_map, then-antisym, then-digits, IsFirst, chosen_is, first_least-ext}
use Rattle.numbers.proofs.Tests.{only_below, only_above, only-ext}
use Rattle.expansions.specs.Kronecker.Letters.{IsKind, KroneckerGives, letters_of, kind_number}
use Rattle.expansions.specs.Kronecker.Steps.{kronecker_coefficient}
use Rattle.expansions.specs.Kronecker.Costs.{kronecker_literals, kronecker_charge}
use Rattle.expansions.specs.Kronecker.Answers.{LettersNotAfter, KroneckerNotAfter, IsKroneckerAnswer, KroneckerMinimal}
use Rattle.expansions.specs.Inner.KroneckerAnswer.{kind_charge, answer_kind, answer_letters, answer_coefficient}
use Rattle.expansions.proofs.Kronecker.Letters.{three-pos, letter-lt, letters-zero, kind-lt, kind-of-letters, kind-ext, letters-order, letters-antisym}
use Rattle.expansions.proofs.Kronecker.Values.{kronecker-value-ext, kronecker-value-letters, kronecker-unique}
use Rattle.expansions.proofs.Kronecker.Steps.{kronecker-gives, kronecker-coefficient-ext, kronecker-coefficient-lt}
use Rattle.expansions.proofs.Kronecker.Costs.{kronecker-literals-lt, kronecker-charge-parts, kronecker-charge-ext, kronecker-charge-rival}

pub answer-coefficient : (n : ℕ) (f : ℕ → ℕ) (t : ℕ) → t < 2 ^ n → answer_coefficient n f t ≡ kronecker_coefficient n (answer_letters n f) f t
unfolding answer_coefficient
answer-coefficient n f t h = only_below t (2 ^ n) _ h

pub answer-coefficient-zero : (n : ℕ) (f : ℕ → ℕ) (t : ℕ) → 2 ^ n ≤ t → answer_coefficient n f t ≡ 0
unfolding answer_coefficient
answer-coefficient-zero n f t h = only_above t (2 ^ n) _ h

-- ---- the answer is a kind that gives the table

pub answer-first : (n : ℕ) (f : ℕ → ℕ) → IsFirst (3 ^ n) (λ x. true) (kind_charge n f) (answer_kind n f)
unfolding answer_kind
answer-first n f = chosen_is (λ x. true) (kind_charge n f) (3 ^ n) 0 (three-pos n) tt

pub answer-letter-lt : (n : ℕ) (f : ℕ → ℕ) (i : ℕ) → answer_letters n f i < 3
answer-letter-lt n f i = letter-lt (answer_kind n f) i

pub answer-kind : (n : ℕ) (f : ℕ → ℕ) → IsKind n (answer_letters n f)
answer-kind n f i l = answer-letter-lt n f i

pub answer-letters-zero : (n : ℕ) (f : ℕ → ℕ) (i : ℕ) → n ≤ i → answer_letters n f i ≡ 0
answer-letters-zero n f i l = letters-zero n (answer_kind n f) i (answer-first n f).below l

pub answer-gives : (n : ℕ) (f : ℕ → ℕ) → KroneckerGives n (answer_letters n f) (answer_coefficient n f) f
answer-gives n f p h = kronecker-value-ext n (answer_letters n f) _ _ p (answer-coefficient n f) ∙ kronecker-gives n (answer_letters n f) f p h

-- "bits m to 7 zero", and zero from 2 ^ n on
pub answer-coefficient-lt : (n : ℕ) (f : ℕ → ℕ) (m : ℕ) → ((p : ℕ) → p < 2 ^ n → f p < 2 ^ m) → (t : ℕ) → answer_coefficient n f t < 2 ^ m
answer-coefficient-lt n f m outputs t = go (dec_lt t (2 ^ n))
  where
    go : Dec (t < 2 ^ n) → answer_coefficient n f t < 2 ^ m
    go (yes l) = rw (answer-coefficient n f t l) (kronecker-coefficient-lt m n (answer_letters n f) f outputs t l)
    go (no l) = rw (answer-coefficient-zero n f t (omega arith)) (pow_pos m)

-- ---- and comes first

pub answer-charge : (n : ℕ) (f : ℕ → ℕ) → kronecker_charge n (answer_letters n f) (answer_coefficient n f) ≡ kind_charge n f (answer_kind n f)
unfolding kind_charge
answer-charge n f = kronecker-charge-ext n (answer_letters n f) (answer_letters n f) _ _ (λ i l. refl) (answer-coefficient n f)

module _ (n : ℕ) (f b d : ℕ → ℕ) (kind : IsKind n b) (gives : KroneckerGives n b d f) where
  by-charge : LeastThen (kronecker_charge n (answer_letters n f) (answer_coefficient n f)) (kronecker_charge n b d) (LettersNotAfter n (answer_letters n f) b)
  by-charge =
      rw (answer-charge n f, kronecker-charge-rival n f b d kind gives)
      (then_map _ _
      (λ o. letters-order n (answer_letters n f) b (answer-kind n f) kind (rw (kind-of-letters n (answer_kind n f) (answer-first n f).below) o))
      ((answer-first n f).first (kind_number n b) (kind-lt n b kind) tt))

  answer-before : n ≤ 8 → KroneckerNotAfter n (answer_letters n f) (answer_coefficient n f) b d
  answer-before h =
      then-digits 4096 _ _ _ _ (kronecker-literals-lt n (answer_letters n f) (answer_coefficient n f) h) (kronecker-literals-lt n b d h)
      (rw (← kronecker-charge-parts n (answer_letters n f) (answer_coefficient n f), ← kronecker-charge-parts n b d) by-charge)

pub kronecker-answer-is : (n : ℕ) (f : ℕ → ℕ) → n ≤ 8 → IsKroneckerAnswer n f (answer_letters n f) (answer_coefficient n f)
kronecker-answer-is n f h =
    record { kind = answer-kind n f; gives = answer-gives n f; first = λ b d kind gives. answer-before n f b d kind gives h }

-- ---- its counts, from the charge of its kind

module _ (n : ℕ) (f : ℕ → ℕ) (h : n ≤ 8) where
  answer-parts : kind_charge n f (answer_kind n f) ≡ products n (answer_coefficient n f) * 4096 + kronecker_literals n (answer_letters n f) (answer_coefficient n f)
  answer-parts = sym (answer-charge n f) ∙ kronecker-charge-parts n (answer_letters n f) (answer_coefficient n f)

  pub answer-products : kind_charge n f (answer_kind n f) / 4096 ≡ products n (answer_coefficient n f)
  answer-products =
      ap (λ (x : ℕ). x / 4096) answer-parts
      ∙ digits_div (products n (answer_coefficient n f)) (kronecker-literals-lt n (answer_letters n f) (answer_coefficient n f) h)

  pub answer-literals : kind_charge n f (answer_kind n f) % 4096 ≡ kronecker_literals n (answer_letters n f) (answer_coefficient n f)
  answer-literals =
      ap (λ (x : ℕ). x % 4096) answer-parts
      ∙ digits_mod (products n (answer_coefficient n f)) (kronecker-literals-lt n (answer_letters n f) (answer_coefficient n f) h)

-- ---- it is the only one

pub kronecker-answers-same : (n : ℕ) (f a c b d : ℕ → ℕ) → IsKroneckerAnswer n f a c → IsKroneckerAnswer n f b d
    → ((i : ℕ) → i < n → a i ≡ b i) × ((t : ℕ) → t < 2 ^ n → c t ≡ d t)
kronecker-answers-same n f a c b d x y =
    let byProducts = then-antisym (products n c) (products n d) (x.first b d y.kind y.gives) (y.first a c x.kind x.gives) in
    let byLiterals = then-antisym (kronecker_literals n a c) (kronecker_literals n b d) byProducts.1 byProducts.2 in
    let same : (i : ℕ) → i < n → a i ≡ b i = letters-antisym n a b byLiterals.1 byLiterals.2 in (
      same,
      kronecker-unique n a c d (λ p l. x.gives p l ∙ sym (y.gives p l) ∙ sym (kronecker-value-letters n a b d p same)),
    )

pub kronecker-answer-only : (n : ℕ) (f letters c : ℕ → ℕ) → n ≤ 8 → IsKroneckerAnswer n f letters c
    → (kind_number n letters ≡ answer_kind n f) × ((i : ℕ) → i < n → letters i ≡ answer_letters n f i) × ((t : ℕ) → t < 2 ^ n → c t ≡ answer_coefficient n f t)
kronecker-answer-only n f letters c h a =
    let same = kronecker-answers-same n f letters c (answer_letters n f) (answer_coefficient n f) a (kronecker-answer-is n f h) in (
      kind-ext n letters (answer_letters n f) same.0 ∙ kind-of-letters n (answer_kind n f) (answer-first n f).below,
      same.0,
      same.1,
    )

-- ---- nothing is cheaper

pub kronecker-answer-cheapest : (n : ℕ) (f letters c : ℕ → ℕ) → IsKroneckerAnswer n f letters c → (b d : ℕ → ℕ) → IsKind n b → KroneckerGives n b d f
    → NoDearer One (products n c) (kronecker_literals n letters c) (products n d) (kronecker_literals n b d)
kronecker-answer-cheapest n f letters c a b d kind gives =
    let before = a.first b d kind gives in
    (then-le _ _ before, λ e. then-le _ _ (then-rest _ _ e before))

pub kronecker-answer-minimal : (n : ℕ) (f : ℕ → ℕ) → n ≤ 8
    → KroneckerMinimal n f (answer_letters n f) (answer_coefficient n f) (products n (answer_coefficient n f))
    (kronecker_literals n (answer_letters n f) (answer_coefficient n f))
kronecker-answer-minimal n f h =
    let a = kronecker-answer-is n f h in
    record { answer = a; products_counted = refl; literals_counted = refl; cheapest = kronecker-answer-cheapest n f _ _ a }

-- ---- only the table's values at the points count

module _ (n : ℕ) (f g : ℕ → ℕ) (e : (p : ℕ) → p < 2 ^ n → f p ≡ g p) where
  kind-charge-ext : (x : ℕ) → kind_charge n f x ≡ kind_charge n g x
  unfolding kind_charge
  kind-charge-ext x = kronecker-charge-ext n (letters_of x) (letters_of x) _ _ (λ i l. refl) (kronecker-coefficient-ext n (letters_of x) f g e)

  pub answer-kind-ext : answer_kind n f ≡ answer_kind n g
  unfolding answer_kind
  answer-kind-ext = ap chosen (first_least-ext (3 ^ n) (λ x. true) (kind_charge n f) (kind_charge n g) (λ x l. kind-charge-ext x))

  pub answer-coefficient-ext : (t : ℕ) → answer_coefficient n f t ≡ answer_coefficient n g t
  unfolding answer_coefficient
  answer-coefficient-ext t =
      only-ext t (2 ^ n) _ _
      (λ h. ap (λ (x : ℕ). kronecker_coefficient n (letters_of x) f t) answer-kind-ext ∙ kronecker-coefficient-ext n (answer_letters n g) f g e t h)
