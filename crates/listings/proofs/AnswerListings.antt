-- There is one listing of the answer (`answer-listings-same`): a listing shows of the polarities what its lines show (`lines_same`), and as far as that there is
-- one answer.
use mathlib.Core.List.{List}
use mathlib.Core.Path.{◌≡◌, sym, ap, ap₂, ◌∙◌}
use Prim.Native.Nat.{ℕ, ◌+◌, ◌^◌, ◌<◌}
use native.Mathlib.Decide.{ℕ_discrete}
use lib.Bits.{bit_and}
use Rattle.numbers.specs.Bits.{bit}
use Rattle.numbers.specs.Nonzero.{if_nonzero}
use Rattle.numbers.proofs.Nonzero.{over_nonzero-ext}
use Rattle.numbers.proofs.Sums.{fold-ext}
use Rattle.expansions.specs.declared.families.Family.{Family}
use Rattle.expansions.specs.declared.kinds.Class.{Class}
use Rattle.expansions.specs.declared.kinds.Kind.{Kind}
use Rattle.expansions.specs.Costs.{counted, products, literals}
use Rattle.expansions.specs.Members.{shows}
use Rattle.expansions.specs.Answers.{IsClassAnswer}
use Rattle.expansions.specs.Kronecker.Letters.{literal_of}
use Rattle.expansions.specs.Kronecker.Costs.{kronecker_literals}
use Rattle.expansions.specs.Kronecker.Answers.{IsKroneckerAnswer}
use Rattle.expansions.proofs.Costs.{products-ext, literals-ext}
use Rattle.expansions.proofs.ClassAnswers.{shows-line, class-answers-same}
use Rattle.expansions.proofs.Kronecker.Costs.{term-literals-ext}
use Rattle.expansions.proofs.Kronecker.Answers.{kronecker-answers-same}
use Rattle.listings.specs.Listing.{cube, cube_line, cube_lines, form_fields, listing_with}
use Rattle.listings.specs.Kronecker.{letter_byte, letter_bytes, literal_byte, kronecker_cube, kronecker_line, kronecker_listing}
use Rattle.listings.specs.AnswerListing.{IsAnswerListing, mixed, kronecker}
use Rattle.listings.proofs.Characters.{descending-ext}
use Rattle.listings.proofs.Cubes.{cube-masked}

-- ---- the lines of products

-- cubes that are the same where there is a line, and the same coefficients
cube-lines-same : (m : ℕ) (x x' : ℕ → List ℕ) (c c' : ℕ → ℕ) (N : ℕ) → ((t : ℕ) → t < N → c t ≡ c' t)
    → ((t : ℕ) → t < N → (c t ≡ 0 → ⊥) → x t ≡ x' t) → cube_lines m x c N ≡ cube_lines m x' c' N
unfolding if_nonzero
cube-lines-same m x x' c c' N e same = over_nonzero-ext _ _ c c' N (λ t l. go t l (ℕ_discrete (c t) 0))
  where
    go : (t : ℕ) → t < N → Dec (c t ≡ 0) → if_nonzero (c t) (cube_line m (x t) (c t)) ≡ if_nonzero (c' t) (cube_line m (x' t) (c' t))
    go t l (yes z) = let z' : c' t ≡ 0 = sym (e t l) ∙ z in rw (z, z')
    go t l (no u) = ap₂ (λ (y : List ℕ) (d : ℕ). if_nonzero d (cube_line m y d)) (same t l u) (e t l)

-- terms that show the same
pub lines_same : (n m : ℕ) (w c w' c' : ℕ → ℕ) → ((t : ℕ) → t < 2 ^ n → shows w c t ≡ shows w' c' t) → ((t : ℕ) → t < 2 ^ n → c t ≡ c' t)
    → cube_lines m (λ t. cube n t (w t)) c (2 ^ n) ≡ cube_lines m (λ t. cube n t (w' t)) c' (2 ^ n)
lines_same n m w c w' c' shown e =
    cube-lines-same m _ _ c c' (2 ^ n) e
    (λ t l u.
    let same : bit_and t (w t) ≡ bit_and t (w' t) = sym (shows-line w c t u) ∙ shown t l ∙ shows-line w' c' t (λ z. u (e t l ∙ z)) in
    sym (cube-masked n t (w t)) ∙ ap (cube n t) same ∙ cube-masked n t (w' t))

-- ---- the answers' listings

class-listings-same : (C : Class) (F : Family) (n m k : ℕ) (f : ℕ → ℕ) (v M i : ℕ) (w c : ℕ → ℕ) (v' M' i' : ℕ) (w' c' : ℕ → ℕ)
    → IsClassAnswer C F n k f v M i w c → IsClassAnswer C F n k f v' M' i' w' c'
    → listing_with F (form_fields C n m k M i (products n c) (literals n c)) v n m w c
    ≡ listing_with F (form_fields C n m k M' i' (products n c') (literals n c')) v' n m w' c'
unfolding listing_with
class-listings-same C F n m k f v M i w c v' M' i' w' c' a b =
    let same = class-answers-same C F n k f v M i w c v' M' i' w' c' a b in
    rw (same.0, same.1, same.2, products-ext n c c' same.4, literals-ext n c c' same.4, lines_same n m w c w' c' same.3 same.4)

kronecker-listings-same : (n m : ℕ) (f a c b d : ℕ → ℕ) → IsKroneckerAnswer n f a c → IsKroneckerAnswer n f b d
    → kronecker_listing n m a c (products n c) (kronecker_literals n a c) ≡ kronecker_listing n m b d (products n d) (kronecker_literals n b d)
unfolding kronecker_listing kronecker_line letter_bytes kronecker_cube kronecker_literals
kronecker-listings-same n m f a c b d x y =
    let same = kronecker-answers-same n f a c b d x y in
    let letters = descending-ext n (λ i. letter_byte (a i)) (λ i. letter_byte (b i)) (λ i l. ap letter_byte (same.0 i l)) in
    let counts = fold-ext ◌+◌ (2 ^ n) _ _ (λ t l. ap₂ counted (same.1 t l) (term-literals-ext n a b t same.0)) in
    let lines = cube-lines-same m (kronecker_cube n a) (kronecker_cube n b) c d (2 ^ n) same.1
    (λ t l u. descending-ext n _ _ (λ i h. ap (λ (z : ℕ). literal_byte (literal_of z (bit i t))) (same.0 i h))) in
    rw (letters, products-ext n c d same.1, counts, lines)

pub answer-listings-same : (n m : ℕ) (F : Family) (f : ℕ → ℕ) (x : Kind) (s s' : List ℕ) → IsAnswerListing n m F f s x → IsAnswerListing n m F f s' x → s ≡ s'
answer-listings-same n m F f x s s' (mixed C k v M i w c a e) (mixed _ _ v' M' i' w' c' b e') =
    e ∙ class-listings-same C F n m k f v M i w c v' M' i' w' c' a b ∙ sym e'
answer-listings-same n m F f x s s' (kronecker l c a e) (kronecker l' c' b e') = e ∙ kronecker-listings-same n m f l c l' c' a b ∙ sym e'
