-- The block method, for any class: an expansion in the class is an expansion over the inputs outside M whose coefficients are the values of the blocks,
-- each an expansion over the inputs of M (`value-blocks`). So the member's coefficients exist (`member-expands`) and are the only ones
-- (`member-unique`), with no inverter; in document 01's class, on the term t those of one polarity, the term's own (`member-coefficient`).
use mathlib.Core.Path.{◌≡◌, refl, sym, ap, ap₂, ◌∙◌}
use mathlib.Core.Bool.{Bool, true, false, ◌&&◌, and_assoc}
use Prim.Native.Nat.{ℕ, zero, suc, ◌+◌, ◌-◌, ◌*◌, ◌/◌, ◌%◌, ◌^◌, ◌<◌}
use native.Mathlib.Omega.{arith}
use lib.Count.{ones_in, ones, ones_step, ones-le}
use lib.Arith.{lt-one, digits_div, digits_mod}
use lib.Bits.{bit_xor, differ, xor_comm, xor_zero_r}
use Rattle.numbers.specs.Sums.{xor_below}
use Rattle.numbers.specs.Bits.{inside}
use Rattle.algebra.specs.Terms.{holds, value}
use Rattle.numbers.specs.Tests.{only}
use Rattle.algebra.specs.Coefficients.{coefficient}
use Rattle.numbers.proofs.Xor.{low-lt, xor-half, xor_low, xor-digits, xor_assoc}
use Rattle.numbers.proofs.Sums.{fold-ext, xor-zero}
use Rattle.numbers.proofs.Bits.{covered, inside-step, inside-digits, inside-zero}
use Rattle.numbers.proofs.Tests.{only-and}
use Rattle.algebra.proofs.Value.{value-shown, value-ext, value-unique}
use Rattle.algebra.proofs.Coefficients.{value-coefficient, coefficient-unique, coefficient-lt}
use Rattle.expansions.specs.Split.{put_digit, gather, outside, join}
use Rattle.expansions.specs.declared.kinds.Class.{Class}
use Rattle.expansions.specs.Classes.{apart, place_polarity, place_coefficient}
use Rattle.expansions.specs.Members.{block, place, polarity, Member}
use Rattle.expansions.specs.Inner.Answer.{block_function, member_coefficient}
use Rattle.expansions.proofs.Classes.{place-over, place-gives, place-coefficient-lt}
use Rattle.expansions.proofs.Split.{outside-half, outside_low, ones-others, gather-lt, spread-zero, gather-join, gather-outside-join, join-gather, join-lt, sums}

-- ---- gathering keeps exclusive OR

put_digit-xor : (m x y b c : ℕ) → b < 2 → c < 2 → put_digit m (bit_xor x y) (differ b c) ≡ bit_xor (put_digit m x b) (put_digit m y c)
unfolding put_digit
put_digit-xor zero x y b c hb hc = refl
put_digit-xor (suc m) x y b c hb hc = sym (xor-digits x b (y * 2 + c) hb ∙ rw (digits_div y hc, digits_mod y hc))

pub gather-xor : (n M p w : ℕ) → gather n M (bit_xor p w) ≡ bit_xor (gather n M p) (gather n M w)
unfolding gather
gather-xor zero M p w = refl
gather-xor (suc n) M p w = rw (xor-half, xor_low, gather-xor n (M / 2) (p / 2) (w / 2)) (put_digit-xor (M % 2) _ _ (p % 2) (w % 2) (low-lt p) (low-lt w))

-- ---- a term's truth, by the inputs outside M and those in it

and-swap : (a b c : Bool) → (a && (b && c)) ≡ (b && (a && c))
and-swap true b c = refl
and-swap false true c = refl
and-swap false false c = refl

inside-digit : (s x b c : ℕ) → b < 2 → c < 2 → inside (s * 2 + b) (x * 2 + c) ≡ (covered b c && inside s x)
inside-digit s x b c hb hc = inside-digits s b (x * 2 + c) hb ∙ rw (digits_div x hc, digits_mod x hc)

inside-put : (m b c s x s' x' : ℕ) → m < 2 → b < 2 → c < 2
    → (covered b c && (inside s x && inside s' x')) ≡ (inside (put_digit (1 - m) s b) (put_digit (1 - m) x c) && inside (put_digit m s' b) (put_digit m x' c))
unfolding put_digit
inside-put zero b c s x s' x' hm hb hc = rw inside-digit (sym (and_assoc (covered b c) (inside s x) (inside s' x')))
inside-put (suc zero) b c s x s' x' hm hb hc = rw inside-digit (and-swap (covered b c) (inside s x) (inside s' x'))
inside-put (suc (suc m)) b c s x s' x' hm hb hc = absurd (omega arith)

inside-parts : (n M t x : ℕ) → t < 2 ^ n → inside t x ≡ (inside (block n M t) (block n M x) && inside (place n M t) (place n M x))
unfolding gather
inside-parts zero M t x h = rw (lt-one h) (simp inside-zero)
inside-parts (suc n) M t x h =
    inside-step t x ∙ ap (λ (y : Bool). covered (t % 2) (x % 2) && y) (inside-parts n (M / 2) (t / 2) (x / 2) (omega arith))
    ∙ rw (outside-half, outside_low) (inside-put (M % 2) (t % 2) (x % 2) _ _ _ _ (low-lt M) (low-lt t) (low-lt x))

pub holds_parts : (n M t w p : ℕ) → t < 2 ^ n
    → holds t w p ≡ (holds (block n M t) (block n M w) (block n M p) && holds (place n M t) (place n M w) (place n M p))
unfolding holds
holds_parts n M t w p h = inside-parts n M t (bit_xor p w) h ∙ rw (gather-xor n (outside n M) p w, gather-xor n M p w)

-- ---- a term's literals, outside M and in it

pub ones-digit : (x b : ℕ) → b < 2 → ones (x * 2 + b) ≡ b + ones x
ones-digit x b h = ones_step (x * 2 + b) ∙ rw (digits_div x h, digits_mod x h)

ones-put : (m b x y : ℕ) → m < 2 → b < 2 → b + (ones x + ones y) ≡ ones (put_digit (1 - m) x b) + ones (put_digit m y b)
unfolding put_digit
ones-put zero b x y hm hb = omega (arith, ones-digit x b hb)
ones-put (suc zero) b x y hm hb = omega (arith, ones-digit y b hb)
ones-put (suc (suc m)) b x y hm hb = absurd (omega arith)

pub ones-parts : (n M t : ℕ) → t < 2 ^ n → ones t ≡ ones (block n M t) + ones (place n M t)
unfolding gather
ones-parts zero M t h = ap ones (lt-one h) ∙ omega (arith, ones-le 0 0 (omega arith))
ones-parts (suc n) M t h =
    ones_step t ∙ ap (λ (x : ℕ). t % 2 + x) (ones-parts n (M / 2) (t / 2) (omega arith))
    ∙ rw (outside-half, outside_low) (ones-put (M % 2) (t % 2) _ _ (low-lt M) (low-lt t))

-- ---- the value of a member, by blocks

xor-only : (N : ℕ) (a : Bool) (g : ℕ → ℕ) → xor_below N (λ r. only a (g r)) ≡ only a (xor_below N g)
unfolding only
xor-only N true g = refl
xor-only N false g = xor-zero N

-- ---- blocks and places of a mask of k inputs

module _ (n k M : ℕ) (size : ones_in n M ≡ k) where
  others : ones_in n (outside n M) ≡ n - k
  others = ones-others n k M size

  pub block-lt : (t : ℕ) → block n M t < 2 ^ (n - k)
  block-lt t = rw others at (gather-lt n (outside n M) t)

  pub place-lt : (t : ℕ) → place n M t < 2 ^ k
  place-lt t = rw size at (gather-lt n M t)

  pub block-join : (j r : ℕ) → j < 2 ^ (n - k) → block n M (join n M j r) ≡ j
  block-join j r h = gather-outside-join n M j r (rw others h)

  pub place-join : (j r : ℕ) → r < 2 ^ k → place n M (join n M j r) ≡ r
  place-join j r h = gather-join n M j r (rw size h)

-- an expansion gives the table with no output inverted
abbrev pub Expands : (n : ℕ) → (w c f : ℕ → ℕ) → Type 0
Expands n w c f = (p : ℕ) → p < 2 ^ n → value n w c p ≡ f p

module _ (C : Class) (n k M i : ℕ) (x : ℕ → ℕ) (member : Member C n k M i x) where
  abbrev size : ones_in n M ≡ k
  size = member.pair.size

  -- the polarity of the term t in M, closed up
  abbrev inner : ℕ → ℕ
  inner t = place_polarity C k (x (block n M t)) (place n M t)

  polarity-join : (t : ℕ) → polarity C n k M i x t ≡ join n M (block n M i) (inner t)
  unfolding polarity join
  polarity-join t = omega (arith, rw (member.pair.clear, spread-zero n M) at (join-gather n M i member.pair.fixed))

  pub polarity-lt : (t : ℕ) → polarity C n k M i x t < 2 ^ n
  polarity-lt t = rw polarity-join (join-lt n M (block n M i) (inner t))

  pub polarity-outside : (t : ℕ) → block n M (polarity C n k M i x t) ≡ block n M i
  polarity-outside t = rw polarity-join (block-join n k M size (block n M i) (inner t) (block-lt n k M size i))

  pub polarity-inside : (t : ℕ) → place n M (polarity C n k M i x t) ≡ place_polarity C k (x (block n M t)) (place n M t)
  polarity-inside t =
      rw polarity-join
      (place-join n k M size (block n M i) (inner t) (place-over C k (x (block n M t)) (place n M t) (member.inner (block n M t) (block-lt n k M size t))))

  pub value-blocks : (c : ℕ → ℕ) (p : ℕ) → value n (polarity C n k M i x) c p
      ≡ value (n - k) (λ j. block n M i) (λ j. value k (place_polarity C k (x j)) (λ r. c (join n M j r)) (place n M p)) (block n M p)
  unfolding value
  value-blocks c p =
      fold-ext bit_xor (2 ^ n) _ (λ t. summand (block n M t) (place n M t))
      (λ t h. ap₂ only (holds_parts n M t (polarity C n k M i x t) p h ∙ rw (polarity-outside, polarity-inside)) (ap c (sym (join-gather n M t h))))
      ∙ sums bit_xor xor_assoc xor_comm xor_zero_r n M summand
      ∙ rw (others n k M size, size)
      (fold-ext bit_xor (2 ^ (n - k)) _ _
      (λ j l. simp only-and (xor-only (2 ^ k) (holds j (block n M i) (block n M p)) (λ r. only (holds r (place_polarity C k (x j) r) (place n M p)) (c (join n M j r))))))
    where
      summand : ℕ → ℕ → ℕ
      summand j r = only (holds j (block n M i) (block n M p) && holds r (place_polarity C k (x j) r) (place n M p)) (c (join n M j r))

  -- ---- the member's coefficients

  pub member-join : (f : ℕ → ℕ) (j r : ℕ) → j < 2 ^ (n - k) → r < 2 ^ k
      → member_coefficient C n k f M i x (join n M j r) ≡ place_coefficient C k (x j) (block_function n k f M i j) r
  unfolding member_coefficient
  member-join f j r hj hr = rw (block-join n k M size j r hj, place-join n k M size j r hr)

  -- they give the table
  pub member-expands : (f : ℕ → ℕ) → Expands n (polarity C n k M i x) (member_coefficient C n k f M i x) f
  unfolding block_function
  member-expands f p h =
      value-blocks (member_coefficient C n k f M i x) p
      ∙ value-ext (n - k) _ _ (coefficient (n - k) (block n M i) across) (block n M p) (λ j l. in_block j l)
      ∙ value-coefficient (n - k) (block n M i) across (block-lt n k M size i) (block n M p) (block-lt n k M size p)
      ∙ ap f (join-gather n M p h)
    where
      across : ℕ → ℕ
      across q = f (join n M q (place n M p))

      in_block : (j : ℕ) → j < 2 ^ (n - k)
          → value k (place_polarity C k (x j)) (λ r. member_coefficient C n k f M i x (join n M j r)) (place n M p) ≡ coefficient (n - k) (block n M i) across j
      in_block j l =
          value-ext k (place_polarity C k (x j)) _ (place_coefficient C k (x j) (block_function n k f M i j)) (place n M p) (λ r hr. member-join f j r l hr)
          ∙ place-gives C k (x j) (block_function n k f M i j) (member.inner j l) (place n M p) (place-lt n k M size p)

  -- and no others do
  pub member-unique : (f c : ℕ → ℕ) → Expands n (polarity C n k M i x) c f → (t : ℕ) → t < 2 ^ n → c t ≡ member_coefficient C n k f M i x t
  member-unique f c g =
      value-unique n (polarity C n k M i x) c (member_coefficient C n k f M i x) (λ p h. g p h ∙ sym (member-expands f p h))

-- bits m and above stay 0
module _ (m n k M i : ℕ) (f : ℕ → ℕ) (outputs : (p : ℕ) → p < 2 ^ n → f p < 2 ^ m) where
  pub block_function-lt : ones_in n M ≡ k → (j s : ℕ) → block_function n k f M i j s < 2 ^ m
  unfolding block_function
  block_function-lt size j s =
      coefficient-lt m (n - k) (block n M i) (λ q. f (join n M q s)) (rw (ones-others n k M size) at (gather-lt n (outside n M) i))
      (λ q l. outputs (join n M q s) (join-lt n M q s)) j

  pub member-lt : (C : Class) (x : ℕ → ℕ) → Member C n k M i x → (t : ℕ) → member_coefficient C n k f M i x t < 2 ^ m
  unfolding member_coefficient
  member-lt C x member t =
      place-coefficient-lt m C k (x (block n M t)) (block_function n k f M i (block n M t)) (member.inner (block n M t) (block-lt n k M member.pair.size t))
      (λ r l. block_function-lt member.pair.size (block n M t) r) (place n M t) (place-lt n k M member.pair.size t)

-- only the choice of the term's own block counts
pub member-ext : (C : Class) (n k : ℕ) (f : ℕ → ℕ) (M i : ℕ) (x y : ℕ → ℕ) (t : ℕ) → x (block n M t) ≡ y (block n M t)
    → member_coefficient C n k f M i x t ≡ member_coefficient C n k f M i y t
unfolding member_coefficient
member-ext C n k f M i x y t e = ap (λ (z : ℕ). place_coefficient C k z (block_function n k f M i (block n M t)) (place n M t)) e

-- where the terms of a block do not choose apart they are, on the term t, the coefficients of the table in the polarity of t
pub member-coefficient : (C : Class) (n k M i : ℕ) (x f : ℕ → ℕ) → apart C k ≡ false → Member C n k M i x → (t : ℕ) → t < 2 ^ n
    → member_coefficient C n k f M i x t ≡ coefficient n (polarity C n k M i x t) f t
unfolding polarity
member-coefficient C n k M i x f e member t h =
    member-ext C n k f M i x same t refl
    ∙ coefficient-unique n (polarity C n k M i x t) f (member_coefficient C n k f M i same) (polarity-lt C n k M i x member t)
    (λ p l. value-shown n _ _ _ (λ s b u. rw e) p ∙ member-expands C n k M i same alike f p l) t h
  where
    -- the choice of t's block in every block
    same : ℕ → ℕ
    same j = x (block n M t)

    alike : Member C n k M i same
    alike = record { pair = member.pair; inner = λ j l. member.inner (block n M t) (block-lt n k M member.pair.size t) }
