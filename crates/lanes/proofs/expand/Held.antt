-- Where `lanes` holds the block functions of M and i, its bytes are the outputs of the blocks' functions (`held-plane`), and the coefficients that the
-- code reads from them are the blocks' (`held-coefficient`).
use mathlib.Core.Path.{◌≡◌, ap, ap₂, ◌∙◌}
use mathlib.Core.List.{List}
use Prim.Native.Nat.{ℕ, ◌+◌, ◌-◌, ◌*◌, ◌/◌, ◌%◌, ◌^◌, ◌<◌}
use native.Mathlib.Omega.{arith}
use lib.Arith.{digits_div, digits_mod}
use lib.Count.{ones_in}
use lib.ListN.{length}
use Rattle.numbers.specs.Bits.{bit}
use Rattle.numbers.specs.Bytes.{at}
use Rattle.numbers.proofs.Bytes.{length-tabulate, at-tabulate}
use Rattle.numbers.proofs.Pack.{pack-ext}
use Rattle.algebra.specs.Coefficients.{coefficient}
use Rattle.expansions.specs.Inner.Answer.{block_function}
use Rattle.expansions.specs.Classes.{choices, place_coefficient}
use Rattle.expansions.specs.BlockTable.{choice_entry}
use Rattle.expansions.specs.Split.{gather, outside, join}
use Rattle.expansions.specs.Inner.Planes.{plane}
use Rattle.expansions.proofs.BlockTable.{plane-coefficient, entry-outputs}
use Rattle.expansions.proofs.Blocks.{block_function-lt}
use Rattle.expansions.proofs.Split.{ones-others, gather-lt}
use Rattle.lanes.specs.Inner.Lanes.{places_byte, lanes_under, block_lanes}
use Rattle.lanes.specs.Inner.Sizes.{MixedSet}
use Rattle.lanes.specs.Inner.Terms.{coefficient_in}
use Rattle.lanes.specs.declared.sizes.Sizes.{Sizes}

-- byte q * 8 + o of functions side by side is the function o, at q
pub lanes_at : (r w : ℕ) (f : ℕ → ℕ → ℕ) (o q : ℕ) → o < 8 → q < 2 ^ r → at (lanes_under r w f) (q * 8 + o) ≡ coefficient r w (f o) q
unfolding lanes_under
lanes_at r w f o q ho hq =
    at-tabulate (8 * 2 ^ r) (λ x. coefficient r w (f (x % 8)) (x / 8)) (q * 8 + o) (omega arith)
    ∙ ap₂ (λ (a b : ℕ). coefficient r w (f a) b) (digits_mod q ho) (digits_div q ho)

pub lanes-long : (r w : ℕ) (f : ℕ → ℕ → ℕ) → length (lanes_under r w f) ≡ 8 * 2 ^ r
unfolding lanes_under
lanes-long r w f = length-tabulate (8 * 2 ^ r) _

-- the fixed polarity, at the inputs outside the mixed set
pub fixed-lt : (n k M i : ℕ) → ones_in n M ≡ k → gather n (outside n M) i < 2 ^ (n - k)
fixed-lt n k M i e = rw (← (ones-others n k M e)) (gather-lt n (outside n M) i)

-- ---- the block functions of a pair

module _ (s : Sizes) (M i : ℕ) (f : ℕ → ℕ) (lanes : List ℕ) (outputs : (p : ℕ) → p < 2 ^ s.n → f p < 2 ^ 8)
    (set : MixedSet s M) (held : lanes ≡ block_lanes s.n s.k M (gather s.n (outside s.n M) i) f) where
  pub held-plane : (o j : ℕ) → o < 8 → j < 2 ^ (s.n - s.k) → at lanes (j * 8 + o) ≡ plane s.k (block_function s.n s.k f M i j) o
  unfolding places_byte block_function
  held-plane o j ho hj =
      ap (λ (x : List ℕ). at x (j * 8 + o)) held
      ∙ lanes_at (s.n - s.k) (gather s.n (outside s.n M) i) (places_byte s.n s.k M f) o j ho hj
      ∙ plane-coefficient s.k (s.n - s.k) (gather s.n (outside s.n M) i) (λ q p. f (join s.n M q p)) o j (fixed-lt s.n s.k M i set.size)

  pub held-coefficient : (j r x : ℕ) → j < 2 ^ (s.n - s.k) → r < 2 ^ s.k → x < choices s.class s.k
      → coefficient_in s.class s.k (at lanes) j r x ≡ place_coefficient s.class s.k x (block_function s.n s.k f M i j) r
  unfolding coefficient_in
  held-coefficient j r x hj hr hx =
      pack-ext 8 _ _ (λ o l. ap (λ (g : ℕ). bit r (choice_entry s.class s.k g x)) (held-plane o j l hj))
      ∙ entry-outputs 8 s.class s.k x (block_function s.n s.k f M i j) s.mixed hx
      (λ p l. block_function-lt 8 s.n s.k M i f outputs set.size j p) r hr
