-- The places of the record. From the block functions of the answer's M and i come the choices of the answer's blocks (`choices-answer`), and
-- from these the coefficients of all its terms (`coefficients-expanded`); of these the constant is the mask (`without-first`).
use mathlib.Core.Path.{◌≡◌, refl, ap, ◌∙◌}
use mathlib.Core.Bool.{cond}
use mathlib.Core.List.{List}
use Prim.Native.Nat.{ℕ, suc, ◌-◌, ◌^◌, ◌<◌}
use native.Mathlib.Omega.{arith}
use lib.Dec.{ltb}
use lib.ListN.{set}
use lib.Pow.{pow_mono}
use Rattle.numbers.specs.Bytes.{at, tabulate}
use Rattle.numbers.specs.Tests.{only}
use Rattle.numbers.proofs.Bytes.{tabulate-ext}
use Rattle.expansions.specs.Classes.{apart}
use Rattle.expansions.specs.Members.{block, place, Member}
use Rattle.expansions.specs.Split.{gather, outside}
use Rattle.expansions.specs.Inner.Answer.{member_coefficient, answer_mixed, answer_fixed, answer_choice, expanded_coefficient, without_constant}
use Rattle.lanes.specs.Inner.Lanes.{block_lanes}
use Rattle.lanes.specs.Inner.Sizes.{MixedSet}
use Rattle.lanes.specs.Inner.Terms.{coefficient_at}
use Rattle.search.specs.Inner.Search.{choice_at}
use Rattle.lanes.specs.declared.sizes.Sizes.{Sizes}
use Rattle.numbers.proofs.Tables.{at-whole}
use Rattle.expansions.proofs.Blocks.{block-lt, place-lt}
use Rattle.numbers.proofs.Tests.{only-ext}
use Rattle.expansions.proofs.Answers.{answer-member, answer-choice-lt, answer-choice-zero}
use Rattle.expansions.proofs.BlockTable.{choices-held}
use Rattle.lanes.proofs.expand.Room.{few}
use Rattle.lanes.proofs.expand.Held.{held-coefficient}
use Rattle.charges.proofs.Held.{held-choice}

module _ (s : Sizes) (f : ℕ → ℕ) (lanes : List ℕ) (outputs : (p : ℕ) → p < 2 ^ s.n → f p < 2 ^ 8)
    (held : lanes ≡ block_lanes s.n s.k (answer_mixed s.class s.family s.n s.k f)
    (gather s.n (outside s.n (answer_mixed s.class s.family s.n s.k f)) (answer_fixed s.class s.family s.n s.k f)) f) where
  member : Member s.class s.n s.k (answer_mixed s.class s.family s.n s.k f) (answer_fixed s.class s.family s.n s.k f)
      (answer_choice s.class s.family s.n s.k f)
  member = answer-member s.class s.family s.n s.k f s.within

  mixed-set : MixedSet s (answer_mixed s.class s.family s.n s.k f)
  mixed-set = record { mask = member.pair.mask; size = member.pair.size }

  -- ---- one place

  choice_at-answer : (j : ℕ) → choice_at s.class s.family s.n s.k (at lanes) j ≡ answer_choice s.class s.family s.n s.k f j
  unfolding choice_at answer_choice
  choice_at-answer j =
      only-ext j (2 ^ (s.n - s.k)) _ _
      (held-choice s (answer_mixed s.class s.family s.n s.k f) (answer_fixed s.class s.family s.n s.k f) f lanes outputs mixed-set held j)

  coefficient_at-expanded : (t : ℕ)
      → coefficient_at s.class s.n s.k (answer_mixed s.class s.family s.n s.k f) (at lanes) (answer_choice s.class s.family s.n s.k f) t
      ≡ expanded_coefficient s.class s.family s.n s.k f t
  unfolding coefficient_at expanded_coefficient member_coefficient
  coefficient_at-expanded t =
      let M : ℕ = answer_mixed s.class s.family s.n s.k f in
      let i : ℕ = answer_fixed s.class s.family s.n s.k f in
      let x : ℕ → ℕ = answer_choice s.class s.family s.n s.k f in
      let j : ℕ = block s.n M t in
      let j-lt : j < 2 ^ (s.n - s.k) = block-lt s.n s.k M member.pair.size t in
      ap (only (ltb t (2 ^ s.n)))
      (held-coefficient s M i f lanes outputs mixed-set held j (place s.n M t) (x j) j-lt (place-lt s.n s.k M member.pair.size t) (member.inner j j-lt))

  -- ---- all places

  pub choices-answer : tabulate 256 (choice_at s.class s.family s.n s.k (at lanes)) ≡ tabulate 256 (answer_choice s.class s.family s.n s.k f)
  choices-answer = tabulate-ext 256 _ _ (λ j l. choice_at-answer j)

  -- the choices, read from the array that holds them
  chosen-answer : at (tabulate 256 (choice_at s.class s.family s.n s.k (at lanes))) ≡ answer_choice s.class s.family s.n s.k f
  chosen-answer =
      ap at choices-answer
      ∙ at-whole 256 (answer_choice s.class s.family s.n s.k f)
      (λ j l. answer-choice-zero s.class s.family s.n s.k f j (omega (arith, pow_mono {i = s.n - s.k} {j = 8} (omega (arith, s.inputs)))))

  pub chosen-lt : (j : ℕ) → at (tabulate 256 (choice_at s.class s.family s.n s.k (at lanes))) j < cond (apart s.class s.k) 16 8
  chosen-lt j =
      rw (ap (λ (x : ℕ → ℕ). x j) chosen-answer)
      (choices-held s.class s.k _ (few s) (answer-choice-lt s.class s.family s.n s.k f s.within j))

  pub coefficients-expanded :
      tabulate 256 (coefficient_at s.class s.n s.k (answer_mixed s.class s.family s.n s.k f) (at lanes)
      (at (tabulate 256 (choice_at s.class s.family s.n s.k (at lanes)))))
      ≡ tabulate 256 (expanded_coefficient s.class s.family s.n s.k f)
  coefficients-expanded = rw chosen-answer (tabulate-ext 256 _ _ (λ t l. coefficient_at-expanded t))

-- ---- the constant

-- the first place cleared
first-cleared : (N : ℕ) (g : ℕ → ℕ) → set (tabulate (suc N) g) 0 0 ≡ tabulate (suc N) (without_constant g)
unfolding tabulate without_constant
first-cleared N g = refl

pub without-first : (g : ℕ → ℕ) → set (tabulate 256 g) 0 0 ≡ tabulate 256 (without_constant g)
without-first g = first-cleared 255 g
