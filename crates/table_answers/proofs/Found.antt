-- What an answer says of the design it is for, by the kind of k (`mixed-found`, `kronecker-found`).
use mathlib.Core.Bool.{Bool, true, false, false≢true}
use mathlib.Core.List.{List}
use mathlib.Core.Path.{◌≡◌, refl, sym, ap, ◌∙◌}
use Prim.Native.Nat.{ℕ}
use Rattle.numbers.specs.Bytes.{at}
use Rattle.expansions.specs.declared.kinds.Kind.{Kind}
use Rattle.expansions.specs.declared.kinds.Kind.TheVariants as kind
use Rattle.search.specs.declared.expansion.Expansion.{Expansion}
use Rattle.search.specs.Inner.Answer.{answer_expansion}
use Rattle.kronecker.specs.declared.expansion.KroneckerExpansion.{KroneckerExpansion}
use Rattle.kronecker.specs.Inner.Answer.{answer_kronecker}
use Rattle.table_texts.specs.declared.sizes.Sizes.{Sizes}
use Rattle.table_texts.specs.declared.sizes.Design.{Design}
use Rattle.table_texts.specs.Design.{DesignSized, mixed_design, kronecker_design}
use Rattle.table_texts.proofs.Design.{mixed-design, kronecker-design}
use Rattle.table_answers.specs.declared.answers.Answer.{Answer}
use Rattle.table_answers.specs.declared.answers.Answer.TheVariants.{Mixed, Kronecker}
use Rattle.table_answers.specs.Answers.{kind_answer, answer_for}

is_mixed : Answer → Bool
is_mixed (Mixed z e) = true
is_mixed (Kronecker n m e) = false

module _ (d : Design) (table : List ℕ) where
  pub mixed-found : (z : Sizes) (e : Expansion) → answer_for d table ≡ Mixed z e
      → (d ≡ mixed_design z) × (e ≡ answer_expansion z.class z.family z.n z.k (at table))
  unfolding answer_for is_mixed
  mixed-found z e h = go d.kind refl h where
    go : (x : Kind) → d.kind ≡ x → kind_answer d.family d.n d.m x table ≡ Mixed z e
        → (d ≡ mixed_design z) × (e ≡ answer_expansion z.class z.family z.n z.k (at table))
    go (kind.Mixed C k) is found =
        let sizes : record { n = d.n; m = d.m; class = C; k = k; family = d.family } ≡ z = cc in
        let expansion : answer_expansion C d.family d.n k (at table) ≡ e = cc in (
          mixed-design d C k is ∙ ap mixed_design sizes,
          sym expansion ∙ ap (λ (x : Sizes). answer_expansion x.class x.family x.n x.k (at table)) sizes,
        )
    go kind.Kronecker is found = absurd (false≢true (ap is_mixed found))

  pub kronecker-found : (n m : ℕ) (e : KroneckerExpansion) → DesignSized d → answer_for d table ≡ Kronecker n m e
      → (d ≡ kronecker_design n m) × (e ≡ answer_kronecker n (at table))
  unfolding answer_for is_mixed
  kronecker-found n m e sized h = go d.kind refl h where
    go : (x : Kind) → d.kind ≡ x → kind_answer d.family d.n d.m x table ≡ Kronecker n m e
        → (d ≡ kronecker_design n m) × (e ≡ answer_kronecker n (at table))
    go (kind.Mixed C k) is found = absurd (false≢true (sym (ap is_mixed found)))
    go kind.Kronecker is found =
        let inputs : d.n ≡ n = cc in
        let outputs : d.m ≡ m = cc in
        let expansion : answer_kronecker d.n (at table) ≡ e = cc in
        (kronecker-design d is sized ∙ rw (inputs, outputs), sym expansion ∙ rw inputs)
