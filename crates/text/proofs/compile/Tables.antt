-- A table that was read, minimised and written: the answer can be written (`mixed-listable`, `kind-listable`), and what the writer leaves is what the text
-- call owes (`compiled-answer`, `compiled-bytes`).
use mathlib.Core.Path.{◌≡◌, refl, sym, ap, subst, ◌∙◌}
use mathlib.Core.Bool.{Bool, true, false, cond}
use mathlib.Core.List.{List}
use Prim.Native.Nat.{ℕ}
use lib.Dec.{leb}
use lib.ListN.{length}
use Rattle.std.specs.Prelude.{Result, Ok, Err}
use Rattle.std.specs.Result.{IsErrAnd}
use Rattle.numbers.specs.Bytes.{at}
use Rattle.numbers.specs.declared.refusals.Refusal.{Refusal}
use Rattle.numbers.specs.declared.refusals.Refused.{Refused}
use Rattle.numbers.specs.Refusals.{TableSized, Sized, declined}
use Rattle.expansions.specs.declared.kinds.Class.{Class}
use Rattle.expansions.specs.declared.families.Family.{Family}
use Rattle.expansions.specs.Classes.{most_mixed}
use Rattle.search.specs.declared.expansion.Expansion.{Expansion}
use Rattle.search.specs.Inner.Answer.{answer_expansion}
use Rattle.search.proofs.expansion.Answer.{answer_expansion-is}
use Rattle.kronecker.specs.declared.expansion.KroneckerExpansion.{KroneckerExpansion}
use Rattle.kronecker.specs.Inner.Answer.{answer_kronecker}
use Rattle.kronecker.proofs.expansion.Answer.{answer_kronecker-is}
use Rattle.table_texts.specs.declared.sizes.Sizes.{Sizes}
use Rattle.table_texts.specs.declared.sizes.Design.{Design}
use Rattle.table_texts.specs.Design.{mixed_design, kronecker_design}
use Rattle.table_texts.specs.Accepted.{Table, Accepted}
use Rattle.table_texts.specs.Inner.Reading.{given}
use Rattle.table_texts.proofs.Design.{table-sized, mixed-sized}
use Rattle.table_answers.specs.declared.answers.Answer.TheVariants.{Mixed, Kronecker}
use Rattle.table_answers.specs.Answers.{answer_for}
use Rattle.table_answers.proofs.Searched.{table-bytes}
use Rattle.table_answers.proofs.Found.{mixed-found, kronecker-found}
use Rattle.listings.specs.Listing.{listing}
use Rattle.listings.specs.Inner.Listable.{Listable}
use Rattle.listings.proofs.ListedAnswers.{answer-listable}
use Rattle.listing_writing.specs.Write.{record_listing, WriteListing, KroneckerListable}
use Rattle.text.specs.Inner.Compiled.{answer_listing, compiled, buffer_after}

module _ (n m : ℕ) (table : List ℕ) (s : TableSized n m) (t : Table n m table) where
  pub mixed-listable : (C : Class) (F : Family) (k : ℕ) → Sized n m (most_mixed C) k → Listable n m (answer_expansion C F n k (at table))
  mixed-listable C F k z =
      answer-listable C F n m k _ (at table) s.inputs.1 s.outputs.1 z.mixed.0
      (answer_expansion-is C F n k (at table) s.inputs.1 z.mixed.1 (table-bytes n m table s t))

  pub kind-listable : KroneckerListable n m (answer_kronecker n (at table))
  kind-listable =
      record {
        inputs = s.inputs.1;
        outputs = s.outputs.1;
        counted = (answer_kronecker-is n (at table) s.inputs.1).products_counted;
      }

pub written_as : {x y before after : List ℕ} {r : Result ℕ Refusal} → x ≡ y → WriteListing x before r after → WriteListing y before r after
written_as {x} {y} {before} {after} {r} e w = subst (λ (v : List ℕ). WriteListing v before r after) e w

-- an answer for a design can be written, and its listing is the one of the answer
module _ (d : Design) (table : List ℕ) (a : Accepted d table) where
  pub mixed-written : (z : Sizes) (e : Expansion) → answer_for d table ≡ Mixed z e
      → Listable z.n z.m e × (listing z.class z.family z.n z.m z.k e ≡ answer_listing d table)
  unfolding answer_listing
  mixed-written z e h =
      let found = mixed-found d table z e h in
      let s : Accepted (mixed_design z) table = subst (λ (x : Design). Accepted x table) found.0 a in
      let sized = mixed-sized (mixed_design z) z.class z.k refl s.sized in (
        subst (Listable z.n z.m) (sym found.1) (mixed-listable z.n z.m table (table-sized (mixed_design z) s.sized) s.table z.class z.family z.k sized),
        ap (λ (x : Expansion). listing z.class z.family z.n z.m z.k x) found.1
            ∙ ap (λ (x : Design). answer_listing x table) (sym found.0),
      )

  pub kind-written : (n m : ℕ) (e : KroneckerExpansion) → answer_for d table ≡ Kronecker n m e
      → KroneckerListable n m e × (record_listing n m e ≡ answer_listing d table)
  unfolding answer_listing
  kind-written n m e h =
      let found = kronecker-found d table n m e a.sized h in
      let s : Accepted (kronecker_design n m) table = subst (λ (x : Design). Accepted x table) found.0 a in (
        subst (KroneckerListable n m) (sym found.1) (kind-listable n m table (table-sized (kronecker_design n m) s.sized) s.table),
        ap (λ (x : KroneckerExpansion). record_listing n m x) found.1 ∙ ap (λ (x : Design). answer_listing x table) (sym found.0),
      )

  -- of any record that is the answer's

  pub mixed-listed : (z : Sizes) (e x : Expansion) → answer_for d table ≡ Mixed z e → x ≡ e → Listable z.n z.m x
  mixed-listed z e x h same = subst (Listable z.n z.m) (sym same) (mixed-written z e h).0

  pub mixed-put : (z : Sizes) (e x : Expansion) (before after : List ℕ) (r : Result ℕ Refusal) → answer_for d table ≡ Mixed z e
      → WriteListing (listing z.class z.family z.n z.m z.k x) before r after → x ≡ e → WriteListing (answer_listing d table) before r after
  mixed-put z e x before after r h w same =
      written_as (ap (λ (y : Expansion). listing z.class z.family z.n z.m z.k y) same ∙ (mixed-written z e h).1) w

  pub kind-listed : (n m : ℕ) (e x : KroneckerExpansion) → answer_for d table ≡ Kronecker n m e → x ≡ e → KroneckerListable n m x
  kind-listed n m e x h same = subst (KroneckerListable n m) (sym same) (kind-written n m e h).0

  pub kind-put : (n m : ℕ) (e x : KroneckerExpansion) (before after : List ℕ) (r : Result ℕ Refusal) → answer_for d table ≡ Kronecker n m e
      → WriteListing (record_listing n m x) before r after → x ≡ e → WriteListing (answer_listing d table) before r after
  kind-put n m e x before after r h w same =
      written_as (ap (λ (y : KroneckerExpansion). record_listing n m y) same ∙ (kind-written n m e h).1) w

-- ---- from the writer's answer to the call's

-- what a `?` returns of a refusal
pub refusal-is : {A : Type 0} {e : Refused} (r : Result A Refused) → IsErrAnd r (λ x. x ≡ e) → r ≡ Err e
refusal-is (Ok x) h = absurd h
refusal-is (Err x) h = ap Err h

-- what the call says where the writer says it: the line of its refusal is 0
abbrev pub said : Result ℕ Refusal → Result ℕ Refused
said (Ok written) = Ok written
said (Err why) = Err (declined why 0)

said-cond : (b : Bool) (x y : Result ℕ Refusal) → said (cond b x y) ≡ cond b (said x) (said y)
said-cond true x y = refl
said-cond false x y = refl

pub compiled-answer : (d : Design) (table before after : List ℕ) (r : Result ℕ Refusal) → WriteListing (answer_listing d table) before r after
    → said r ≡ compiled (given d table) (length before)
unfolding compiled
compiled-answer d table before after r w = ap said w.answer ∙ said-cond (leb (length (answer_listing d table)) (length before)) _ _

pub compiled-bytes : (d : Design) (table before after : List ℕ) (r : Result ℕ Refusal) → WriteListing (answer_listing d table) before r after
    → after ≡ buffer_after (given d table) before
unfolding buffer_after
compiled-bytes d table before after r w = w.bytes
