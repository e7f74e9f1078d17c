-- The listing of any member that gives the table is the same as it, "cheap or not" (`member-same`); so the text call's listing beside its own text,
-- where k is no `K`, is `Same` (`own_same`).
use mathlib.Core.List.{List}
use mathlib.Core.Path.{◌≡◌, refl, ap, ◌∙◌}
use Prim.Native.Nat.{ℕ, ◌^◌, ◌≤◌, ◌<◌}
use native.Mathlib.Omega.{arith}
use Rattle.std.specs.Prelude.{Ok}
use Rattle.numbers.specs.Bytes.{at}
use Rattle.numbers.specs.Refusals.{Sized}
use Rattle.numbers.proofs.Shifts.{points-le}
use Rattle.expansions.specs.Classes.{most_mixed}
use Rattle.expansions.specs.Members.{Gives}
use Rattle.expansions.proofs.Members.{member-class}
use Rattle.search.specs.declared.expansion.Expansion.{Expansion}
use Rattle.search.specs.Inner.Answer.{answer_expansion}
use Rattle.search.proofs.expansion.Answer.{answer_expansion-is}
use Rattle.listings.specs.Meaning.{stated_mixed, stated_fixed}
use Rattle.table_texts.specs.declared.sizes.Sizes.{Sizes}
use Rattle.table_texts.specs.Design.{mixed_design}
use Rattle.table_texts.proofs.Design.{mixed-sized}
use Rattle.table_texts.specs.Inner.Reading.{Reading, given, reading}
use Rattle.table_texts.proofs.read.Accepted.{reading-accepted}
use Rattle.listing_texts.specs.Read.{listing_reading}
use Rattle.listing_texts.specs.ReadBack.{MemberRecord, member_listing, term_polarities}
use Rattle.listing_texts.proofs.ReadBack.{listing-terms, answer-record}
use Rattle.text.specs.Inner.Compiled.{answer_listing}
use Rattle.fitter.specs.declared.check.Verdict.TheVariants.{Same}
use Rattle.fitter.specs.Inner.Answer.{judged, judged_design, checked}
use Rattle.fitter.proofs.Bytes.{mixed-stated, fixed-stated}
use Rattle.fitter.proofs.Answers.{answers-words}

module _ (z : Sizes) (table : List ℕ) (e : Expansion) (sized : Sized z.n z.m (most_mixed z.class) z.k) (r : MemberRecord z e)
    (gives : Gives z.n e.inverted (term_polarities z e) (at e.coefficients) (at table)) where
  abbrev s : List ℕ
  s = member_listing z e

  abbrev w : ℕ → ℕ
  w = term_polarities z e

  few : 2 ^ z.n ≤ 256
  few = points-le z.n sized.inputs.1

  mixed : stated_mixed s ≡ e.mixed
  mixed =
      mixed-stated z s e.inverted e.mixed e.fixed w (at e.coefficients) sized (omega (arith, few, r.member.pair.mask)) (omega (arith, few, r.member.pair.fixed))
      (listing-terms z e sized r)

  fixed : stated_fixed s ≡ e.fixed
  fixed =
      fixed-stated z s e.inverted e.mixed e.fixed w (at e.coefficients) sized (omega (arith, few, r.member.pair.mask)) (omega (arith, few, r.member.pair.fixed))
      (listing-terms z e sized r)

  pub member-same : judged z table (listing_reading z s) ≡ Ok Same
  member-same =
      (answers-words z table s sized (judged z table (listing_reading z s)) refl).same.1 (
        e.inverted,
        w,
        at e.coefficients,
        record {
          in_class = rw (mixed, fixed) (member-class z.class z.n z.k e.mixed e.fixed (at e.blocks) r.member);
          outputs = λ t h. r.outputs t;
          mask = r.mask;
          lines = rw (mixed, fixed) (listing-terms z e sized r);
          gives = gives;
        },
      )

pub own_same : (text : List ℕ) (z : Sizes) (table : List ℕ) → reading text ≡ given (mixed_design z) table
    → checked (reading text) (answer_listing (mixed_design z) table) ≡ Ok Same
unfolding checked judged_design answer_listing
own_same text z table e =
    let a = reading-accepted text (mixed_design z) table e in
    let sized = mixed-sized (mixed_design z) z.class z.k refl a.sized in
    let bytes : (p : ℕ) → p < 2 ^ z.n → at table p < 2 ^ 8 = λ p h. omega (arith, a.table.small p, points-le z.m a.sized.outputs.1) in
    let minimal = answer_expansion-is z.class z.family z.n z.k (at table) a.sized.inputs.1 a.sized.mixed.1 bytes in
    ap (λ (x : Reading). checked x (answer_listing (mixed_design z) table)) e
    ∙ member-same z table (answer_expansion z.class z.family z.n z.k (at table)) sized (answer-record z (at table) sized (λ p h. a.table.small p))
    minimal.answer.gives
