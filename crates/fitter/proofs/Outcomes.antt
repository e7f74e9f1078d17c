-- The answer on a listing that was read, in document 02's words: `Same` where a member prints it and gives the table (`same-to`, `same_from`),
-- `NotOfClass` where no member of the table's class prints its cubes (`not-to`, `not-from`), and else the lowest point that differs (`differs-to`, `differs-from`).
use mathlib.Core.Bool.{Bool, true, false, cond}
use mathlib.Core.List.{List}
use mathlib.Core.Logic.{◌↔◌}
use mathlib.Core.Path.{◌≡◌, refl, sym, ap, ◌∙◌}
use Prim.Native.Nat.{ℕ}
use Rattle.std.specs.Prelude.{Result, Ok}
use Rattle.numbers.specs.declared.refusals.Refused.{Refused}
use Rattle.numbers.specs.Bytes.{at}
use Rattle.expansions.specs.Least.{Best, nothing, best}
use Rattle.expansions.specs.Members.{polarity, shown_choice}
use Rattle.expansions.proofs.Members.{member-class}
use Rattle.listings.specs.Listing.{listing_with, printed_cubes}
use Rattle.listings.specs.Meaning.{listing_value, listing_cubes, stated_mixed, stated_fixed}
use Rattle.membership.specs.Class.{Shown, of_class, Printable}
use Rattle.membership.proofs.Class.{class-exactly, class-member, class-lines, class-gives}
use Rattle.table_texts.specs.declared.sizes.Sizes.{Sizes}
use Rattle.listing_texts.specs.declared.form.Form.{Form}
use Rattle.listing_texts.specs.Listings.{term_listing}
use Rattle.shown_rows.specs.Rows.{coefficient_in, complemented_in}
use Rattle.listing_texts.specs.Read.{shown, listing_reading}
use Rattle.listing_texts.proofs.Exactness.{ListingIs, listing-read}
use Rattle.fitter.specs.declared.check.Verdict.{Verdict}
use Rattle.fitter.specs.declared.check.Verdict.TheVariants.{Same, Differs, NotOfClass}
use Rattle.fitter.specs.Differences.{inverted_value, first_difference}
use Rattle.fitter.specs.Check.{PrintsCubes, PrintsTable, LowestDifference}
use Rattle.fitter.specs.Inner.Answer.{compared, judged}
use Rattle.fitter.proofs.Bytes.{mixed-stated, fixed-stated, cubes-listed, value-listed, rows-shown}
use Rattle.fitter.proofs.Differences.{difference-none, none_differ, difference-at, lowest-differs}

-- a listing that was read as the first line f, the mask v and the rows t
module _ (z : Sizes) (table s : List ℕ) (f : Form) (v : ℕ) (t : List ℕ) (read : listing_reading z s ≡ shown f v t) where
  known : ListingIs z s f v t
  known = listing-read z s f v t read

  abbrev w : ℕ → ℕ
  w = complemented_in t

  abbrev c : ℕ → ℕ
  c = coefficient_in t

  mixed : stated_mixed s ≡ f.mixed
  mixed = mixed-stated z s v f.mixed f.fixed w c known.sized known.digits.mixed known.digits.fixed known.characters

  fixed : stated_fixed s ≡ f.fixed
  fixed = fixed-stated z s v f.mixed f.fixed w c known.sized known.digits.mixed known.digits.fixed known.characters

  cubes : listing_cubes s ≡ printed_cubes z.n w c
  cubes = cubes-listed z s v f.mixed f.fixed w c known.characters

  abbrev given : ℕ → ℕ
  given = inverted_value z.n w c v

  values : (p : ℕ) → listing_value s p ≡ given p
  values = value-listed z s v f.mixed f.fixed w c known.characters known.mask known.rows.outputs

  abbrev class : Bool
  class = of_class z.class z.n z.k f.mixed f.fixed w c

  abbrev found : Best
  found = first_difference z.n given (at table)

  -- ---- the class

  cubes-shown : Shown z.n w c
  cubes-shown = rows-shown z.n z.m t known.rows

  exactly : (class ≡ true) ↔ Printable z.class z.n z.k f.mixed f.fixed w c
  exactly = class-exactly z.class z.n z.k f.mixed f.fixed w c known.sized.mixed.0 cubes-shown

  class-to : class ≡ true → (w' : ℕ → ℕ) × (c' : ℕ → ℕ) × PrintsCubes z s w' c'
  class-to h = let p = exactly.0 h in (p.0, p.1, (rw (mixed, fixed) p.2, rw cubes p.3))

  class-from : (w' c' : ℕ → ℕ) → PrintsCubes z s w' c' → class ≡ true
  class-from w' c' p = exactly.1 (w', c', rw (mixed, fixed) at p.0, rw cubes at p.1)

  pub not-to : judged z table (shown f v t) ≡ Ok NotOfClass → (w' c' : ℕ → ℕ) → PrintsCubes z s w' c' → ⊥
  unfolding judged
  not-to e w' c' p = go found (rw (class-from w' c' p) at e) where
    go : (b : Best) → ◌≡◌ {A = Result Verdict Refused} (Ok (compared b)) (Ok NotOfClass) → ⊥
    go nothing g = cc
    go (best q) g = cc

  pub not-from : ((w' c' : ℕ → ℕ) → PrintsCubes z s w' c' → ⊥) → judged z table (shown f v t) ≡ Ok NotOfClass
  unfolding judged
  not-from none = go class refl where
    go : (b : Bool) → class ≡ b → ◌≡◌ {A = Result Verdict Refused} (cond b (Ok (compared found)) (Ok NotOfClass)) (Ok NotOfClass)
    go true h = let p = class-to h in absurd (none p.0 p.1 p.2)
    go false h = refl

  -- ---- class, then points

  -- the answer that is not `NotOfClass` is the one of the points
  points : (a : Verdict) → judged z table (shown f v t) ≡ Ok a → (a ≡ NotOfClass → ⊥) → (class ≡ true) × (compared found ≡ a)
  unfolding judged
  points a e other = go class refl e where
    go : (b : Bool) → class ≡ b → ◌≡◌ {A = Result Verdict Refused} (cond b (Ok (compared found)) (Ok NotOfClass)) (Ok a)
        → (class ≡ true) × (compared found ≡ a)
    go true h g = (h, cc)
    go false h g = let same : a ≡ NotOfClass = cc in absurd (other same)

  points-from : class ≡ true → judged z table (shown f v t) ≡ Ok (compared found)
  unfolding judged
  points-from h = rw h

  compared_same : (b : Best) → compared b ≡ Same → b ≡ nothing
  compared_same nothing e = refl
  compared_same (best p) e = cc

  compared-differs : (b : Best) (p : ℕ) → compared b ≡ Differs p → b ≡ best p
  compared-differs nothing p e = cc
  compared-differs (best q) p e = let same : q ≡ p = cc in ap best same

  pub same-to : judged z table (shown f v t) ≡ Ok Same → (u : ℕ) × (w' : ℕ → ℕ) × (c' : ℕ → ℕ) × PrintsTable z table s u w' c'
  unfolding term_listing listing_with
  same-to e =
      let ends = points Same e (λ g. cc) in
      let none = compared_same found ends.1 in
      let x = shown_choice z.class z.n z.k f.mixed w in
      let member = class-member z.class z.n z.k f.mixed f.fixed w c ends.0 known.sized.mixed.0 cubes-shown in
      let gives = class-gives z.class z.n z.k f.mixed f.fixed w c ends.0 v (at table) in (
        v,
        polarity z.class z.n z.k f.mixed f.fixed x,
        c,
        record {
          in_class = rw (mixed, fixed) (member-class z.class z.n z.k f.mixed f.fixed x member);
          outputs = known.rows.outputs;
          mask = known.mask;
          lines = rw (mixed, fixed) (known.characters ∙ rw (class-lines z.class z.n z.k f.mixed f.fixed w c ends.0 z.m));
          gives = gives (difference-none given (at table) z.n none);
        },
      )

  pub same_from : (u : ℕ) (w' c' : ℕ → ℕ) → PrintsTable z table s u w' c' → judged z table (shown f v t) ≡ Ok Same
  same_from u w' c' p =
      let printed = cubes-listed z s u (stated_mixed s) (stated_fixed s) w' c' p.lines in
      let listed = value-listed z s u (stated_mixed s) (stated_fixed s) w' c' p.lines p.mask p.outputs in
      let inside = class-from w' c' (p.in_class, sym printed) in
      points-from inside
      ∙ ap (λ (b : Best). Ok (compared b)) (none_differ given (at table) z.n (λ q h. sym (values q) ∙ listed q ∙ p.gives q h))

  pub differs-to : (p : ℕ) → judged z table (shown f v t) ≡ Ok (Differs p)
      → ((w' : ℕ → ℕ) × (c' : ℕ → ℕ) × PrintsCubes z s w' c') × LowestDifference z.n table s p
  differs-to p e =
      let ends = points (Differs p) e (λ g. cc) in
      let lowest = difference-at given (at table) z.n p (compared-differs found p ends.1) in (
        class-to ends.0,
        record {
          point = lowest.0;
          differs = λ g. lowest.1 (sym (values p) ∙ g);
          before = λ q h. values q ∙ lowest.2 q h;
        },
      )

  pub differs-from : (p : ℕ) → (w' c' : ℕ → ℕ) → PrintsCubes z s w' c' → LowestDifference z.n table s p
      → judged z table (shown f v t) ≡ Ok (Differs p)
  differs-from p w' c' prints lowest =
      points-from (class-from w' c' prints)
      ∙ ap (λ (b : Best). Ok (compared b))
      (lowest-differs given (at table) z.n p lowest.point (λ g. lowest.differs (values p ∙ g)) (λ q h. sym (values q) ∙ lowest.before q h))
