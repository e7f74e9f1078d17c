-- A listing whose n, m, k, class or family is not its table's, beside an accepted table text: it is refused by 12, line 1 (`unlike-refused`,
-- `other-family-refused`, `other-class-refused`, `above-refused`). One whose first line passes, and whose second line is not `inv` and m characters: 11, line 2 (`second-line-refused`).
use mathlib.Core.List.{List}
use mathlib.Core.Path.{◌≡◌, sym, ap, subst}
use Prim.Native.Nat.{ℕ, ◌≤◌}
use Rattle.std.specs.Prelude.{Err}
use Rattle.numbers.specs.declared.refusals.Refusal.TheVariants.{BrokenListing, UnlikeListing}
use Rattle.numbers.specs.Refusals.{declined}
use Rattle.expansions.specs.Classes.{most_mixed}
use Rattle.table_texts.specs.declared.sizes.Sizes.{Sizes}
use Rattle.table_texts.specs.Design.{mixed_design}
use Rattle.table_texts.specs.Inner.Reading as tables
use Rattle.listing_texts.specs.Form.{FormListing}
use Rattle.listing_texts.proofs.Unlike.{unlike-read}
use Rattle.listing_texts.specs.Inv.{NoInv}
use Rattle.listing_texts.proofs.SecondLine.{second-refused}
use Rattle.fitter.specs.Inner.Answer.{checked}
use Rattle.fitter.proofs.Refusals.{accepted-sized, reading-refused}

module _ (text s : List ℕ) (z : Sizes) (table : List ℕ) (accepted : tables.reading text ≡ tables.given (mixed_design z) table) (g : FormListing s) where
  pub unlike-refused : (g.form.sizes ≡ z → ⊥) → checked (tables.reading text) s ≡ Err (declined UnlikeListing 1)
  unlike-refused none = reading-refused text s z table accepted UnlikeListing 1 (unlike-read z s g none)

  -- "a listing of the other family than its table is 12, line 1"
  pub other-family-refused : (g.form.sizes.family ≡ z.family → ⊥) → checked (tables.reading text) s ≡ Err (declined UnlikeListing 1)
  other-family-refused none = unlike-refused (λ e. none (ap (λ (y : Sizes). y.family) e))

  -- W-207, "the listing repeats that field": an `f` field beside a digit, and a digit beside an `f` field
  pub other-class-refused : (g.form.sizes.class ≡ z.class → ⊥) → checked (tables.reading text) s ≡ Err (declined UnlikeListing 1)
  other-class-refused none = unlike-refused (λ e. none (ap (λ (y : Sizes). y.class) e))

  -- "`f` with a digit above 2 or above n is .. in a listing 12"
  pub above-refused : ((g.form.sizes.k ≤ most_mixed g.form.sizes.class) × (g.form.sizes.k ≤ g.form.sizes.n) → ⊥)
      → checked (tables.reading text) s ≡ Err (declined UnlikeListing 1)
  above-refused none = unlike-refused (λ e. none (subst (λ (y : Sizes). (y.k ≤ most_mixed y.class) × (y.k ≤ y.n)) (sym e) (accepted-sized text z table accepted).mixed))

  -- "A broken listing line .. is 11 with its line in the listing": the second line, which is broken or is not there
  pub second-line-refused : g.form.sizes ≡ z → NoInv z.m g.rest → checked (tables.reading text) s ≡ Err (declined BrokenListing 2)
  second-line-refused same none =
      reading-refused text s z table accepted BrokenListing 2 (second-refused z s (accepted-sized text z table accepted) g same none)
