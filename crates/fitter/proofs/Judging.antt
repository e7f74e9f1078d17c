-- The answer on the record that was read is the answer on the listing (`record-judged`): the record's bytes are those of the rows.
use mathlib.Core.Bool.{Bool, true, false, cond, ◌&&◌}
use mathlib.Core.List.{List}
use mathlib.Core.Path.{◌≡◌, refl, sym, ap, ◌∙◌}
use Prim.Native.Nat.{ℕ, ◌-◌, ◌/◌, ◌%◌, ◌^◌, ◌≤◌}
use native.Mathlib.Omega.{arith}
use borrow.Author.Tests.{lt-ltb, eq-eqb}
use lib.Pow.{pow_mono}
use Rattle.std.specs.Prelude.{Result, Ok, Err}
use Rattle.numbers.specs.declared.refusals.Refused.{Refused}
use Rattle.numbers.specs.Bytes.{at, tabulate}
use Rattle.numbers.specs.Tests.{every}
use Rattle.numbers.proofs.Shifts.{points-le}
use Rattle.numbers.proofs.Tables.{at-whole}
use Rattle.expansions.specs.Members.{IsPair, shown_choice}
use Rattle.membership.specs.Class.{legal_pair, shows_back, of_class}
use Rattle.membership.proofs.Class.{legal-pair}
use Rattle.membership.proofs.Shown.{shown-past}
use Rattle.table_texts.specs.declared.sizes.Sizes.{Sizes}
use Rattle.listing_texts.specs.declared.form.Form.{Form}
use Rattle.listing_texts.specs.declared.read.ListingRead.{ListingRead}
use Rattle.listing_texts.specs.declared.read.RefusedListing.{RefusedListing}
use Rattle.shown_rows.specs.Rows.{coefficient_in, complemented_in, shown_blocks}
use Rattle.listing_texts.specs.Read.{ListingReading, shown, refused, listing_reading}
use Rattle.listing_texts.specs.Record.{shown_expansion, shown_read, handed_up}
use Rattle.listing_texts.proofs.Exactness.{listing-read}
use Rattle.fitter.specs.declared.check.Verdict.{Verdict}
use Rattle.fitter.specs.declared.check.Verdict.TheVariants.{NotOfClass}
use Rattle.fitter.specs.Differences.{inverted_value, first_difference}
use Rattle.fitter.specs.Inner.Answer.{compared, judged}
use Rattle.fitter.specs.Inner.Judging.{judged_record}

-- the verdict under a test is the answer under it
told : (b : Bool) (x : Verdict) → ◌≡◌ {A = Result Verdict Refused} (Ok (cond b x NotOfClass)) (cond b (Ok x) (Ok NotOfClass))
told true x = refl
told false x = refl

-- ---- the record's bytes

module _ (z : Sizes) (table s : List ℕ) (f : Form) (v : ℕ) (t : List ℕ) (read : listing_reading z s ≡ shown f v t) where
  few : 2 ^ z.n ≤ 256
  few = points-le z.n (listing-read z s f v t read).sized.inputs.1

  none-past : (u : ℕ) → 256 ≤ u → at t u ≡ 0
  none-past u h = (listing-read z s f v t read).rows.rest u (omega (arith, few))

  complements-whole : at (tabulate 256 (complemented_in t)) ≡ complemented_in t
  complements-whole = at-whole 256 (complemented_in t) (λ u h. ap (λ (x : ℕ). x / 256) (none-past u h))

  coefficients-whole : at (tabulate 256 (coefficient_in t)) ≡ coefficient_in t
  coefficients-whole = at-whole 256 (coefficient_in t) (λ u h. ap (λ (x : ℕ). x % 256) (none-past u h))

  -- the choice of each block that the cubes show
  abbrev choice : ℕ → ℕ
  choice = shown_choice z.class z.n z.k f.mixed (complemented_in t)

  blocks-whole : IsPair z.n z.k f.mixed f.fixed → at (shown_blocks z.class z.n z.k f.mixed (complemented_in t)) ≡ choice
  unfolding shown_blocks
  blocks-whole pair =
      let inputs = (listing-read z s f v t read).sized.inputs.1 in
      let size : 2 ^ (z.n - z.k) ≤ 256 = pow_mono {j = 8} (omega arith) in
      rw (lt-ltb f.mixed (2 ^ z.n) pair.mask, eq-eqb _ _ pair.size)
      (at-whole 256 choice (λ j l. shown-past z.class z.n z.k f.mixed (complemented_in t) j pair.size (omega arith)))

  pub record-shown : Ok (judged_record z table (shown_read z f v t)) ≡ judged z table (shown f v t)
  unfolding judged_record judged shown_read shown_expansion of_class
  record-shown = go (legal_pair z.n z.k f.mixed f.fixed) refl where
    go : (b : Bool) → legal_pair z.n z.k f.mixed f.fixed ≡ b
        → ◌≡◌ {A = Result Verdict Refused} (Ok
        (cond
        (b
        && every (2 ^ z.n)
        (shows_back z.class z.n z.k f.mixed f.fixed (at (shown_blocks z.class z.n z.k f.mixed (complemented_in t)))
        (at (tabulate 256 (complemented_in t))) (at (tabulate 256 (coefficient_in t)))))
        (compared (first_difference z.n (inverted_value z.n (at (tabulate 256 (complemented_in t))) (at (tabulate 256 (coefficient_in t))) v) (at table)))
        NotOfClass))
        (cond (b && every (2 ^ z.n) (shows_back z.class z.n z.k f.mixed f.fixed choice (complemented_in t) (coefficient_in t)))
        (Ok (compared (first_difference z.n (inverted_value z.n (complemented_in t) (coefficient_in t) v) (at table))))
        (Ok NotOfClass))
    go true h = rw (blocks-whole (legal-pair z.n z.k f.mixed f.fixed h), complements-whole, coefficients-whole) (told (every _ _) _)
    go false h = refl

-- ---- what was handed up

module _ (z : Sizes) (table s : List ℕ) where
  pub record-judged : (x : ListingReading) (read : ListingRead) → listing_reading z s ≡ x → handed_up z x ≡ Ok read
      → Ok (judged_record z table read) ≡ judged z table x
  unfolding handed_up
  record-judged (shown f v t) read is e =
      let same : shown_read z f v t ≡ read = cc in
      ap (λ (r : ListingRead). Ok (judged_record z table r)) (sym same) ∙ record-shown z table s f v t is
  record-judged (refused why l) read is e = cc

  pub refused-judged : (x : ListingReading) (e : RefusedListing) → handed_up z x ≡ Err e → Err e.refused ≡ judged z table x
  unfolding handed_up judged
  refused-judged (shown f v t) e h = cc
  refused-judged (refused why l) e h = cc
