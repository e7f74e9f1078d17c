-- The meaning of a listing by its first line, which is the bytes up to `to`, where the first byte 10 or the end of the listing is; and from its second
-- line on by that line, which is the bytes from `at` up to `to`.
use mathlib.Core.List.{List}
use mathlib.Core.Path.{◌≡◌, sym, ap, ap₂, ◌∙◌}
use Prim.Native.Nat.{ℕ, suc, ◌+◌, ◌-◌, ◌<◌, ◌≤◌}
use native.Mathlib.Nat.{zero-add}
use native.Mathlib.Numerals.{add-one}
use native.Mathlib.Omega.{arith}
use lib.ListN.{length, take, drop}
use Rattle.numbers.specs.declared.refusals.Refusal.TheVariants.{BrokenListing}
use Rattle.listings.specs.Parts.{parts}
use Rattle.listings.specs.Inner.Stops.{stop}
use Rattle.listings.proofs.Parts.{first-take, others-none, others-more, first-slice, others-last, others-next}
use Rattle.table_texts.specs.declared.sizes.Sizes.{Sizes}
use Rattle.listing_texts.specs.declared.form.Form.{Form}
use Rattle.listing_texts.specs.Form.{first_line}
use Rattle.listing_texts.specs.Read.{refused, from_second, listing_reading, beside_line, beside_lines, beside_kronecker}
use Rattle.listing_texts.specs.Inner.Judging.{second_at}
use Rattle.listing_texts.proofs.Opened.{opened, opened_second, reading-split, reading-unfinished}

module _ (s : List ℕ) (to : ℕ) (e : to ≡ stop 10 s 0) where
  first-length : to ≡ length (parts 10 s).first
  first-length = e ∙ zero-add _

  first_part : take to s ≡ (parts 10 s).first
  first_part = rw first-length (first-take 10 s)

  -- ---- beside a table with the sizes z

  pub listing-unfinished : (z : Sizes) → length s ≤ to → listing_reading z s ≡ refused BrokenListing 1
  listing-unfinished z h = reading-unfinished s (omega (arith, first-length)) z

  pub listing-judged : (z : Sizes) → to < length s → listing_reading z s ≡ opened z (take to s) (drop (to + 1) s)
  listing-judged z h =
      reading-split s (omega (arith, first-length)) z
      ∙ ap₂ (opened z) (sym first_part) (ap (λ (i : ℕ). drop i s) (sym (add-one to ∙ ap suc first-length)))

  -- ---- beside a `K` table

  pub beside-unfinished : length s ≤ to → beside_kronecker s ≡ BrokenListing
  unfolding beside_kronecker beside_lines
  beside-unfinished h = ap (beside_lines (parts 10 s).first) (others-none 10 s (omega (arith, first-length)))

  pub beside-judged : to < length s → beside_kronecker s ≡ beside_line (first_line (take to s))
  unfolding beside_kronecker beside_lines
  beside-judged h =
      ap (beside_lines (parts 10 s).first) (others-more 10 s (omega (arith, first-length)))
      ∙ ap (λ (l : List ℕ). beside_line (first_line l)) (sym first_part)

-- ---- from the second line on

module _ (z : Sizes) (f : Form) (s : List ℕ) (at to : ℕ) (e : to ≡ stop 10 s at) where
  pub second-line-unfinished : length s ≤ to → second_at z f s at ≡ refused BrokenListing 2
  unfolding from_second
  second-line-unfinished h = rw (others-last 10 s at (omega (arith, e)))

  pub second-line-judged : to < length s → second_at z f s at ≡ opened_second z f (take (to - at) (drop at s)) (drop (to + 1) s)
  unfolding from_second
  second-line-judged h =
      let line : take (to - at) (drop at s) ≡ (parts 10 (drop at s)).first = rw e (first-slice 10 s at) in
      let next : (parts 10 (drop at s)).others ≡ _ = others-next 10 s at (omega (arith, e)) in
      rw (line, next, e)
