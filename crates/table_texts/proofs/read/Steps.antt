-- The meaning of a text by its first line, which is the bytes up to `to`, where the first byte 10 or the end of the text is.
use mathlib.Core.List.{List, []}
use mathlib.Core.Path.{◌≡◌, sym, ◌∙◌}
use Prim.Native.Nat.{ℕ, ◌+◌, ◌<◌, ◌≤◌}
use native.Mathlib.Nat.{zero-add}
use native.Mathlib.Omega.{arith}
use lib.ListN.{length, take, drop}
use lib.Seq.{take_all}
use Rattle.listings.specs.Parts.{parts}
use Rattle.listings.specs.Inner.Stops.{stop}
use Rattle.listings.proofs.Parts.{first-take, others-last, others-next}
use Rattle.lines.specs.Rows.{unfinished}
use Rattle.table_texts.specs.declared.sizes.Design.{Design}
use Rattle.table_texts.specs.First.{first_line}
use Rattle.table_texts.specs.Inner.Reading.{Reading, refused, judged_first, opened, from_second, all_lines, reading}

module _ (s : List ℕ) (to : ℕ) (e : to ≡ stop 10 s 0) where
  first_part : take to s ≡ (parts 10 s).first
  first_part = rw (e, zero-add) (first-take 10 s)

  pub text-unfinished : length s ≤ to → reading s ≡ refused (unfinished s) 1
  unfolding reading all_lines
  text-unfinished h =
      let whole : (parts 10 s).first ≡ s = sym first_part ∙ take_all to s h in
      let last : (parts 10 (drop 0 s)).others ≡ [] = others-last 10 s 0 (omega arith) in
      rw (whole, last)

  -- what follows a first line that gives a design
  abbrev pub lines_after : Design → Reading
  lines_after = from_second (parts 10 (drop (to + 1) s)).first (parts 10 (drop (to + 1) s)).others

  pub text-judged : to < length s → reading s ≡ opened (judged_first (first_line (take to s))) lines_after
  unfolding reading all_lines
  text-judged h =
      let next : (parts 10 (drop 0 s)).others ≡ _ = others-next 10 s 0 (omega arith) in
      rw (first_part, next, e)
