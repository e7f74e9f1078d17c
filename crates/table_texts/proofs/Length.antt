-- An accepted text has at most 4,004 bytes (`accepted-text-length`), so that its first 8,192 bytes are the whole of it
-- (`accepted-text-first`): "every text that can be accepted is shorter". There are accepted texts of 4,004 bytes with `table2` and an `f` field; `table`
-- or a k of one character has a byte less (`longest-accepted`, `longest-length`, `longest-text`).
use mathlib.Core.Bool.{Bool, true, false}
use mathlib.Core.List.{List}
use mathlib.Core.Logic.{inl, inr}
use mathlib.Core.Path.{◌≡◌, refl, ◌∙◌}
use Prim.Native.Nat.{ℕ, zero, suc, ◌+◌, ◌*◌, ◌^◌, ◌≤◌, ◌<◌}
use native.Mathlib.Omega.{arith}
use borrow.Author.Tests.{ltb-true, ltb-false}
use lib.Dec.{ltb, lit<, lit≤}
use lib.ListN.{length, take, replicate, length-append, length-replicate, get_or-replicate, get_or-eq_default}
use lib.Seq.{take_all}
use Rattle.numbers.specs.Bytes.{at}
use Rattle.numbers.specs.Nonzero.{if_nonzero, over_nonzero}
use Rattle.numbers.specs.Sums.{fold_below, sum_below}
use Rattle.numbers.proofs.Nonzero.{nonzero-some, over_nonzero-zero}
use Rattle.expansions.specs.declared.families.Family.{Family}
use Rattle.expansions.specs.declared.families.Family.TheVariants.{One, Two}
use Rattle.expansions.specs.declared.kinds.Class.TheVariants.{Free}
use Rattle.expansions.specs.declared.kinds.Kind.{Kind}
use Rattle.expansions.specs.declared.kinds.Kind.TheVariants.{Mixed, Kronecker}
use Rattle.expansions.proofs.Classes.{most-three}
use Rattle.table_texts.specs.declared.sizes.Design.{Design}
use Rattle.table_texts.specs.Design.{KindSized, KindFor}
use Rattle.table_texts.specs.Accepted.{Accepted}
use Rattle.listings.specs.Parts.{bytes}
use Rattle.listings.specs.Listing.{tabbed, line, digit_count, descending, decimal, mixed_mark, mixed_field}
use Rattle.table_texts.specs.First.{table_word}
use Rattle.table_texts.specs.Inner.Reading.{given, reading}
use Rattle.table_texts.proofs.read.Accepted.{reading-accepted}
use Rattle.listings.proofs.Characters.{length-decimal, length-outputs}
use Rattle.listings.proofs.Lengths.{length-mixed_mark}
use Rattle.listings.proofs.Longest.{digit_count-one}
use Rattle.numbers.proofs.Shifts.{points-le}
use Rattle.table_texts.specs.TableTexts.{point_line, point_lines, kind_field, design_line, text_with, table_text, dash_text, IsText}
use Rattle.table_texts.proofs.Acceptance.{table-text-accepted}
use Rattle.table_texts.proofs.Exactness.{accepted-text}

-- ---- the points' lines

length-point_line : (m p o : ℕ) → length (point_line m p o) ≡ 5 + digit_count p + m
unfolding point_line line tabbed bytes
length-point_line m p o = simp (length-append, length-decimal, length-outputs) (omega arith)

listed_le : (o : ℕ) (l : List ℕ) → length (if_nonzero o l) ≤ length l
unfolding if_nonzero
listed_le zero l = omega arith
listed_le (suc o) l = omega arith

point_lines-le : (m : ℕ) (f : ℕ → ℕ) (N : ℕ) → length (point_lines m f N) ≤ N * (5 + m) + sum_below N digit_count
unfolding over_nonzero fold_below
point_lines-le m f zero = omega arith
point_lines-le m f (suc N) =
    omega (
      arith,
      length-append (point_lines m f N) (if_nonzero (f N) (point_line m N (f N))),
      point_lines-le m f N,
      listed_le (f N) (point_line m N (f N)),
      length-point_line m N (f N),
    )

-- the digits of the points: 10 of one digit, 90 of two and 156 of three
digits-total : sum_below 256 digit_count ≡ 658
unfolding fold_below digit_count
digits-total = refl

-- ---- the text

length-design_line : (d : Design) (k : List ℕ) → d.n < 10 → d.m < 10 → length (design_line d k) ≡ length (table_word d.family) + 6 + length k
unfolding design_line line tabbed
length-design_line d k hn hm =
    simp (length-append, length-decimal) (omega (arith, digit_count-one d.n hn, digit_count-one d.m hm))

length-text_with : (k : List ℕ) (d : Design) (t : List ℕ)
    → length (text_with k d t) ≡ length (design_line d k) + length (point_lines d.m (at t) (2 ^ d.n)) + 4
unfolding text_with line tabbed bytes
length-text_with k d t = simp length-append (omega arith)

text-length : (k : List ℕ) (d : Design) (t : List ℕ) → Accepted d t → length (text_with k d t) ≤ 3996 + length (table_word d.family) + length k
text-length k d t g =
    let same : point_lines d.m (at t) 256 ≡ point_lines d.m (at t) (2 ^ d.n) =
    over_nonzero-zero (λ p. point_line d.m p (at t p)) (at t) (2 ^ d.n) 256 g.table.rest (points-le d.n g.sized.inputs.1) in
    let points : length (point_lines d.m (at t) (2 ^ d.n)) ≤ 256 * (5 + d.m) + sum_below 256 digit_count = rw same at (point_lines-le d.m (at t) 256) in
    let first = length-design_line d k (omega (arith, g.sized.inputs)) (omega (arith, g.sized.outputs)) in
    omega (arith, length-text_with k d t, first, g.sized.outputs, digits-total)

length-dash : length (bytes "-") ≡ 1
unfolding bytes
length-dash = refl

-- an `f` field is the longest of the characters for the kind of k
length-kind : (n : ℕ) (x : Kind) → KindSized n x → length (kind_field x) ≤ 2
unfolding kind_field mixed_field bytes
length-kind n (Mixed C k) h =
    omega (
      arith,
      length-append (mixed_mark C) (decimal k),
      length-mixed_mark C,
      length-decimal k,
      digit_count-one k (omega (arith, h.0, most-three C)),
    )
length-kind n Kronecker h = omega arith

-- `table2` is the longer of the two words
length-table_word : (family : Family) → length (table_word family) ≤ 6
unfolding table_word bytes
length-table_word One = omega arith
length-table_word Two = omega arith

pub accepted-text-length : (s : List ℕ) (d : Design) (t : List ℕ) → reading s ≡ given d t → length s ≤ 4004
unfolding table_text dash_text
accepted-text-length s d t e = go (reading-accepted s d t e) (accepted-text s d t e) where
  go : Accepted d t → IsText s d t → length s ≤ 4004
  go g (inl h) =
      rw h (omega (arith, text-length (kind_field d.kind) d t g, length-kind d.n d.kind g.sized.mixed, length-table_word d.family))
  go g (inr h) = rw h.1 (omega (arith, text-length (bytes "-") d t g, length-dash, length-table_word d.family))

-- "the first 8,192 bytes of standard input as the whole text"
pub accepted-text-first : (s : List ℕ) (d : Design) (t : List ℕ) → reading s ≡ given d t → take 8192 s ≡ s
accepted-text-first s d t e = take_all 8192 s (omega (arith, accepted-text-length s d t e))

-- ---- the longest text

point_lines-full : (m : ℕ) (f : ℕ → ℕ) (N : ℕ) → ((p : ℕ) → p < N → f p ≡ 0 → ⊥) → length (point_lines m f N) ≡ N * (5 + m) + sum_below N digit_count
unfolding over_nonzero fold_below
point_lines-full m f zero some = omega arith
point_lines-full m f (suc N) some =
    let last : if_nonzero (f N) (point_line m N (f N)) ≡ point_line m N (f N) = nonzero-some (f N) (point_line m N (f N)) (some N (omega arith)) in
    length-append (point_lines m f N) (if_nonzero (f N) (point_line m N (f N)))
    ∙ rw (last, length-point_line m N (f N), point_lines-full m f N (λ p h. some p (omega arith))) (omega arith)

-- eight inputs, eight outputs, and every output 1 at every point
abbrev pub full_design : Family → Kind → Design
full_design family x = record { n = 8; m = 8; kind = x; family = family }

abbrev pub full_table : List ℕ
full_table = replicate 256 255

full-point : (p : ℕ) → p < 256 → at full_table p ≡ 255
full-point p h = get_or-replicate {A = ℕ} 256 p 255 0 h

full-rest : (p : ℕ) → 256 ≤ p → at full_table p ≡ 0
full-rest p h = get_or-eq_default full_table 0 {n = p} (rw length-replicate h)

full-small : (p : ℕ) → at full_table p < 256
full-small p = go (ltb p 256) refl where
  go : (b : Bool) → ltb p 256 ≡ b → at full_table p < 256
  go true e = rw (full-point p (ltb-true p 256 e)) (lit< tt)
  go false e = rw (full-rest p (ltb-false p 256 e)) (lit< tt)

full-accepted : (family : Family) (x : Kind) → KindSized 8 x → KindFor family x → Accepted (full_design family x) full_table
full-accepted family x h g =
    record {
      sized = record { inputs = (lit≤ tt, lit≤ tt); outputs = (lit≤ tt, lit≤ tt); mixed = h; family = g };
      table = record { long = length-replicate {A = ℕ} 256 255; small = full-small; rest = full-rest };
    }

pub longest-accepted : (family : Family) (x : Kind) → KindSized 8 x → KindFor family x
    → reading (table_text (full_design family x) full_table) ≡ given (full_design family x) full_table
longest-accepted family x h g = table-text-accepted (full_design family x) full_table (full-accepted family x h g)

-- how long it is, with the word of each family and the characters of each kind
pub longest-length : (family : Family) (x : Kind) → length (table_text (full_design family x) full_table) ≡ 3996 + length (table_word family) + length (kind_field x)
unfolding table_text
longest-length family x =
    let points : length (point_lines 8 (at full_table) 256) ≡ 256 * (5 + 8) + sum_below 256 digit_count =
    point_lines-full 8 (at full_table) 256 (λ p l e. omega (arith, full-point p l)) in
    let first = length-design_line (full_design family x) (kind_field x) (lit< tt) (lit< tt) in
    omega (arith, length-text_with (kind_field x) (full_design family x) full_table, first, digits-total)

-- the bound is met
pub longest-text : length (table_text (full_design Two (Mixed Free 2)) full_table) ≡ 4004
unfolding table_word kind_field mixed_field mixed_mark bytes decimal descending digit_count
longest-text = longest-length Two (Mixed Free 2)
