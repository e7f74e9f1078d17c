-- A table text with outputs left out. The characters that stay are those of the chosen outputs (`chosen-characters`), the lines `on` that stay are those
-- of the points at which one of them is 1 (`chosen-points`), and the text is the one that is written for the table of the chosen outputs
-- (`chosen-written`). So where a text is accepted, it is accepted with outputs left out, and means the chosen ones (`chosen-read`).
use mathlib.Core.Bool.{false}
use mathlib.Core.List.{List, [], ◌∷◌, ◌++◌, append_assoc}
use mathlib.Core.Path.{◌≡◌, refl, sym, ap, ap₂, fun_ext, ◌∙◌}
use Prim.Native.Nat.{ℕ, zero, suc, ◌+◌, ◌*◌, ◌/◌, ◌%◌, ◌^◌, ◌<◌}
use native.Mathlib.Decide.{ℕ_discrete}
use native.Mathlib.Nat.{zero-add}
use native.Mathlib.Numerals.{one-add}
use native.Mathlib.Omega.{arith}
use lib.Arith.{digits_div, digits_mod}
use lib.Count.{ones_in}
use Rattle.numbers.specs.Bytes.{at}
use Rattle.numbers.specs.Nonzero.{if_nonzero, over_nonzero}
use Rattle.numbers.proofs.Nonzero.{nonzero-none, nonzero-some, over_nonzero-more}
use Rattle.numbers.proofs.Pack.{ones_in-ones}
use Rattle.numbers.proofs.Xor.{low-lt}
use Rattle.expansions.specs.declared.families.Family.{Family}
use Rattle.expansions.specs.declared.families.Family.TheVariants.{One, Two}
use Rattle.expansions.specs.Split.{put_digit, gather}
use Rattle.expansions.specs.Outputs.{IsChoice, chosen_count, chosen_outputs, chosen_table}
use Rattle.expansions.proofs.Split.{gather-zero, gather-lt}
use Rattle.expansions.proofs.Outputs.{chosen_at}
use Rattle.listings.specs.Parts.{parts, bytes, same, fields}
use Rattle.listings.specs.Listing.{tabbed, line, decimal, output_bytes}
use Rattle.listings.specs.Meaning.{finished, lines_of, over_lines}
use Rattle.listings.proofs.Joined.{Plain, AllPlain, parts-fields}
use Rattle.listings.proofs.Cubes.{outputs-none, outputs-cons, outputs-said}
use Rattle.listings.proofs.Meaning.{plain-decimal, plain-outputs, lines-line}
use Rattle.lines.proofs.RowLines.{plain-on}
use Rattle.table_texts.specs.declared.sizes.Design.{Design}
use Rattle.table_texts.specs.First.{table_word}
use Rattle.table_texts.specs.Inner.Reading.{given, reading}
use Rattle.table_texts.specs.TableTexts.{point_line, point_lines, design_line, text_with}
use Rattle.table_texts.proofs.read.Accepted.{reading-accepted}
use Rattle.table_texts.proofs.Acceptance.{text-accepted}
use Rattle.table_texts.proofs.DesignLine.{plain-table, plain-said}
use Rattle.table_texts.proofs.Exactness.{text-read}
use Rattle.comparisons.specs.Choices.{chosen_design, chosen_characters, point_with, chosen_line, chosen_text}
use Rattle.comparisons.proofs.Choices.{chosen-accepted}

-- ---- the characters of the outputs

digit-characters : (m k c g : ℕ) → m < 2 → c < 2 → if_nonzero m ((48 + c) ∷ []) ++ output_bytes k g ≡ output_bytes (m + k) (put_digit m g c)
unfolding if_nonzero put_digit
digit-characters zero k c g h l = ap (λ (x : ℕ). output_bytes x g) (sym (zero-add k))
digit-characters (suc zero) k c g h l =
    sym (ap (λ (x : ℕ). output_bytes x (g * 2 + c)) (one-add k) ∙ outputs-cons k (g * 2 + c)
    ∙ ap₂ (λ (x y : ℕ). (48 + x) ∷ output_bytes k y) (digits_mod g l) (digits_div g l))
digit-characters (suc (suc m)) k c g h l = absurd (omega arith)

pub chosen-characters : (m s c : ℕ) → chosen_characters s (output_bytes m c) ≡ output_bytes (chosen_count m s) (chosen_outputs m s c)
unfolding chosen_characters ones_in gather
chosen-characters zero s c = ap (chosen_characters s) (outputs-none c) ∙ sym (outputs-none 0)
chosen-characters (suc m) s c =
    ap (chosen_characters s) (outputs-cons m c)
    ∙ ap (λ (x : List ℕ). if_nonzero (s % 2) ((48 + c % 2) ∷ []) ++ x) (chosen-characters m (s / 2) (c / 2))
    ∙ digit-characters (s % 2) (ones_in m (s / 2)) (c % 2) (gather m (s / 2) (c / 2)) (low-lt s) (low-lt c)

-- ---- the lines

-- the first line is no line `on`, and not `end`

no-on : (family : Family) → same (table_word family) (bytes "on") ≡ false
unfolding table_word same bytes
no-on One = refl
no-on Two = refl

no_end : (family : Family) (rest : List ℕ) → same (table_word family ++ rest) (bytes "end") ≡ false
unfolding table_word same bytes
no_end One rest = refl
no_end Two rest = refl

module _ (s : ℕ) where
  chosen-line : (word : List ℕ) (fs : List (List ℕ)) (rest : List ℕ) → Plain word → AllPlain fs
      → chosen_text s (line word fs ++ rest) ≡ chosen_line s (word ++ tabbed fs) ++ chosen_text s rest
  unfolding chosen_text over_lines
  chosen-line word fs rest p ps = ap (over_lines ◌++◌ [] (chosen_line s)) (lines-line word fs rest p ps)

  -- a line `on`
  chosen-point : (m p o : ℕ) (rest : List ℕ)
      → chosen_text s (point_line m p o ++ rest)
      ≡ if_nonzero (chosen_outputs m s o) (point_line (chosen_count m s) p (chosen_outputs m s o)) ++ chosen_text s rest
  unfolding chosen_line point_with point_line fields same bytes
  chosen-point m p o rest =
      let fs : List (List ℕ) = decimal p ∷ output_bytes m o ∷ [] in
      let plain : AllPlain fs = (plain-decimal p, (plain-outputs m o, tt)) in
      chosen-line (bytes "on") fs rest plain-on plain
      ∙ rw (parts-fields (bytes "on") fs plain-on plain, chosen-characters m s o)
      (ap (λ (x : ℕ). if_nonzero x (line (bytes "on") (decimal p ∷ output_bytes (chosen_count m s) (chosen_outputs m s o) ∷ [])) ++ chosen_text s rest)
      (outputs-said (chosen_count m s) (chosen_outputs m s o) (gather-lt m s o)))

  chosen-points : (m : ℕ) (f : ℕ → ℕ) (N : ℕ) (rest : List ℕ)
      → chosen_text s (point_lines m f N ++ rest) ≡ point_lines (chosen_count m s) (λ p. chosen_outputs m s (f p)) N ++ chosen_text s rest
  unfolding over_nonzero
  chosen-points m f zero rest = refl
  chosen-points m f (suc N) rest =
      ap (chosen_text s) (over_nonzero-more (λ p. point_line m p (f p)) f N rest)
      ∙ chosen-points m f N (if_nonzero (f N) (point_line m N (f N)) ++ rest)
      ∙ ap (λ (x : List ℕ). point_lines (chosen_count m s) (λ p. chosen_outputs m s (f p)) N ++ x) (go (ℕ_discrete (f N) 0))
      ∙ sym (over_nonzero-more (λ p. point_line (chosen_count m s) p (chosen_outputs m s (f p))) (λ p. chosen_outputs m s (f p)) N (chosen_text s rest))
    where
      kept : List ℕ
      kept = if_nonzero (chosen_outputs m s (f N)) (point_line (chosen_count m s) N (chosen_outputs m s (f N)))

      go : Dec (f N ≡ 0) → chosen_text s (if_nonzero (f N) (point_line m N (f N)) ++ rest) ≡ kept ++ chosen_text s rest
      go (yes z) =
          rw (
            nonzero-none (f N) (point_line m N (f N)) z,
            nonzero-none (chosen_outputs m s (f N)) (point_line (chosen_count m s) N (chosen_outputs m s (f N))) (ap (chosen_outputs m s) z ∙ gather-zero m s),
          )
      go (no z) = rw (nonzero-some (f N) (point_line m N (f N)) z) (chosen-point m N (f N) rest)

  chosen-end : chosen_text s (line (bytes "end") []) ≡ line (bytes "end") []
  unfolding chosen_text over_lines chosen_line lines_of finished parts line tabbed fields same bytes
  chosen-end = refl

  -- the first line
  chosen-first : (d : Design) (k rest : List ℕ) → IsChoice d.m s → Plain k
      → chosen_text s (design_line d k ++ rest) ≡ design_line (chosen_design s d) k ++ chosen_text s rest
  unfolding design_line chosen_line fields
  chosen-first d k rest choice p =
      let fs : List (List ℕ) = decimal d.n ∷ decimal d.m ∷ k ∷ [] in
      let plain : AllPlain fs = (plain-decimal d.n, (plain-decimal d.m, (p, tt))) in
      chosen-line (table_word d.family) fs rest (plain-table d.family) plain
      ∙ rw (parts-fields (table_word d.family) fs (plain-table d.family) plain, no-on d.family, no_end d.family (tabbed fs), ones_in-ones d.m s choice.1)

  -- ---- the text

  pub chosen-written : (k : List ℕ) (d : Design) (t : List ℕ) → IsChoice d.m s → Plain k
      → chosen_text s (text_with k d t) ≡ text_with k (chosen_design s d) (chosen_table d.m s t)
  unfolding text_with
  chosen-written k d t choice p =
      let points : List ℕ = point_lines d.m (at t) (2 ^ d.n) in
      let last : List ℕ = line (bytes "end") [] in
      let same : at (chosen_table d.m s t) ≡ (λ q. chosen_outputs d.m s (at t q)) = fun_ext (chosen_at d.m s t) in
      ap (chosen_text s) (append_assoc (design_line d k) points last)
      ∙ chosen-first d k (points ++ last) choice p
      ∙ ap (λ (x : List ℕ). design_line (chosen_design s d) k ++ x)
      (chosen-points d.m (at t) (2 ^ d.n) last ∙ ap₂ (λ (f : ℕ → ℕ) (x : List ℕ). point_lines (chosen_count d.m s) f (2 ^ d.n) ++ x) (sym same) chosen-end)
      ∙ sym (append_assoc (design_line (chosen_design s d) k) (point_lines (chosen_count d.m s) (at (chosen_table d.m s t)) (2 ^ d.n)) last)

  pub chosen-read : (text : List ℕ) (d : Design) (t : List ℕ) → IsChoice d.m s → reading text ≡ given d t
      → reading (chosen_text s text) ≡ given (chosen_design s d) (chosen_table d.m s t)
  chosen-read text d t choice e =
      let read = text-read text d t e in
      let plain = plain-said d.n read.has_kind_field d.kind read.said in
      ap (λ (x : List ℕ). reading (chosen_text s x)) read.characters
      ∙ ap reading (chosen-written read.has_kind_field d t choice plain)
      ∙ text-accepted read.has_kind_field (chosen_design s d) (chosen_table d.m s t) read.said (chosen-accepted d t s choice (reading-accepted text d t e))
