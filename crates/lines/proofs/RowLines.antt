-- The two kinds of line: the rows of a table text (`table-kind`) and those of a listing (`listing-kind`). A line that says a row is the line that
-- is written for it.
use mathlib.Core.Bool.{Bool, true, false, cond}
use mathlib.Core.List.{List, [], ◌∷◌, ◌++◌}
use mathlib.Core.Path.{◌≡◌, refl, sym, ap, ◌∙◌}
use Prim.Native.Nat.{ℕ, ◌+◌, ◌*◌, ◌/◌, ◌%◌, ◌^◌, ◌≤◌, ◌<◌}
use native.Mathlib.Omega.{arith}
use lib.Bits.{bit_and, and_comm}
use lib.Dec.{T, lit<, lit≤}
use Rattle.numbers.specs.Bits.{inside}
use Rattle.numbers.proofs.Ands.{inside-and}
use Rattle.numbers.proofs.Shifts.{points-le}
use Rattle.listings.specs.Parts.{bytes, same, field, fields}
use Rattle.listings.specs.Listing.{tabbed, decimal, cube, output_bytes}
use Rattle.listings.proofs.Joined.{Plain, parts-fields}
use Rattle.listings.proofs.Meaning.{plain-decimal, plain-outputs, plain-cube, plain-term}
use Rattle.listings.proofs.Words.{same-equal}
use Rattle.std.specs.Prelude.{Option, Some, None}
use Rattle.fields.specs.declared.values.Cube.{Cube}
use Rattle.lines.specs.declared.rows.Grammar.{Grammar}
use Rattle.lines.specs.declared.rows.Kind.{Kind}
use Rattle.lines.specs.declared.rows.Kind.TheVariants.{Table, Listing}
use Rattle.lines.specs.declared.rows.RowLine.{RowLine}
use Rattle.lines.specs.declared.rows.RowLine.TheVariants.{Row, End}
use Rattle.fields.specs.Fields.{and_then, headed, number, outputs}
use Rattle.fields.specs.Cubes.{cube_said}
use Rattle.lines.specs.Rows.{table_grammar, listing_grammar, row_said, point_said, on_row, term_row, of_kind, row_line}
use Rattle.lines.specs.Inner.Steps.{SmallRow}
use Rattle.lines.specs.FirstBad.{OnLine}
use Rattle.fields.proofs.Numbers.{outputs-lt}
use Rattle.fields.proofs.Written.{number-decimal, outputs-written}
use Rattle.fields.proofs.FieldsRead.{number_read, outputs-read}
use Rattle.fields.proofs.Cubes.{cube-written, cube-said}
use Rattle.fields.proofs.Headed.{two_fields}
use Rattle.lines.proofs.LineKinds.{LineKind}

-- a line that says a row is not `end`
row-line : (g : Grammar) (l : List ℕ) (p v : ℕ) → row_line g l ≡ Some (Row p v) → of_kind g.kind (on_row g.m l) (term_row g.n g.m l) ≡ Some (Row p v)
unfolding row_line
row-line g l p v = go (same l (bytes "end")) where
  go : (t : Bool) → cond t (Some End) (of_kind g.kind (on_row g.m l) (term_row g.n g.m l)) ≡ Some (Row p v)
      → of_kind g.kind (on_row g.m l) (term_row g.n g.m l) ≡ Some (Row p v)
  go true e = cc
  go false e = e

-- ---- the fields of a row

-- what the fields of a row at t with the value v say
record RowFields (headed : Bool) (x : Option Cube) (y : Option ℕ) (t v : ℕ) : Type 0 where
  word : headed ≡ true
  complemented : ℕ
  outputs : ℕ
  place_field : x ≡ Some (record { term = t; complemented = complemented })
  outputs_field : y ≡ Some outputs
  value : complemented * 256 + outputs ≡ v

row-fields : (h : Bool) (x : Option Cube) (y : Option ℕ) (t v : ℕ) → row_said h x y ≡ Some (Row t v) → RowFields h x y t v
row-fields true (Some c) (Some o) t v e =
    let place : c.term ≡ t = cc in
    record {
      word = refl;
      complemented = c.complemented;
      outputs = o;
      place_field = ap (λ (a : ℕ). Some (record { term = a; complemented = c.complemented })) place;
      outputs_field = refl;
      value = cc;
    }
row-fields true (Some c) None t v e = cc
row-fields true None y t v e = cc
row-fields false x y t v e = cc

row-never-end : (h : Bool) (x : Option Cube) (y : Option ℕ) → row_said h x y ≡ Some End → ⊥
row-never-end true (Some c) (Some o) e = cc
row-never-end true (Some c) None e = cc
row-never-end true None y e = cc
row-never-end false x y e = cc

-- a point that is read is a number of at most three digits, with no input complemented
point-said : (f : List ℕ) (c : Cube) → point_said f ≡ Some c → (number 3 f ≡ Some c.term) × (c.complemented ≡ 0)
point-said f c = go (number 3 f) where
  go : (x : Option ℕ) → and_then x None (λ p. Some (record { term = p; complemented = 0 })) ≡ Some c → (x ≡ Some c.term) × (c.complemented ≡ 0)
  go (Some p) e =
      let same : record { term = p; complemented = 0 } ≡ c = cc in
      (ap (λ (c : Cube). Some c.term) same, ap (λ (c : Cube). c.complemented) (sym same))
  go None e = cc

-- a value is one of 16 bits
pub on-small : (m : ℕ) (f g : List ℕ) → m ≤ 8 → SmallRow (point_said f) (outputs m g)
on-small m f g hm c o e d = omega (arith, points-le m hm, outputs-lt m g o d, (point-said f c e).1)

pub term-small : (n m : ℕ) (f g : List ℕ) → n ≤ 8 → m ≤ 8 → SmallRow (cube_said n f) (outputs m g)
term-small n m f g hn hm c o e d = omega (arith, points-le n hn, points-le m hm, outputs-lt m g o d, (cube-said n f c e).complemented)

-- ---- a row of a table text

pub plain-on : Plain (bytes "on")
unfolding bytes
plain-on = (lit< tt, (lit< tt, tt))

on-said : (n m p o : ℕ) → p < 1000 → o < 2 ^ m → (o ≡ 0 → ⊥) → row_line (table_grammar n m) (bytes "on" ++ tabbed (decimal p ∷ output_bytes m o ∷ [])) ≡ Some (Row p o)
unfolding row_line on_row headed fields same bytes
on-said n m p o few small some =
    rw (
      parts-fields (bytes "on") (decimal p ∷ output_bytes m o ∷ []) plain-on (plain-decimal p, (plain-outputs m o, tt)),
      number-decimal 3 p (lit≤ tt) (lit≤ tt) few,
      outputs-written m o small some,
    )
    (ap (λ (v : ℕ). Some (Row p v)) (omega arith))

on_read : (m : ℕ) (l : List ℕ) (p o : ℕ) → on_row m l ≡ Some (Row p o) → (l ≡ bytes "on" ++ tabbed (decimal p ∷ output_bytes m o ∷ [])) × OnLine m p o
unfolding on_row
on_read m l p o e =
    let row = row-fields (headed 3 (bytes "on") l) (point_said (field 1 l)) (outputs m (field 2 l)) p o e in
    let place = point-said (field 1 l) _ row.place_field in
    let value : row.outputs ≡ o = omega (arith, place.1, row.value) in
    let said : outputs m (field 2 l) ≡ Some o = row.outputs_field ∙ ap Some value in
    let point = number_read 3 (field 1 l) p (lit≤ tt) place.0 in
    let found = outputs-read m (field 2 l) o said in (
      two_fields (bytes "on") l (decimal p) (output_bytes m o) row.word point.0 found.0,
      record { digits = point.1; below = outputs-lt m (field 2 l) o said; some = found.1 },
    )

-- ---- a row of a listing

-- what holds of the value v at the term t of n inputs: its outputs are below 2 ^ m and not all 0, and its complemented inputs are among the term's
pub record TermValue (n m t v : ℕ) : Type 0 where
  pub term : t < 2 ^ n
  pub outputs : v % 256 < 2 ^ m
  pub some : v % 256 ≡ 0 → ⊥
  pub within : T (inside (v / 256) t)
  pub small : v < 65536

term-said : (n m t v : ℕ) → TermValue n m t v
    → row_line (listing_grammar n m) (bytes "term" ++ tabbed (cube n t (v / 256) ∷ output_bytes m (v % 256) ∷ [])) ≡ Some (Row t v)
unfolding row_line term_row headed fields same bytes
term-said n m t v g =
    let shown : bit_and t (v / 256) ≡ v / 256 = and_comm t (v / 256) ∙ inside-and (v / 256) t g.within in
    let value : bit_and t (v / 256) * 256 + v % 256 ≡ v = omega arith in
    rw (
      parts-fields (bytes "term") (cube n t (v / 256) ∷ output_bytes m (v % 256) ∷ []) plain-term (plain-cube n t (v / 256), (plain-outputs m (v % 256), tt)),
      cube-written n t (v / 256) g.term,
      outputs-written m (v % 256) g.outputs g.some,
      value,
    )

term-read : (n m : ℕ) (l : List ℕ) (t v : ℕ) → n ≤ 8 → m ≤ 8 → term_row n m l ≡ Some (Row t v)
    → (l ≡ bytes "term" ++ tabbed (cube n t (v / 256) ∷ output_bytes m (v % 256) ∷ [])) × TermValue n m t v
unfolding term_row
term-read n m l t v hn hm e =
    let said = row-fields (headed 3 (bytes "term") l) (cube_said n (field 1 l)) (outputs m (field 2 l)) t v e in
    let shown = cube-said n (field 1 l) _ said.place_field in
    let small = term-small n m (field 1 l) (field 2 l) hn hm _ said.outputs said.place_field said.outputs_field in
    let found = outputs-read m (field 2 l) said.outputs said.outputs_field in
    let below : said.outputs < 2 ^ m = outputs-lt m (field 2 l) said.outputs said.outputs_field in
    let low : said.outputs ≡ v % 256 = omega (arith, points-le m hm, said.value) in
    let high : said.complemented ≡ v / 256 = omega (arith, points-le m hm, said.value) in (
      two_fields (bytes "term") l (cube n t (v / 256)) (output_bytes m (v % 256)) said.word
          (shown.characters ∙ ap (cube n t) high)
          (found.0 ∙ ap (output_bytes m) low),
      record {
        term = shown.term;
        outputs = rw (← low) below;
        some = λ z. found.1 (low ∙ z);
        within = rw (← high) shown.within;
        small = omega (arith, small, said.value);
      },
    )

-- ---- the two kinds

end_said : (g : Grammar) → row_line g (bytes "end") ≡ Some End
unfolding row_line same bytes
end_said g = refl

end_read : (g : Grammar) (l : List ℕ) → row_line g l ≡ Some End → l ≡ bytes "end"
unfolding row_line on_row term_row
end_read g l = go (same l (bytes "end")) g.kind refl where
  go : (t : Bool) (k : Kind) → same l (bytes "end") ≡ t → cond t (Some End) (of_kind k (on_row g.m l) (term_row g.n g.m l)) ≡ Some End → l ≡ bytes "end"
  go true k h e = same-equal l (bytes "end") h
  go false Table h e = absurd (row-never-end (headed 3 (bytes "on") l) (point_said (field 1 l)) (outputs g.m (field 2 l)) e)
  go false Listing h e = absurd (row-never-end (headed 3 (bytes "term") l) (cube_said g.n (field 1 l)) (outputs g.m (field 2 l)) e)

-- "`on`, point, outputs"
pub table-kind : (n m : ℕ) → LineKind (row_line (table_grammar n m)) (bytes "on") (λ p o. decimal p ∷ output_bytes m o ∷ []) (OnLine m)
table-kind n m =
    record {
      plain = plain-on;
      plain_fields = λ p o. (plain-decimal p, (plain-outputs m o, tt));
      some = λ p o good. good.some;
      row_is_said = λ p o good. on-said n m p o good.digits good.below good.some;
      row_read = λ l p o e. on_read m l p o (row-line (table_grammar n m) l p o e);
      end_said = end_said (table_grammar n m);
      end_read = end_read (table_grammar n m);
    }

-- "`term`, cube, outputs"
pub listing-kind : (n m : ℕ) → n ≤ 8 → m ≤ 8
    → LineKind (row_line (listing_grammar n m)) (bytes "term") (λ t v. cube n t (v / 256) ∷ output_bytes m (v % 256) ∷ []) (TermValue n m)
listing-kind n m hn hm =
    record {
      plain = plain-term;
      plain_fields = λ t v. (plain-cube n t (v / 256), (plain-outputs m (v % 256), tt));
      some = λ t v good e. good.some (rw e);
      row_is_said = λ t v good. term-said n m t v good;
      row_read = λ l t v e. term-read n m l t v hn hm (row-line (listing_grammar n m) l t v e);
      end_said = end_said (listing_grammar n m);
      end_read = end_read (listing_grammar n m);
    }

-- a value is one of 16 bits
pub row_small : (g : Grammar) (l : List ℕ) (p v : ℕ) → g.n ≤ 8 → g.m ≤ 8 → row_line g l ≡ Some (Row p v) → v < 65536
row_small g l p v hn hm e = go g.kind (row-line g l p v e) where
  go : (k : Kind) → of_kind k (on_row g.m l) (term_row g.n g.m l) ≡ Some (Row p v) → v < 65536
  go Table e = omega (arith, points-le g.m hm, (on_read g.m l p v e).1.below)
  go Listing e = (term-read g.n g.m l p v hn hm e).1.small
