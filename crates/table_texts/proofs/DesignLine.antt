-- The first line of a table text. It is read as the design that it was written for (`design-said`), and a line that says a design is the line that
-- is written for it, with the characters of its kind of k, or where this is what `-` means with `-` (`design-read`, `kind-read`). What `-` means is `f1` or
-- `f2` (`dash-characters`), and nothing else (`dash-only`). With `table2` and `K` a line is refused by 1 (`kronecker-two`).
use mathlib.Core.Bool.{Bool, true, false, cond}
use mathlib.Core.List.{List, [], ◌∷◌, ◌++◌}
use mathlib.Core.Logic.{inl, inr}
use mathlib.Core.Path.{◌≡◌, refl, sym, ap, ap₂, subst, ◌∙◌}
use Prim.Native.Nat.{ℕ, ◌<◌}
use native.Mathlib.Omega.{arith}
use lib.Dec.{eqb, lit<}
use Rattle.std.specs.Prelude.{Option, Some, None, Err}
use Rattle.std.proofs.lemmas.Option.{none-some}
use Rattle.numbers.specs.declared.refusals.Refusal.TheVariants.{BrokenLine}
use Rattle.numbers.specs.Refusals.{declined}
use Rattle.expansions.specs.declared.families.Family.{Family}
use Rattle.expansions.specs.declared.families.Family.TheVariants.{One, Two}
use Rattle.expansions.specs.declared.kinds.Class.{Class}
use Rattle.expansions.specs.declared.kinds.Class.TheVariants.{Free}
use Rattle.expansions.specs.declared.kinds.Kind.{Kind}
use Rattle.expansions.specs.declared.kinds.Kind.TheVariants.{Mixed, Kronecker}
use Rattle.expansions.proofs.Classes.{most-three}
use Rattle.listings.specs.Parts.{parts, bytes, same, fields, field}
use Rattle.listings.specs.Listing.{tabbed, descending, digit_count, decimal, mixed_mark, mixed_field}
use Rattle.listings.proofs.Joined.{Plain, AllPlain, parts-fields}
use Rattle.listings.proofs.Meaning.{plain-decimal}
use Rattle.listings.proofs.Forms.{plain-mixed_field}
use Rattle.listings.proofs.Words.{same-equal}
use Rattle.fields.specs.declared.heading.Heading.{Heading}
use Rattle.fields.specs.declared.values.Mixed as read
use Rattle.fields.specs.Fields.{and_then, digit, one_digit, mixed_said, family_of, heading_said}
use Rattle.fields.proofs.Written.{one_digit-decimal, mixed_is_said}
use Rattle.fields.proofs.FieldsRead.{one_digit-read, one_digit-lt, mixed-read}
use Rattle.fields.proofs.Headed.{list-each, family-said, family-read, heading-fields}
use Rattle.table_texts.specs.declared.sizes.Design.{Design}
use Rattle.table_texts.specs.Design.{design_refusal, KindSized}
use Rattle.table_texts.specs.First.{mixed_kind, dash_kind, kind_of, table_line, table_word, first_line}
use Rattle.table_texts.specs.Inner.Reading.{judged_first}
use Rattle.table_texts.specs.TableTexts.{kind_field, dash_characters, KindCharacters}
use Rattle.table_texts.specs.Refusals.{OneDigit}

-- ---- the kind of k

-- within the limits a kind has one digit
pub sized-digit : (n : ℕ) (x : Kind) → KindSized n x → OneDigit x
sized-digit n (Mixed C k) s = omega (arith, s.0, most-three C)
sized-digit n Kronecker s = tt

-- a field that says a class and its k is not a word that says none
other-than : (w f : List ℕ) (x : read.Mixed) → mixed_said w ≡ None → mixed_said f ≡ Some x → same f w ≡ false
other-than w f x wrong said = go (same f w) refl where
  go : (t : Bool) → same f w ≡ t → t ≡ false
  go false h = refl
  go true h = absurd (none-some _ (sym wrong ∙ ap mixed_said (sym (same-equal f w h)) ∙ said))

pub kind-mixed : (n : ℕ) (C : Class) (k : ℕ) → k < 10 → kind_of n (mixed_field C k) ≡ Some (Mixed C k)
unfolding kind_of mixed_said one_digit digit bytes
kind-mixed n C k h =
    let said = mixed_is_said C k h in
    let dash = other-than (bytes "-") (mixed_field C k) _ refl said in
    let letter = other-than (bytes "K") (mixed_field C k) _ refl said in
    rw (dash, letter) (ap mixed_kind said)

pub kind-dash : (n : ℕ) → kind_of n (bytes "-") ≡ Some (dash_kind n)
unfolding kind_of same bytes
kind-dash n = refl

pub kind-kronecker : (n : ℕ) → kind_of n (bytes "K") ≡ Some Kronecker
unfolding kind_of same bytes
kind-kronecker n = refl

-- the characters that are written for a kind say it
pub kind-written : (n : ℕ) (x : Kind) → OneDigit x → kind_of n (kind_field x) ≡ Some x
unfolding kind_field
kind-written n (Mixed C k) l = kind-mixed n C k l
kind-written n Kronecker l = kind-kronecker n

pub kind-said : (n : ℕ) (x : Kind) → KindSized n x → kind_of n (kind_field x) ≡ Some x
kind-said n x s = kind-written n x (sized-digit n x s)

-- "`f2`, or `f1` where n = 1", in characters
pub dash-characters : (n : ℕ) → kind_field (dash_kind n) ≡ dash_characters n
unfolding kind_field dash_kind dash_characters mixed_field mixed_mark decimal descending digit_count bytes
dash-characters n = go (eqb n 1) where
  go : (t : Bool) → mixed_field Free (cond t 1 2) ≡ cond t (bytes "f1") (bytes "f2")
  go true = refl
  go false = refl

dash-digit : (n : ℕ) → OneDigit (dash_kind n)
unfolding dash_kind
dash-digit n = go (eqb n 1) where
  go : (t : Bool) → cond t 1 2 < 10
  go true = lit< tt
  go false = lit< tt

-- they say what `-` means, whether or not it is within the limits, and are those of no other kind
pub dash-said : (n : ℕ) → kind_of n (dash_characters n) ≡ Some (dash_kind n)
dash-said n = ap (kind_of n) (sym (dash-characters n)) ∙ kind-written n (dash_kind n) (dash-digit n)

pub dash-only : (n : ℕ) (x : Kind) → OneDigit x → kind_field x ≡ dash_characters n → x ≡ dash_kind n
dash-only n x l h =
    let both : Some x ≡ Some (dash_kind n) = sym (kind-written n x l) ∙ ap (kind_of n) h ∙ dash-said n in cc

class-read : (f : List ℕ) (x : Kind) (y : Option read.Mixed) → mixed_said f ≡ y → mixed_kind y ≡ Some x → f ≡ kind_field x
unfolding kind_field
class-read f x (Some y) h e =
    let same : Mixed y.class y.k ≡ x = cc in
    (mixed-read f y h).0 ∙ ap kind_field same
class-read f x None h e = absurd (none-some _ e)

-- characters that say a kind are those that are written for it, or `-` where it means this kind
pub kind-read : (n : ℕ) (f : List ℕ) (x : Kind) → kind_of n f ≡ Some x → KindCharacters n x f
unfolding kind_of kind_field
kind-read n f x e = go (same f (bytes "-")) refl (same f (bytes "K")) refl e where
  go : (t : Bool) → same f (bytes "-") ≡ t → (u : Bool) → same f (bytes "K") ≡ u
      → cond t (Some (dash_kind n)) (cond u (Some Kronecker) (mixed_kind (mixed_said f))) ≡ Some x → KindCharacters n x f
  go true h u k g =
      let is : dash_kind n ≡ x = cc in
      inr (ap kind_field (sym is) ∙ dash-characters n, same-equal f (bytes "-") h)
  go false h true k g =
      let is : Kronecker ≡ x = cc in
      inl (same-equal f (bytes "K") k ∙ ap kind_field is)
  go false h false k g = inl (class-read f x (mixed_said f) refl g)

class-digit : (f : List ℕ) (x : Kind) (y : Option read.Mixed) → mixed_said f ≡ y → mixed_kind y ≡ Some x → OneDigit x
class-digit f x (Some y) h e =
    let same : Mixed y.class y.k ≡ x = cc in
    subst OneDigit same (mixed-read f y h).1
class-digit f x None h e = absurd (none-some _ e)

-- and where the kind has a k it is one digit
pub kind-digit : (n : ℕ) (f : List ℕ) (x : Kind) → kind_of n f ≡ Some x → OneDigit x
unfolding kind_of
kind-digit n f x e = go (same f (bytes "-")) (same f (bytes "K")) e where
  go : (t u : Bool) → cond t (Some (dash_kind n)) (cond u (Some Kronecker) (mixed_kind (mixed_said f))) ≡ Some x → OneDigit x
  go true u g = let is : dash_kind n ≡ x = cc in subst OneDigit is (dash-digit n)
  go false true g = let is : Kronecker ≡ x = cc in subst OneDigit is tt
  go false false g = class-digit f x (mixed_said f) refl g

-- ---- what is written is read

pub plain-table : (family : Family) → Plain (table_word family)
unfolding table_word bytes
plain-table One = (lit< tt, (lit< tt, (lit< tt, (lit< tt, (lit< tt, tt)))))
plain-table Two = (lit< tt, (lit< tt, (lit< tt, (lit< tt, (lit< tt, (lit< tt, tt))))))

other_word : same (table_word Two) (table_word One) ≡ false
unfolding table_word bytes same
other_word = refl

pub plain-dash : Plain (bytes "-")
unfolding bytes
plain-dash = (lit< tt, tt)

pub plain-kind : (x : Kind) → Plain (kind_field x)
unfolding kind_field bytes
plain-kind (Mixed C k) = plain-mixed_field C k
plain-kind Kronecker = (lit< tt, tt)

-- the characters that say a kind are free of separators
pub plain-said : (n : ℕ) (f : List ℕ) (x : Kind) → kind_of n f ≡ Some x → Plain f
plain-said n f x e = go (kind-read n f x e) where
  go : KindCharacters n x f → Plain f
  go (inl h) = rw h (plain-kind x)
  go (inr h) = rw h.1 plain-dash

pub design-said : (d : Design) (k : List ℕ) → d.n < 10 → d.m < 10 → kind_of d.n k ≡ Some d.kind
    → first_line (table_word d.family ++ tabbed (decimal d.n ∷ decimal d.m ∷ k ∷ [])) ≡ Some d
unfolding first_line fields
design-said d k hn hm e =
    let fs : List (List ℕ) = decimal d.n ∷ decimal d.m ∷ k ∷ [] in
    let plain : AllPlain fs = (plain-decimal d.n, (plain-decimal d.m, (plain-said d.n k d.kind e, tt))) in
    rw (
      family-said table_word plain-table other_word d.family fs plain,
      parts-fields (table_word d.family) fs (plain-table d.family) plain,
      one_digit-decimal d.n hn,
      one_digit-decimal d.m hm,
      e,
    )

-- "`K` is for `table` only; with `table2` it is refusal 1", whatever digits stand for n and m
pub kronecker-two : (n m : ℕ) → n < 10 → m < 10
    → judged_first (first_line (table_word Two ++ tabbed (decimal n ∷ decimal m ∷ kind_field Kronecker ∷ []))) ≡ Err (declined BrokenLine 1)
unfolding judged_first design_refusal kind_field
kronecker-two n m hn hm =
    rw (design-said (record { n = n; m = m; kind = Kronecker; family = Two }) (kind_field Kronecker) hn hm (kind-kronecker n))

-- ---- what is read is what is written

-- the characters of a first line that gives the design d; `has_kind_field` are those for k
pub record DesignRead (l : List ℕ) (d : Design) : Type 0 where
  pub has_kind_field : List ℕ
  pub characters : l ≡ table_word d.family ++ tabbed (decimal d.n ∷ decimal d.m ∷ has_kind_field ∷ [])
  pub said : kind_of d.n has_kind_field ≡ Some d.kind
  pub n_digit : d.n < 10
  pub m_digit : d.m < 10

table-read : (heading : Option Heading) (f : List ℕ) (d : Design) → table_line heading f ≡ Some d
    → (heading ≡ Some (record { family = d.family; n = d.n; m = d.m })) × (kind_of d.n f ≡ Some d.kind)
table-read (Some h) f d e = go (kind_of h.n f) refl e where
  go : (x : Option Kind) → kind_of h.n f ≡ x → and_then x None (λ x. Some (record { n = h.n; m = h.m; kind = x; family = h.family })) ≡ Some d
      → (Some h ≡ Some (record { family = d.family; n = d.n; m = d.m })) × (kind_of d.n f ≡ Some d.kind)
  go (Some x) says g =
      let same : record { n = h.n; m = h.m; kind = x; family = h.family } ≡ d = cc in
      (ap (λ (y : Design). Some (record { family = y.family; n = y.n; m = y.m })) same, ap (λ (y : Design). kind_of y.n f) (sym same) ∙ says ∙ ap (λ (y : Design). Some y.kind) same)
  go None says g = absurd (none-some _ g)
table-read None f d e = absurd (none-some _ e)

pub design-read : (l : List ℕ) (d : Design) → first_line l ≡ Some d → DesignRead l d
unfolding first_line fields
design-read l d e =
    let x : Option Family = family_of 4 (table_word One) (table_word Two) l in
    let line = table-read (heading_said x (one_digit (field 1 l)) (one_digit (field 2 l))) (field 3 l) d e in
    let said = heading-fields x (one_digit (field 1 l)) (one_digit (field 2 l)) _ line.0 in
    let shape = family-read table_word 3 l d.family said.0 in
    let three = list-each (parts 9 l).others 3 shape.1 in
    record {
      has_kind_field = field 3 l;
      characters =
          shape.0
          ∙ ap (λ (fs : List (List ℕ)). table_word d.family ++ tabbed fs)
          (three
          ∙ ap₂ (λ (f g : List ℕ). f ∷ g ∷ field 3 l ∷ [])
          (one_digit-read (field 1 l) d.n said.1)
          (one_digit-read (field 2 l) d.m said.2));
      said = line.1;
      n_digit = one_digit-lt (field 1 l) d.n said.1;
      m_digit = one_digit-lt (field 2 l) d.m said.2;
    }
