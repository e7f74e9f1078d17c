-- Sizes compared: those that pass beside a table's are the table's, which are none that the documents refuse (`alike-sizes`); and these pass beside
-- themselves (`alike_self`).
use mathlib.Core.Bool.{true}
use mathlib.Core.Path.{◌≡◌, refl}
use borrow.Author.Tests.{eq-eqb, eqb-true}
use lib.Dec.{eqb}
use Rattle.std.specs.Prelude.{is_ok}
use Rattle.numbers.specs.Refusals.{sizes_refusal, Sized}
use Rattle.numbers.proofs.Tests.{both_left, both_right}
use Rattle.numbers.proofs.refusals.Judging.{ok_passed, sizes-none, sizes-accepted}
use Rattle.expansions.specs.Classes.{most_mixed}
use Rattle.expansions.specs.Numbered.{class_number, family_number}
use Rattle.expansions.proofs.numbered.Equal.{class-equal, family-equal}
use Rattle.table_texts.specs.declared.sizes.Sizes.{Sizes}
use Rattle.listing_texts.specs.Read.{alike}

pub alike-sizes : (z y : Sizes) → alike z y ≡ true → Sized z.n z.m (most_mixed z.class) z.k × (y ≡ z)
unfolding alike
alike-sizes z y e =
    let judged = is_ok (sizes_refusal z.n z.m (most_mixed z.class) z.k) in
    let one = both_right judged _ e in
    let two = both_right (eqb y.n z.n) _ one in
    let three = both_right (eqb y.m z.m) _ two in
    let four = both_right (eqb y.k z.k) _ three in
    let n : y.n ≡ z.n = eqb-true y.n z.n (both_left (eqb y.n z.n) _ one) in
    let m : y.m ≡ z.m = eqb-true y.m z.m (both_left (eqb y.m z.m) _ two) in
    let k : y.k ≡ z.k = eqb-true y.k z.k (both_left (eqb y.k z.k) _ three) in
    let C = eqb (class_number y.class) (class_number z.class) in
    let class : y.class ≡ z.class = class-equal y.class z.class (eqb-true (class_number y.class) (class_number z.class) (both_left C _ four)) in
    let family : y.family ≡ z.family = family-equal y.family z.family (eqb-true (family_number y.family) (family_number z.family) (both_right C _ four)) in
    let whole : ◌≡◌ {A = Sizes} (record { n = y.n; m = y.m; class = y.class; k = y.k; family = y.family })
    (record { n = z.n; m = z.m; class = z.class; k = z.k; family = z.family }) = rw (n, m, class, k, family) in
    (sizes-none z.n z.m (most_mixed z.class) z.k (ok_passed _ (both_left judged _ e)), whole)

pub alike_self : (z : Sizes) → Sized z.n z.m (most_mixed z.class) z.k → alike z z ≡ true
unfolding alike
alike_self z sized =
    rw (
      sizes-accepted z.n z.m (most_mixed z.class) z.k sized,
      eq-eqb z.n z.n refl,
      eq-eqb z.m z.m refl,
      eq-eqb z.k z.k refl,
      eq-eqb (class_number z.class) (class_number z.class) refl,
      eq-eqb (family_number z.family) (family_number z.family) refl,
    )
