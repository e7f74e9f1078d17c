-- `listing_length` meets its contract: the first word, the digits, the outputs and the products that the record states give the listing's length.
use mathlib.Core.List.{List, [], ◌∷◌}
use mathlib.Core.Path.{◌≡◌}
use Prim.Native.Nat.{ℕ, ◌+◌, ◌*◌, ◌≤◌}
use native.Mathlib.Omega.{arith}
use lib.ListN.{length}
use Rattle.numbers.specs.Bytes.{at}
use Rattle.search.specs.declared.expansion.Expansion.{Expansion}
use Rattle.listings.specs.Listing.{mixed_mark, form_word, listing}
use Rattle.listings.specs.Inner.Lengths.{digits_of}
use Rattle.listings.proofs.Lengths.{digits_of-append, digits_of-le, length-form_word, length-mixed_mark, listing-stated, products-small}
use Rattle.listing_writing.proofs.form.listing_length.Goals as goal
use Rattle.listing_writing.proofs.form.listing_length.Goals.{After-mark_length, Start}

-- the numbers after the field k
abbrev counts : Expansion → List ℕ
counts e = e.mixed ∷ e.fixed ∷ e.products ∷ e.literals ∷ []

-- the bytes of the first line that are neither tabs nor its end: the word, what stands before the digit of k, and the digits
heading : Start → ℕ
heading s =
    let a = s.args in
    length (form_word a.family) + length (mixed_mark a.class) + (digits_of (a.n ∷ a.m ∷ a.k ∷ []) + digits_of (counts a.e))

heading-le : (s : Start) → heading s ≤ 34
unfolding heading
heading-le s =
    let a = s.args in
    omega (
      arith,
      length-form_word a.family,
      length-mixed_mark a.class,
      digits_of-le (a.n ∷ a.m ∷ a.k ∷ []),
      digits_of-le (counts a.e),
    )

-- the whole listing
stated : (s : Start) → let a = s.args in
    17 + heading s + a.m + a.e.products * (a.n + a.m + 7) ≡ length (listing a.class a.family a.n a.m a.k a.e)
unfolding heading
stated s =
    let a = s.args in
    omega (
      arith,
      listing-stated a.class a.family a.n a.m a.k a.e s.requires,
      digits_of-append (a.n ∷ a.m ∷ a.k ∷ []) (counts a.e),
    )

-- what the calls count
counted : (c : After-mark_length) → c.word_length.result + c.mark_length.result + (c.digits_of.result + c.digits_of-2.result) ≡ heading (goal.at.After-mark_length c).Start
unfolding heading
counted c =
    omega (
      arith,
      c.word_length.ensures,
      c.mark_length.ensures,
      c.digits_of.ensures,
      c.digits_of-2.ensures,
    )

-- no more than 256 lines
few : (s : Start) → let a = s.args in a.e.products * (a.n + a.m + 7) ≤ 5888
few s =
    let a = s.args in
    products-small a.n a.m a.e.products (at a.e.coefficients) s.requires.counted s.requires.inputs s.requires.outputs

pub overflow_add-digits : goal.overflow_add-digits
overflow_add-digits c =
    let a = c.args in
    let three = digits_of-le (a.n ∷ a.m ∷ a.k ∷ []) in
    omega (arith, c.digits_of.ensures, c.digits_of-2.ensures, three, digits_of-le (counts a.e))

pub overflow_add-frame : goal.overflow_add-frame
overflow_add-frame c = omega (arith, c.word_length.ensures, length-form_word c.args.family)

pub overflow_add-frame-2 : goal.overflow_add-frame-2
overflow_add-frame-2 c = omega (arith, counted c, heading-le (goal.at.overflow_add-frame-2 c).Start)

pub overflow_add-frame-3 : goal.overflow_add-frame-3
overflow_add-frame-3 c =
    omega (arith, counted c, heading-le (goal.at.overflow_add-frame-3 c).Start, c.requires.outputs)

pub overflow_add-result : goal.overflow_add-result
overflow_add-result c =
    omega (arith, counted c, heading-le (goal.at.overflow_add-result c).Start, c.requires.outputs)

pub overflow_mul-result : goal.overflow_mul-result
overflow_mul-result c = omega (arith, few (goal.at.overflow_mul-result c).Start)

pub overflow_add-result-4 : goal.overflow_add-result-4
overflow_add-result-4 c =
    omega (arith, counted (goal.at.overflow_add-result-4 c).After-mark_length, heading-le (goal.at.overflow_add-result-4 c).Start, c.requires.outputs, few (goal.at.overflow_add-result-4 c).Start)

pub returns : goal.returns
returns c = omega (arith, counted (goal.at.returns c).After-mark_length, stated (goal.at.returns c).Start)
