-- Every row of the table of marked designs holds (`designs-hold`): a test over all rows, which the checker computes, and a law that turns it into the fact
-- at each. Of the rows of W-207's design it follows that a larger k can be dearer (`larger-k-dearer`).
use mathlib.Core.Path.{◌≡◌}
use mathlib.Core.Bool.{Bool, true, ◌&&◌}
use mathlib.Core.List.Memᴰ
use mathlib.Core.List.{List, [], ◌∷◌, ◌++◌, Memᴰ}
use mathlib.Core.Logic.{◌⊎◌, inl, inr}
use Prim.Native.Nat.{ℕ, ◌<◌}
use native.Mathlib.Omega.{arith}
use lib.Count.{ones_in, ones}
use lib.Dec.{T}
use Rattle.numbers.specs.Bytes.{at, tabulate}
use Rattle.numbers.specs.Sums.{fold_below}
use Rattle.numbers.specs.Bits.{inside, pack}
use Rattle.numbers.specs.Tests.{only}
use Rattle.numbers.specs.Refusals.{table_refusal, sizes_refusal}
use Rattle.numbers.proofs.Tests.{same_test, and_intro, and_left, and_right}
use Rattle.algebra.specs.Coefficients.{xor_inside, coefficient}
use Rattle.expansions.specs.Split.{put_digit, low_digit, drop_digit, gather, spread, outside, join}
use Rattle.algebra.specs.Terms.{holds, lowest, value}
use Rattle.algebra.specs.Expand.{remainder, by_digit, expand}
use Rattle.expansions.specs.Classes.{own_polarity}
use Rattle.expansions.specs.Members.{polarity}
use Rattle.expansions.specs.declared.kinds.Class.TheVariants.{Block}
use Rattle.expansions.specs.declared.families.Family.TheVariants.{One}
use Rattle.expansions.specs.Costs.{counted, products, literals}
use Rattle.expansions.specs.Rules.{weight, price}
use Rattle.expansions.specs.Least.{better, first_least, chosen}
use Rattle.expansions.specs.BlockTable.{entry}
use Rattle.expansions.specs.Inner.Answer.{block_function, member_coefficient, block_charge, least_choice, pair_charge, valid_pair, least_pair}
use Rattle.expansions.specs.Inner.Answer.{answer_pair, answer_mixed, answer_fixed, answer_choice, expanded_coefficient, answer_inverted, without_constant, answer_coefficient}
use Rattle.expansions.specs.Outputs.{chosen_table}
use Rattle.expansions.specs.Kronecker.Letters.{literal_of, literal_true, literal_count, letters_of}
use Rattle.expansions.specs.Kronecker.Steps.{step_value, without, kronecker_step, kronecker_coefficient}
use Rattle.expansions.specs.Kronecker.Costs.{term_literals, kronecker_literals, kronecker_charge}
use Rattle.expansions.specs.Inner.KroneckerAnswer.{kind_charge, answer_kind}
use Rattle.expansions.specs.Inner.KroneckerAnswer as kronecker
use Rattle.search.specs.Inner.Answer.{answer_expansion}
use Rattle.kronecker.specs.Inner.Answer.{answer_kronecker}
use Rattle.listings.specs.Parts.{parts, fields, bytes, same}
use Rattle.numbers.specs.Nonzero.{if_nonzero, over_nonzero}
use Rattle.listings.specs.Listing.{tabbed, line, descending, digit_count, decimal, cube_byte, cube, output_bytes, mixed_mark, mixed_field, form_word, form_line, inv_line, cube_line, listing_with, listing}
use Rattle.listings.proofs.Words.{same-equal}
use Rattle.listings.specs.Meaning.{allows, cube_true, literals_in, outputs_said, finished, lines_of, of_term, over_lines, over_terms}
use Rattle.listings.specs.Meaning.{of_inv, listing_inverted, listing_value, listing_products, listing_literals, number_said, first_numbers}
use Rattle.fields.specs.Fields.{digit, one_digit, mixed_said, digits_from, well_formed, number, bits, mask, outputs, headed, family_of}
use Rattle.lines.specs.Rows.{on_row, row_line, unfinished, ended, later_lines}
use Rattle.listings.specs.Kronecker.{letter_byte, letter_bytes, literal_byte, kronecker_cube, kronecker_line, kronecker_listing}
use Rattle.table_texts.specs.Design.{design_refusal}
use Rattle.table_texts.specs.First.{dash_kind, kind_of, table_word, first_line}
use Rattle.table_texts.specs.Inner.Reading.{with_design, judged_first, all_lines, reading}
use Rattle.text.specs.Inner.Compiled.{answer_listing}
use Rattle.text.specs.Judged.{refused_line}
use Rattle.text.specs.Inner.Printed.{printed_for, printed}
use Rattle.designs.specs.Designs.{cost_of, terms_below, computed, Design, states, Holds, base_designs, free_designs, marked_designs}
use Rattle.designs.specs.Designs.{or_table, zero_table, one_table, point_table, without_table, dearer_table, neither_table, opposite_table, printed_table}
use Rattle.designs.specs.Designs.{split_table, plain_table, ends_table, one_of_three_table, none_or_two_table, two_of_three_table, families_table, shared_table, tie_table}

-- ---- the test

-- the definitions give the numbers that are stated
unfoldable agrees : Design → Bool
agrees (states asked stated) = same (computed asked) stated

unfoldable all_agree : List Design → Bool
all_agree [] = true
all_agree (d ∷ ds) = agrees d && all_agree ds

-- ---- the rows

agrees-holds : (d : Design) → T (agrees d) → Holds d
unfolding agrees
agrees-holds (states asked stated) t = same-equal (computed asked) stated (same_test (same (computed asked) stated) true (λ x. tt) (λ x. t))

all_hold : (ds : List Design) → T (all_agree ds) → (d : Design) → Memᴰ d ds → Holds d
unfolding all_agree
all_hold [] t d m = absurd (Memᴰ.not-nil m)
all_hold (e ∷ ds) t d m = go (all_hold ds (and_right (agrees e) (all_agree ds) t) d) (Memᴰ.cases_cons m)
  where
    go : (Memᴰ d ds → Holds d) → (d ≡ e) ⊎ Memᴰ d ds → Holds d
    go rest (inl p) = agrees-holds d (rw p (and_left (agrees e) (all_agree ds) t))
    go rest (inr l) = rest l

base-agree : T (all_agree base_designs)
unfolding same agrees all_agree base_designs computed terms_below or_table zero_table one_table point_table without_table printed_table
    dearer_table opposite_table split_table plain_table ends_table one_of_three_table none_or_two_table two_of_three_table families_table shared_table tie_table
    chosen_table
    fold_below inside pack only tabulate table_refusal sizes_refusal ones_in ones xor_inside coefficient entry
    put_digit low_digit drop_digit gather spread outside join polarity counted weight products literals better first_least chosen
    block_function member_coefficient price block_charge least_choice pair_charge valid_pair least_pair
    answer_pair answer_mixed answer_fixed answer_choice expanded_coefficient answer_inverted without_constant answer_coefficient answer_expansion
    literal_of literal_true literal_count letters_of step_value without kronecker_step kronecker_coefficient term_literals kronecker_literals kronecker_charge
    kind_charge answer_kind kronecker.answer_coefficient answer_kronecker
    letter_byte letter_bytes literal_byte kronecker_cube kronecker_line kronecker_listing design_refusal
    parts fields bytes tabbed line descending digit_count decimal cube_byte cube output_bytes
    mixed_mark mixed_field form_word form_line inv_line cube_line if_nonzero over_nonzero listing_with listing
    allows cube_true literals_in outputs_said finished lines_of of_term over_lines over_terms of_inv listing_inverted listing_value listing_products listing_literals
    number_said first_numbers digit one_digit mixed_said kind_of digits_from well_formed number bits mask outputs headed family_of table_word first_line on_row row_line
    unfinished ended later_lines with_design judged_first all_lines reading answer_listing refused_line printed_for printed
base-agree = tt

free-agree : T (all_agree free_designs)
unfolding same agrees all_agree free_designs computed dearer_table neither_table
    fold_below inside only tabulate table_refusal sizes_refusal ones_in ones xor_inside coefficient holds lowest value remainder by_digit expand own_polarity
    put_digit low_digit drop_digit gather spread outside join polarity counted weight products literals better first_least chosen
    block_function member_coefficient price block_charge least_choice pair_charge valid_pair least_pair
    answer_pair answer_mixed answer_fixed answer_choice expanded_coefficient answer_inverted without_constant answer_coefficient answer_expansion design_refusal
    parts fields bytes tabbed line descending digit_count decimal cube_byte cube output_bytes
    mixed_mark mixed_field form_word form_line inv_line cube_line if_nonzero over_nonzero listing_with listing
    allows cube_true literals_in outputs_said finished lines_of of_term over_lines over_terms of_inv listing_inverted listing_value listing_products listing_literals
    digit one_digit mixed_said dash_kind kind_of digits_from well_formed number bits mask outputs headed family_of table_word first_line on_row row_line
    unfinished ended later_lines with_design judged_first all_lines reading answer_listing printed_for printed
free-agree = tt

-- the two lists are tested apart, since the checker computes no more than so much at a time
all-agree : (ds es : List Design) → T (all_agree ds) → T (all_agree es) → T (all_agree (ds ++ es))
unfolding all_agree
all-agree [] es t u = u
all-agree (d ∷ ds) es t u =
    and_intro (agrees d) (all_agree (ds ++ es)) (and_left (agrees d) (all_agree ds) t) (all-agree ds es (and_right (agrees d) (all_agree ds) t) u)

pub designs-hold : (d : Design) → Memᴰ d marked_designs → Holds d
unfolding marked_designs
designs-hold = all_hold (base_designs ++ free_designs) (all-agree base_designs free_designs base-agree free-agree)

-- ---- a larger k can be dearer

module _ (k cost literals : ℕ) where
  row : Design
  row = states (cost_of Block One 3 k dearer_table) (cost ∷ literals ∷ [])

  row-products : Memᴰ row marked_designs → products 3 (answer_coefficient Block One 3 k (at dearer_table)) ≡ cost
  unfolding row computed
  row-products m = let costs = designs-hold row m in cc

pub larger-k-dearer : products 3 (answer_coefficient Block One 3 2 (at dearer_table)) < products 3 (answer_coefficient Block One 3 3 (at dearer_table))
unfolding base_designs marked_designs row
larger-k-dearer =
    let two = row-products 2 2 5 (search (Memᴰ.head, Memᴰ.tail) depth 16) in
    let three = row-products 3 3 6 (search (Memᴰ.head, Memᴰ.tail) depth 16) in
    omega arith
