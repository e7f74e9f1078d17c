-- Document 01, "Marked designs", its printed example, the limits that it names and some worked texts and listings, with designs for document 02's
-- `K`, for its two families, for its inverters, for fewer outputs, for its free class and for `-`, as one table: "The marked designs form one proved table
-- over the definitions with a shared statement". A row is a question about the definitions and the numbers that answer it; bytes are numbers too. The one
-- statement is that they are equal, at every row (proofs/Designs, `designs-hold`).
use Rattle.std.specs.Prelude.{List, [], ◌∷◌, ◌++◌, ◌≡◌, ℕ, zero, suc, ◌^◌, set, replicate}
use Prim.Native.String.{String}
use Rattle.numbers.specs.declared.refusals.Refusal.{Refusal}
use Rattle.numbers.specs.declared.refusals.Refusal.TheVariants as refusals
use Rattle.numbers.specs.Refusals.{number_of}
use Rattle.numbers.specs.Bytes.{at, tabulate}
use Rattle.algebra.specs.Coefficients.{coefficient}
use Rattle.expansions.specs.Costs.{products, literals}
use Rattle.expansions.specs.BlockTable.{entry}
use Rattle.expansions.specs.Inner.Answer.{answer_inverted, answer_mixed, answer_fixed, without_constant, answer_coefficient}
use Rattle.expansions.specs.declared.families.Family.{Family}
use Rattle.expansions.specs.declared.families.Family.TheVariants.{One, Two}
use Rattle.expansions.specs.declared.kinds.Class.{Class}
use Rattle.expansions.specs.declared.kinds.Class.TheVariants.{Block, Free}
use Rattle.expansions.specs.declared.kinds.Kind.{Kind}
use Rattle.expansions.specs.declared.kinds.Kind.TheVariants.{Mixed, Kronecker}
use Rattle.expansions.specs.Outputs.{chosen_table}
use Rattle.expansions.specs.Kronecker.Costs.{kronecker_literals}
use Rattle.expansions.specs.Inner.KroneckerAnswer as kronecker
use Rattle.expansions.specs.Inner.KroneckerAnswer.{answer_letters}
use Rattle.search.specs.declared.expansion.Expansion.{Expansion}
use Rattle.listings.specs.Parts.{bytes}
use Rattle.listings.specs.Listing.{listing}
use Rattle.listings.specs.Kronecker.{letter_bytes}
use Rattle.listings.specs.Meaning.{listing_value, listing_products, listing_literals, first_numbers}
use Rattle.table_texts.specs.Inner.Reading.{Reading, given, refused, reading}
use Rattle.text.specs.Inner.Printed.{printed}

-- ---- questions

-- what a row asks
pub data Asked : Type 0 where
  -- the terms of a table of n inputs at the polarity w
  terms_at : (n w : ℕ) → List ℕ → Asked
  -- how many terms these are besides the constant, and their literals: the products and the literals of the fixed-polarity expansion with inverters
  cost_at : (n w : ℕ) → List ℕ → Asked
  -- entry (g, φ) of the block table
  entry_at : (g φ : ℕ) → Asked
  -- M, i, products, literals and the inversion mask of the class's and the family's answer for a table of n inputs with k mixed
  answer_for : Class → Family → (n k : ℕ) → List ℕ → Asked
  -- its products and literals
  cost_of : Class → Family → (n k : ℕ) → List ℕ → Asked
  -- the letters, from xn down, and the products and literals of the Kronecker answer for a table of n inputs
  kind_for : (n : ℕ) → List ℕ → Asked
  -- the chosen outputs of a table of m outputs
  chosen_of : (m s : ℕ) → List ℕ → Asked
  -- what a table text means
  meaning_of : String → Asked
  -- what the program prints for a text: the listing of the answer, or the line `refused`
  printed_of : String → Asked
  -- the listing of a record of a class, of n inputs, m outputs and k mixed inputs, for a part of the family
  listing_of : Class → Family → (n m k : ℕ) → Expansion → Asked
  -- the numbers on the first line of a listing
  first_line_of : List ℕ → Asked
  -- the products and the literals of a listing, counted on its `term` lines
  counts_of : List ℕ → Asked
  -- the table of n inputs that a listing gives, read from its own lines
  table_of : (n : ℕ) → List ℕ → Asked
  -- the number of a refusal
  numbered : Refusal → Asked

-- the terms below N that have a coefficient, ascending
unfoldable pub terms_below : ℕ → (ℕ → ℕ) → List ℕ
terms_below zero c = []
terms_below (suc N) c = elim (c N) [ zero ↦ terms_below N c | suc x ↦ terms_below N c ++ (N ∷ []) ]

-- the products and literals of the class's and the family's answer
abbrev pub costs : Class → Family → ℕ → ℕ → List ℕ → List ℕ
costs C F n k table = products n (answer_coefficient C F n k (at table)) ∷ literals n (answer_coefficient C F n k (at table)) ∷ []

-- the letters from xn down, and the products and literals, of the Kronecker answer
abbrev pub kind_costs : ℕ → List ℕ → List ℕ
kind_costs n table =
    letter_bytes n (answer_letters n (at table))
    ++ products n (kronecker.answer_coefficient n (at table))
    ∷ kronecker_literals n (answer_letters n (at table)) (kronecker.answer_coefficient n (at table))
    ∷ []

-- the kind of k, in numbers: k itself, the character `f` and k, or the character `K`
abbrev pub kind_stated : Kind → List ℕ
kind_stated (Mixed Block k) = k ∷ []
kind_stated (Mixed Free k) = bytes "f" ++ k ∷ []
kind_stated Kronecker = bytes "K"

-- the family, in numbers
abbrev pub family_stated : Family → ℕ
family_stated One = 1
family_stated Two = 2

-- an accepted text: the family, n, m, the kind of k and the 256 bytes of its table
abbrev pub accepted : Family → (n m : ℕ) → Kind → List ℕ → List ℕ
accepted family n m kind table = family_stated family ∷ n ∷ m ∷ kind_stated kind ++ table

-- a refused text: "A refusal returns its number and the line"
abbrev pub refusal : (number line : ℕ) → List ℕ
refusal number line = number ∷ line ∷ []

-- what a text means, in numbers: two under a refusal, and more where it is accepted
abbrev pub meaning : Reading → List ℕ
meaning (given design table) = accepted design.family design.n design.m design.kind table
meaning (refused why line) = refusal (number_of why) line

-- the numbers that the definitions give
unfoldable pub computed : Asked → List ℕ
computed (terms_at n w table) = terms_below (2 ^ n) (coefficient n w (at table))
computed (cost_at n w table) = products n (without_constant (coefficient n w (at table))) ∷ literals n (without_constant (coefficient n w (at table))) ∷ []
computed (entry_at g φ) = entry g φ ∷ []
computed (answer_for C F n k table) =
    answer_mixed C F n k (at table) ∷ answer_fixed C F n k (at table) ∷ costs C F n k table ++ answer_inverted C F n k (at table) ∷ []
computed (cost_of C F n k table) = costs C F n k table
computed (kind_for n table) = kind_costs n table
computed (chosen_of m s table) = chosen_table m s table
computed (meaning_of text) = meaning (reading (bytes text))
computed (printed_of text) = printed (bytes text)
computed (listing_of C family n m k e) = listing C family n m k e
computed (first_line_of s) = first_numbers s
computed (counts_of s) = listing_products s ∷ listing_literals s ∷ []
computed (table_of n s) = tabulate (2 ^ n) (listing_value s)
computed (numbered why) = number_of why ∷ []

-- a row: what is asked, and the numbers that the documents answer with
pub data Design : Type 0 where
  states : Asked → List ℕ → Design

-- what a row says
abbrev pub Holds : Design → Type 0
Holds (states asked stated) = computed asked ≡ stated

-- ---- tables, texts and records

-- "OR of two inputs (points 1, 2, 3)"
unfoldable pub or_table : List ℕ
or_table = 0 ∷ 1 ∷ 1 ∷ 1 ∷ []

-- "All zero .. at n = 2"
unfoldable pub zero_table : List ℕ
zero_table = 0 ∷ 0 ∷ 0 ∷ 0 ∷ []

-- "All one, m = 1 .. at n = 2"
unfoldable pub one_table : List ℕ
one_table = 1 ∷ 1 ∷ 1 ∷ 1 ∷ []

-- "n = 1, only point 0 on"
unfoldable pub point_table : List ℕ
point_table = 1 ∷ 0 ∷ []

-- "Output 0 is x1, output 1 is x2 without x1 (n = 2)"
unfoldable pub without_table : List ℕ
without_table = 0 ∷ 1 ∷ 2 ∷ 1 ∷ []

-- document 02, W-207, "x1x3 on output 0 with x2x3 without x1 on output 1 (n = 3)"
unfoldable pub dearer_table : List ℕ
dearer_table = 0 ∷ 0 ∷ 0 ∷ 0 ∷ 0 ∷ 1 ∷ 2 ∷ 1 ∷ []

-- its text with the free class and one mixed input
abbrev pub dearer_text : String
dearer_text = "table\t3\t2\tf1\non\t5\t10\non\t6\t01\non\t7\t10\nend\n"

-- its listing
abbrev pub dearer_listing : String
dearer_listing = "form\t3\t2\tf1\t1\t0\t2\t5\ninv\t00\nterm\t1-1\t10\nterm\t110\t01\nend\n"

-- under x3, output 0 is x1, output 1 is x2, and output 2 neither (n = 3): the terms of one block, each best with its own polarity
unfoldable pub neither_table : List ℕ
neither_table = 0 ∷ 0 ∷ 0 ∷ 0 ∷ 4 ∷ 1 ∷ 2 ∷ 3 ∷ []

-- its text with the free class and two mixed inputs
abbrev pub neither_text : String
neither_text = "table\t3\t3\tf2\non\t4\t001\non\t5\t100\non\t6\t010\non\t7\t110\nend\n"

-- its listing: x1 and x2 are plain in two terms, and complemented in the third
abbrev pub neither_listing : String
neither_listing = "form\t3\t3\tf2\t3\t0\t3\t7\ninv\t000\nterm\t1-1\t100\nterm\t11-\t010\nterm\t100\t001\nend\n"

-- output 0 is none of three inputs, output 1 exactly two of them
unfoldable pub none_or_two_table : List ℕ
none_or_two_table = 1 ∷ 0 ∷ 0 ∷ 2 ∷ 0 ∷ 2 ∷ 2 ∷ 0 ∷ []

-- exactly two of three inputs
unfoldable pub two_of_three_table : List ℕ
two_of_three_table = 0 ∷ 0 ∷ 0 ∷ 1 ∷ 0 ∷ 1 ∷ 1 ∷ 0 ∷ []

-- output 0 is x2, output 1 is x2 complemented (n = 2)
unfoldable pub opposite_table : List ℕ
opposite_table = 2 ∷ 2 ∷ 1 ∷ 1 ∷ []

-- its text
abbrev pub opposite_text : String
opposite_text = "table\t2\t2\t0\non\t0\t01\non\t1\t01\non\t2\t10\non\t3\t10\nend\n"

-- its listing: with one output inverted a single product serves both, and of the two masks that do it the lesser is 1
abbrev pub opposite_listing : String
opposite_listing = "form\t2\t2\t0\t0\t2\t1\t1\ninv\t10\nterm\t0-\t11\nend\n"

-- the table of the text that is printed in document 01, "Text in, listing out"
unfoldable pub printed_table : List ℕ
printed_table = 2 ∷ 1 ∷ 1 ∷ 1 ∷ []

-- that text: "Given this (a space stands for each tab)"
abbrev pub printed_text : String
printed_text = "table\t2\t2\t1\non\t0\t01\non\t1\t10\non\t2\t10\non\t3\t10\nend\n"

-- the listing that document 02, W-205, makes of it: "`inv 10` with the sole term `00 11`, 1 product and 2 literals"
abbrev pub printed_listing : String
printed_listing = "form\t2\t2\t1\t1\t2\t1\t2\ninv\t10\nterm\t00\t11\nend\n"

-- the same text with `-` for k
abbrev pub printed_text_dash : String
printed_text_dash = "table\t2\t2\t-\non\t0\t01\non\t1\t10\non\t2\t10\non\t3\t10\nend\n"

-- its listing: both inputs are mixed
abbrev pub printed_listing_dash : String
printed_listing_dash = "form\t2\t2\tf2\t3\t0\t1\t2\ninv\t10\nterm\t00\t11\nend\n"

-- the text with `1` for a part of family two
abbrev pub printed_text2 : String
printed_text2 = "table2\t2\t2\t1\non\t0\t01\non\t1\t10\non\t2\t10\non\t3\t10\nend\n"

-- its listing, of the same expansion: 1 product and 2 literals are the least charge too, 6
abbrev pub printed_listing2 : String
printed_listing2 = "form2\t2\t2\t1\t1\t2\t1\t2\ninv\t10\nterm\t00\t11\nend\n"

-- the listing of the all-zero table at k = 2
abbrev pub zero_listing : String
zero_listing = "form\t2\t1\t2\t3\t0\t0\t0\ninv\t0\nend\n"

-- the listing of the all-one table at k = 0
abbrev pub one_listing : String
one_listing = "form\t2\t1\t0\t0\t0\t0\t0\ninv\t1\nend\n"

-- the constant 1 beside an inverter, which is not the answer for what it gives: all zero
abbrev pub cancelled_listing : String
cancelled_listing = "form\t2\t1\t0\t0\t0\t1\t0\ninv\t1\nterm\t--\t1\nend\n"

-- the listing of n = 1, only point 0 on
abbrev pub point_listing : String
point_listing = "form\t1\t1\t0\t0\t1\t1\t1\ninv\t0\nterm\t0\t1\nend\n"

-- the listing of OR at k = 0 and i = 0, which is not its answer
abbrev pub or_listing : String
or_listing = "form\t2\t1\t0\t0\t0\t3\t4\ninv\t0\nterm\t-1\t1\nterm\t1-\t1\nterm\t11\t1\nend\n"

-- output 0 is x2 complemented, output 1 is x1 with x2 (n = 2): x2 is taken the Shannon way
unfoldable pub split_table : List ℕ
split_table = 1 ∷ 1 ∷ 0 ∷ 2 ∷ []

-- the text of that design, with `K`
abbrev pub split_text : String
split_text = "table\t2\t2\tK\non\t0\t10\non\t1\t10\non\t3\t01\nend\n"

-- its listing: x2 Shannon, x1 positive Davio
abbrev pub split_listing : String
split_listing = "kron\t2\t2\tSP\t2\t3\nterm\t0-\t10\nterm\t11\t01\nend\n"

-- x1 of two inputs
unfoldable pub plain_table : List ℕ
plain_table = 0 ∷ 1 ∷ 0 ∷ 1 ∷ []

-- points 0 and 7 of three inputs, an output each: a decoder of two addresses
unfoldable pub ends_table : List ℕ
ends_table = 1 ∷ 0 ∷ 0 ∷ 0 ∷ 0 ∷ 0 ∷ 0 ∷ 2 ∷ []

-- exactly one of three inputs
unfoldable pub one_of_three_table : List ℕ
one_of_three_table = 0 ∷ 1 ∷ 1 ∷ 0 ∷ 1 ∷ 0 ∷ 0 ∷ 0 ∷ []

-- a table of four inputs on which the families choose differently
unfoldable pub families_table : List ℕ
families_table = 0 ∷ 0 ∷ 0 ∷ 2 ∷ 0 ∷ 0 ∷ 3 ∷ 0 ∷ 0 ∷ 2 ∷ 3 ∷ 1 ∷ 0 ∷ 3 ∷ 1 ∷ 2 ∷ []

-- its text for family two
abbrev pub families_text : String
families_text =
    "table2\t4\t2\t0\non\t3\t01\non\t6\t11\non\t9\t01\non\t10\t11\non\t11\t10\non\t13\t11\non\t14\t10\non\t15\t01\nend\n"

-- and the listing that the evaluator writes for it
abbrev pub families_listing : List ℕ
families_listing =
    bytes "form2\t4\t2\t0\t0\t11\t10\t19\ninv\t10\nterm\t---0\t01\nterm\t--0-\t11\nterm\t-1--\t11\nterm\t-1-0\t10\n"
    ++ bytes "term\t-10-\t01\nterm\t0---\t11\nterm\t0-0-\t10\nterm\t0-00\t01\nterm\t01--\t10\nterm\t0100\t10\nend\n"

-- the same table with a third output, x1 with x2
unfoldable pub shared_table : List ℕ
shared_table = 0 ∷ 0 ∷ 0 ∷ 6 ∷ 0 ∷ 0 ∷ 3 ∷ 4 ∷ 0 ∷ 2 ∷ 3 ∷ 5 ∷ 0 ∷ 3 ∷ 1 ∷ 6 ∷ []

-- a table of four inputs on which two expansions have the least charge of family two
unfoldable pub tie_table : List ℕ
tie_table = 0 ∷ 0 ∷ 0 ∷ 2 ∷ 0 ∷ 2 ∷ 3 ∷ 3 ∷ 0 ∷ 3 ∷ 1 ∷ 0 ∷ 3 ∷ 1 ∷ 2 ∷ 1 ∷ []

-- the listing of one product of four inputs
abbrev pub four_listing : String
four_listing = "form\t4\t1\t0\t0\t10\t1\t4\ninv\t0\nterm\t0101\t1\nend\n"

-- 256 bytes, all zero: "Points not listed are all zero."
abbrev pub zeros : List ℕ
zeros = replicate 256 0

-- a record by its coefficients, its block polarities, M, i, products, literals and its inversion mask
abbrev pub recorded : (c φ : List ℕ) (M i products literals v : ℕ) → Expansion
recorded c φ M i p l v = record { coefficients = c; blocks = φ; mixed = M; fixed = i; products = p; literals = l; inverted = v }

-- ---- the table

-- the marked designs, the printed example, texts by what they mean, and listings by what they say, but for the free class
unfoldable pub base_designs : List Design
base_designs =
    -- "terms at w = 0 are 1, 2, 3; at w = 1 are 0, 1, 3; at w = 2 are 0, 2, 3; at w = 3 are 0, 3"
    states (terms_at 2 0 or_table) (1 ∷ 2 ∷ 3 ∷ [])
    ∷ states (terms_at 2 1 or_table) (0 ∷ 1 ∷ 3 ∷ [])
    ∷ states (terms_at 2 2 or_table) (0 ∷ 2 ∷ 3 ∷ [])
    ∷ states (terms_at 2 3 or_table) (0 ∷ 3 ∷ [])
    -- "(150, 0) is 22; (150, 7) is 23; (136, 0) is 8; (12, 5) is 64"
    ∷ states (entry_at 150 0) (22 ∷ [])
    ∷ states (entry_at 150 7) (23 ∷ [])
    ∷ states (entry_at 136 0) (8 ∷ [])
    ∷ states (entry_at 12 5) (64 ∷ [])
    -- document 02, W-207, "3 products at k = 3, yet 2 at k = 1": a larger k can be dearer
    ∷ states (cost_of Block One 3 0 dearer_table) (3 ∷ 6 ∷ [])
    ∷ states (cost_of Block One 3 1 dearer_table) (2 ∷ 5 ∷ [])
    ∷ states (cost_of Block One 3 2 dearer_table) (2 ∷ 5 ∷ [])
    ∷ states (cost_of Block One 3 3 dearer_table) (3 ∷ 6 ∷ [])
    -- document 02, W-206, "any non-empty choice of its outputs": output 1 alone has fewer products, 3 against 4, and more literals, 7 against 6
    ∷ states (chosen_of 2 2 none_or_two_table) two_of_three_table
    ∷ states (cost_of Block One 3 1 none_or_two_table) (4 ∷ 6 ∷ [])
    ∷ states (cost_of Block One 3 1 two_of_three_table) (3 ∷ 7 ∷ [])
    -- family two: outputs 0 and 1 of three have the smaller charge, 4 * 10 + 19 = 59 against 4 * 9 + 24 = 60, and more products
    ∷ states (chosen_of 3 3 shared_table) families_table
    ∷ states (cost_of Block Two 4 0 shared_table) (9 ∷ 24 ∷ [])
    ∷ states (cost_of Block Two 4 0 families_table) (10 ∷ 19 ∷ [])
    -- "M = 2^k − 1, i = 0, 0 products", and so 0 literals, and no output inverted
    ∷ states (answer_for Block One 2 0 zero_table) (0 ∷ 0 ∷ 0 ∷ 0 ∷ 0 ∷ [])
    ∷ states (answer_for Block One 2 1 zero_table) (1 ∷ 0 ∷ 0 ∷ 0 ∷ 0 ∷ [])
    ∷ states (answer_for Block One 2 2 zero_table) (3 ∷ 0 ∷ 0 ∷ 0 ∷ 0 ∷ [])
    -- document 02, W-205: "all one costs nothing", and its output is inverted
    ∷ states (answer_for Block One 2 0 one_table) (0 ∷ 0 ∷ 0 ∷ 0 ∷ 1 ∷ [])
    ∷ states (answer_for Block One 2 1 one_table) (1 ∷ 0 ∷ 0 ∷ 0 ∷ 1 ∷ [])
    ∷ states (answer_for Block One 2 2 one_table) (3 ∷ 0 ∷ 0 ∷ 0 ∷ 1 ∷ [])
    -- "n = 1, only point 0 on, k = 0: i = 1, 1 product, 1 literal", and M = 0; of the two masks the lesser
    ∷ states (answer_for Block One 1 0 point_table) (0 ∷ 1 ∷ 1 ∷ 1 ∷ 0 ∷ [])
    -- document 02, W-205: "01's last design 2 and 3 at every k"
    ∷ states (cost_of Block One 2 0 without_table) (2 ∷ 3 ∷ [])
    ∷ states (cost_of Block One 2 1 without_table) (2 ∷ 3 ∷ [])
    ∷ states (cost_of Block One 2 2 without_table) (2 ∷ 3 ∷ [])
    -- with k = 1 no output is inverted; with k = 0 and k = 2 output 0
    ∷ states (answer_for Block One 2 0 without_table) (0 ∷ 1 ∷ 2 ∷ 3 ∷ 1 ∷ [])
    ∷ states (answer_for Block One 2 1 without_table) (1 ∷ 0 ∷ 2 ∷ 3 ∷ 0 ∷ [])
    ∷ states (answer_for Block One 2 2 without_table) (3 ∷ 0 ∷ 2 ∷ 3 ∷ 1 ∷ [])
    -- "Equal costs .. go to the least mask, then to the least M, i": mask 1 with i = 2, where i = 0 would invert output 1, mask 2
    ∷ states (answer_for Block One 2 0 opposite_table) (0 ∷ 2 ∷ 1 ∷ 1 ∷ 1 ∷ [])
    ∷ states (printed_of opposite_text) (bytes opposite_listing)
    ∷ states (table_of 2 (bytes opposite_listing)) opposite_table
    -- "`inv 10` with the sole term `00 11`, 1 product and 2 literals"
    ∷ states (answer_for Block One 2 1 printed_table) (1 ∷ 2 ∷ 1 ∷ 2 ∷ 1 ∷ [])
    -- the printed example, from its text to its listing, byte for byte
    ∷ states (printed_of printed_text) (bytes printed_listing)
    -- likewise all zero at k = 2, all one at k = 0, and n = 1 with only point 0 on
    ∷ states (printed_of "table\t2\t1\t2\nend\n") (bytes zero_listing)
    ∷ states (printed_of "table\t2\t1\t0\non\t0\t1\non\t1\t1\non\t2\t1\non\t3\t1\nend\n") (bytes one_listing)
    ∷ states (printed_of "table\t1\t1\t0\non\t0\t1\nend\n") (bytes point_listing)
    -- "the line `refused`, number, line"
    ∷ states (printed_of "table\t2\t1\t1\non\t1\t1\non\t1\t1\nend\n") (bytes "refused\t5\t3\n")
    -- the reading call "fills a lent table of 256 bytes, zero from 2^n on, and returns n, m, k"
    ∷ states (meaning_of printed_text) (accepted One 2 2 (Mixed Block 1) (printed_table ++ replicate 252 0))
    -- "1. A text line breaks its grammar", "2. n is not 1 to 8", "3. m is not 1 to 8", "4. k is above 3 or above n", "5. A point is 2^n or more"
    ∷ states (numbered refusals.BrokenLine) (1 ∷ [])
    ∷ states (numbered refusals.InputCount) (2 ∷ [])
    ∷ states (numbered refusals.OutputCount) (3 ∷ [])
    ∷ states (numbered refusals.MixedCount) (4 ∷ [])
    ∷ states (numbered refusals.PointOrder) (5 ∷ [])
    -- "6. The text stops", "7. A polarity w is 2^n or more", "8. A lent table .. has another length", "9. A byte .. has a bit at m or above set"
    ∷ states (numbered refusals.TextEnd) (6 ∷ [])
    ∷ states (numbered refusals.PolarityRange) (7 ∷ [])
    ∷ states (numbered refusals.BufferLength) (8 ∷ [])
    ∷ states (numbered refusals.HighBit) (9 ∷ [])
    -- "10. The output buffer is shorter than the listing."; W-201: "A broken listing line .. is 11", "n, m or k unlike the table's is 12"
    ∷ states (numbered refusals.OutputRoom) (10 ∷ [])
    ∷ states (numbered refusals.BrokenListing) (11 ∷ [])
    ∷ states (numbered refusals.UnlikeListing) (12 ∷ [])
    -- "Empty text is refusal 6, line 1."
    ∷ states (meaning_of "") (refusal 6 1)
    -- "n = 8 with point 255 is accepted, 256 is refusal 5."
    ∷ states (meaning_of "table\t8\t1\t0\non\t255\t1\nend\n") (accepted One 8 1 (Mixed Block 0) (set zeros 255 1))
    ∷ states (meaning_of "table\t8\t1\t0\non\t256\t1\nend\n") (refusal 5 2)
    -- "n = 2, k = 2 is accepted, n = 2, k = 3 is refusal 4."
    ∷ states (meaning_of "table\t2\t1\t2\nend\n") (accepted One 2 1 (Mixed Block 2) zeros)
    ∷ states (meaning_of "table\t2\t1\t3\nend\n") (refusal 4 1)
    -- "Digits keep the block class."
    ∷ states (meaning_of "table\t2\t1\t1\nend\n") (accepted One 2 1 (Mixed Block 1) zeros)
    -- "In line 1 the order is 1, 2, 3, 4."
    ∷ states (meaning_of "table\t9\t9\tx\nend\n") (refusal 1 1)
    ∷ states (meaning_of "table\t9\t9\t9\nend\n") (refusal 2 1)
    ∷ states (meaning_of "table\t8\t9\t9\nend\n") (refusal 3 1)
    -- refusal 1 comes before refusal 5; "no leading zero (but `0`)"
    ∷ states (meaning_of "table\t2\t2\t1\non\t300\t12\nend\n") (refusal 1 2)
    ∷ states (meaning_of "table\t2\t1\t1\non\t01\t1\nend\n") (refusal 1 2)
    -- "A point is 2^n or more, or not above the one before."
    ∷ states (meaning_of "table\t2\t1\t1\non\t1\t1\non\t1\t1\nend\n") (refusal 5 3)
    -- "bytes follow `end`", "a missing byte 10", and "The text stops where a line should begin and no `end` line has come"
    ∷ states (meaning_of "table\t2\t1\t1\nend\n\n") (refusal 6 3)
    ∷ states (meaning_of "table\t2\t1\t1\nend") (refusal 1 2)
    ∷ states (meaning_of "table\t2\t1\t1\n") (refusal 6 2)
    -- `K`: all zero, "the letters that come first"
    ∷ states (kind_for 2 zero_table) (bytes "SS" ++ 0 ∷ 0 ∷ [])
    -- x2 is best taken the Shannon way, as dear as k = 1
    ∷ states (kind_for 2 split_table) (bytes "SP" ++ 2 ∷ 3 ∷ [])
    ∷ states (cost_of Block One 2 1 split_table) (2 ∷ 3 ∷ [])
    -- x2, which does not matter, the positive Davio way; of the letters of x1, of which S and P cost alike, S comes first
    ∷ states (kind_for 2 plain_table) (bytes "PS" ++ 1 ∷ 1 ∷ [])
    -- both inputs of OR the negative Davio way
    ∷ states (kind_for 2 or_table) (bytes "NN" ++ 2 ∷ 2 ∷ [])
    -- two addresses cost 2 and 6 with `K`, and at least 4 products with each k
    ∷ states (kind_for 3 ends_table) (bytes "SSS" ++ 2 ∷ 6 ∷ [])
    ∷ states (cost_of Block One 3 0 ends_table) (5 ∷ 10 ∷ [])
    ∷ states (cost_of Block One 3 1 ends_table) (4 ∷ 9 ∷ [])
    ∷ states (cost_of Block One 3 2 ends_table) (4 ∷ 9 ∷ [])
    ∷ states (cost_of Block One 3 3 ends_table) (5 ∷ 10 ∷ [])
    -- with `K` too output 1 alone has fewer products and more literals
    ∷ states (kind_for 3 none_or_two_table) (bytes "NNN" ++ 4 ∷ 6 ∷ [])
    ∷ states (kind_for 3 two_of_three_table) (bytes "SPP" ++ 3 ∷ 7 ∷ [])
    -- exactly one of three inputs costs 3 and 7 with `K`, and 3 and 6 with k = 2
    ∷ states (kind_for 3 one_of_three_table) (bytes "SNN" ++ 3 ∷ 7 ∷ [])
    ∷ states (cost_of Block One 3 2 one_of_three_table) (3 ∷ 6 ∷ [])
    -- a text with `K`, from its text to its listing, byte for byte, and what the listing says
    ∷ states (meaning_of split_text) (accepted One 2 2 Kronecker (split_table ++ replicate 252 0))
    ∷ states (printed_of split_text) (bytes split_listing)
    ∷ states (counts_of (bytes split_listing)) (2 ∷ 3 ∷ [])
    ∷ states (table_of 2 (bytes split_listing)) split_table
    -- with `K` the order of line 1 is the same, and 4 cannot apply
    ∷ states (meaning_of "table\t9\t9\tK\nend\n") (refusal 2 1)
    ∷ states (meaning_of "table\t1\t9\tK\nend\n") (refusal 3 1)
    ∷ states (meaning_of "table\t1\t1\tK\nend\n") (accepted One 1 1 Kronecker zeros)
    ∷ states (meaning_of "table\t1\t1\tk\nend\n") (refusal 1 1)
    -- "A table that begins `table2`", "Its listing begins `form2`", "The reading call returns the family too"
    ∷ states (meaning_of printed_text2) (accepted Two 2 2 (Mixed Block 1) (printed_table ++ replicate 252 0))
    ∷ states (printed_of printed_text2) (bytes printed_listing2)
    ∷ states (listing_of Block Two 2 2 1 (recorded (0 ∷ 0 ∷ 0 ∷ 3 ∷ []) (0 ∷ 1 ∷ []) 1 2 1 2 1)) (bytes printed_listing2)
    ∷ states (first_line_of (bytes printed_listing2)) (2 ∷ 2 ∷ 1 ∷ 1 ∷ 2 ∷ 1 ∷ 2 ∷ [])
    ∷ states (table_of 2 (bytes printed_listing2)) printed_table
    -- with `table2` the order of line 1 is the same
    ∷ states (meaning_of "table2\t2\t1\t1\nend\n") (accepted Two 2 1 (Mixed Block 1) zeros)
    ∷ states (meaning_of "table2\t9\t1\t1\nend\n") (refusal 2 1)
    ∷ states (meaning_of "table2\t8\t9\t9\nend\n") (refusal 3 1)
    ∷ states (meaning_of "table2\t2\t1\t3\nend\n") (refusal 4 1)
    -- "`K` is for `table` only; with `table2` it is refusal 1", also where n or m is none
    ∷ states (meaning_of "table2\t2\t1\tK\nend\n") (refusal 1 1)
    ∷ states (meaning_of "table2\t9\t9\tK\nend\n") (refusal 1 1)
    -- words that are neither `table` nor `table2`
    ∷ states (meaning_of "table3\t2\t1\t1\nend\n") (refusal 1 1)
    ∷ states (meaning_of "table02\t2\t1\t1\nend\n") (refusal 1 1)
    ∷ states (meaning_of "Table2\t2\t1\t1\nend\n") (refusal 1 1)
    -- family one takes 9 products with 24 literals, whose charge is 4 * 9 + 24 = 60; family two 10 with 19, whose charge is 59
    ∷ states (answer_for Block One 4 0 families_table) (0 ∷ 0 ∷ 9 ∷ 24 ∷ 0 ∷ [])
    ∷ states (answer_for Block Two 4 0 families_table) (0 ∷ 11 ∷ 10 ∷ 19 ∷ 1 ∷ [])
    -- family two from its text to its listing, byte for byte, and what the listing says
    ∷ states (printed_of families_text) families_listing
    ∷ states (counts_of families_listing) (10 ∷ 19 ∷ [])
    ∷ states (table_of 4 families_listing) families_table
    -- 9 products with 22 literals and 10 with 18 have the charge 58 alike: "among equal charges by fewest products"; by 3 × products the other would be
    -- taken, 48 against 49
    ∷ states (answer_for Block Two 4 0 tie_table) (0 ∷ 0 ∷ 9 ∷ 22 ∷ 0 ∷ [])
    ∷ states (cost_at 4 3 tie_table) (10 ∷ 18 ∷ [])
    -- the printed example's record, its listing, and what the listing says
    ∷ states (listing_of Block One 2 2 1 (recorded (0 ∷ 0 ∷ 0 ∷ 3 ∷ []) (0 ∷ 1 ∷ []) 1 2 1 2 1)) (bytes printed_listing)
    ∷ states (first_line_of (bytes printed_listing)) (2 ∷ 2 ∷ 1 ∷ 1 ∷ 2 ∷ 1 ∷ 2 ∷ [])
    ∷ states (counts_of (bytes printed_listing)) (1 ∷ 2 ∷ [])
    ∷ states (table_of 2 (bytes printed_listing)) printed_table
    -- all zero at k = 2
    ∷ states (listing_of Block One 2 1 2 (recorded [] [] 3 0 0 0 0)) (bytes zero_listing)
    ∷ states (first_line_of (bytes zero_listing)) (2 ∷ 1 ∷ 2 ∷ 3 ∷ 0 ∷ 0 ∷ 0 ∷ [])
    ∷ states (counts_of (bytes zero_listing)) (0 ∷ 0 ∷ [])
    ∷ states (table_of 2 (bytes zero_listing)) zero_table
    -- all one at k = 0
    ∷ states (listing_of Block One 2 1 0 (recorded [] [] 0 0 0 0 1)) (bytes one_listing)
    ∷ states (first_line_of (bytes one_listing)) (2 ∷ 1 ∷ 0 ∷ 0 ∷ 0 ∷ 0 ∷ 0 ∷ [])
    ∷ states (counts_of (bytes one_listing)) (0 ∷ 0 ∷ [])
    ∷ states (table_of 2 (bytes one_listing)) one_table
    -- the constant beside an inverter: a product, and 0 at every point
    ∷ states (listing_of Block One 2 1 0 (recorded (1 ∷ []) [] 0 0 1 0 1)) (bytes cancelled_listing)
    ∷ states (counts_of (bytes cancelled_listing)) (1 ∷ 0 ∷ [])
    ∷ states (table_of 2 (bytes cancelled_listing)) zero_table
    -- n = 1, only point 0 on
    ∷ states (listing_of Block One 1 1 0 (recorded (0 ∷ 1 ∷ []) [] 0 1 1 1 0)) (bytes point_listing)
    ∷ states (first_line_of (bytes point_listing)) (1 ∷ 1 ∷ 0 ∷ 0 ∷ 1 ∷ 1 ∷ 1 ∷ [])
    ∷ states (counts_of (bytes point_listing)) (1 ∷ 1 ∷ [])
    ∷ states (table_of 1 (bytes point_listing)) point_table
    -- OR of two inputs at w = 0
    ∷ states (listing_of Block One 2 1 0 (recorded (0 ∷ 1 ∷ 1 ∷ 1 ∷ []) [] 0 0 3 4 0)) (bytes or_listing)
    ∷ states (first_line_of (bytes or_listing)) (2 ∷ 1 ∷ 0 ∷ 0 ∷ 0 ∷ 3 ∷ 4 ∷ [])
    ∷ states (counts_of (bytes or_listing)) (3 ∷ 4 ∷ [])
    ∷ states (table_of 2 (bytes or_listing)) or_table
    -- one product of four inputs, with a number of two digits
    ∷ states (listing_of Block One 4 1 0 (recorded (set (replicate 16 0) 15 1) [] 0 10 1 4 0)) (bytes four_listing)
    ∷ states (first_line_of (bytes four_listing)) (4 ∷ 1 ∷ 0 ∷ 0 ∷ 10 ∷ 1 ∷ 4 ∷ [])
    ∷ states (counts_of (bytes four_listing)) (1 ∷ 4 ∷ [])
    ∷ states (table_of 4 (bytes four_listing)) (set (replicate 16 0) 5 1)
    ∷ []

-- document 02, W-207 and W-208: designs, texts and listings of the free class, and texts with `-` for k
unfoldable pub free_designs : List Design
free_designs =
    -- "`f2` never costs more than `f1`, nor `f1` more than `f0`"
    states (cost_of Free One 3 0 dearer_table) (3 ∷ 6 ∷ [])
    ∷ states (cost_of Free One 3 1 dearer_table) (2 ∷ 5 ∷ [])
    ∷ states (cost_of Free One 3 2 dearer_table) (2 ∷ 5 ∷ [])
    -- "A k field of `f0`, `f1` or `f2` selects the free class": three terms of one block, where document 01's class needs four products at every k
    ∷ states (printed_of neither_text) (bytes neither_listing)
    ∷ states (cost_of Free One 3 1 neither_table) (4 ∷ 8 ∷ [])
    ∷ states (cost_of Block One 3 0 neither_table) (4 ∷ 8 ∷ [])
    ∷ states (cost_of Block One 3 1 neither_table) (4 ∷ 8 ∷ [])
    ∷ states (cost_of Block One 3 2 neither_table) (4 ∷ 8 ∷ [])
    ∷ states (cost_of Block One 3 3 neither_table) (4 ∷ 8 ∷ [])
    -- the polarities of its terms are one number for the block: that of the third term is 3, those of the others 0
    ∷ states (listing_of Free One 3 3 2 (recorded (0 ∷ 0 ∷ 0 ∷ 0 ∷ 0 ∷ 1 ∷ 2 ∷ 4 ∷ []) (0 ∷ 3 ∷ []) 3 0 3 7 0)) (bytes neither_listing)
    -- "the listing repeats that field": from the text to the listing, byte for byte, and what the listing says
    ∷ states (meaning_of dearer_text) (accepted One 3 2 (Mixed Free 1) (dearer_table ++ replicate 248 0))
    ∷ states (printed_of dearer_text) (bytes dearer_listing)
    ∷ states (table_of 3 (bytes dearer_listing)) dearer_table
    ∷ states (counts_of (bytes neither_listing)) (3 ∷ 7 ∷ [])
    ∷ states (table_of 3 (bytes neither_listing)) neither_table
    -- "`f` with a digit above 2 or above n is refusal 4"; another field with an `f` is none
    ∷ states (meaning_of "table\t2\t1\tf2\nend\n") (accepted One 2 1 (Mixed Free 2) zeros)
    ∷ states (meaning_of "table2\t1\t1\tf0\nend\n") (accepted Two 1 1 (Mixed Free 0) zeros)
    ∷ states (meaning_of "table\t3\t1\tf3\nend\n") (refusal 4 1)
    ∷ states (meaning_of "table\t1\t1\tf2\nend\n") (refusal 4 1)
    ∷ states (meaning_of "table\t9\t1\tf3\nend\n") (refusal 2 1)
    ∷ states (meaning_of "table\t2\t1\tf\nend\n") (refusal 1 1)
    ∷ states (meaning_of "table\t2\t1\tf12\nend\n") (refusal 1 1)
    ∷ states (meaning_of "table\t2\t1\tF1\nend\n") (refusal 1 1)
    -- "A k of `-` now means `f2`, or `f1` where n = 1.", in both families
    ∷ states (meaning_of "table\t1\t1\t-\nend\n") (accepted One 1 1 (Mixed Free 1) zeros)
    ∷ states (meaning_of "table\t2\t1\t-\nend\n") (accepted One 2 1 (Mixed Free 2) zeros)
    ∷ states (meaning_of "table\t8\t8\t-\nend\n") (accepted One 8 8 (Mixed Free 2) zeros)
    ∷ states (meaning_of "table2\t1\t1\t-\nend\n") (accepted Two 1 1 (Mixed Free 1) zeros)
    ∷ states (meaning_of "table2\t3\t1\t-\nend\n") (accepted Two 3 1 (Mixed Free 2) zeros)
    -- "A listing shows the k that was used.": n = 1 with only point 0 on, and the printed example, byte for byte
    ∷ states (printed_of "table\t1\t1\t-\non\t0\t1\nend\n") (bytes "form\t1\t1\tf1\t1\t0\t1\t1\ninv\t0\nterm\t0\t1\nend\n")
    ∷ states (printed_of "table2\t1\t1\t-\non\t0\t1\nend\n") (bytes "form2\t1\t1\tf1\t1\t0\t1\t1\ninv\t0\nterm\t0\t1\nend\n")
    ∷ states (printed_of printed_text_dash) (bytes printed_listing_dash)
    -- the order of line 1 is the same, and 4 cannot apply; `--` is no field
    ∷ states (meaning_of "table\t0\t9\t-\nend\n") (refusal 2 1)
    ∷ states (meaning_of "table\t1\t9\t-\nend\n") (refusal 3 1)
    ∷ states (meaning_of "table\t9\t9\t--\nend\n") (refusal 1 1)
    ∷ []

-- all of them
unfoldable pub marked_designs : List Design
marked_designs = base_designs ++ free_designs
