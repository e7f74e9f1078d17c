-- Document 02, W-207, of table texts and their listings: "for tables with n of 2 or more `f2` never costs more than `f1`, nor `f1` more than `f0`." And
-- the listings of `f0` and `f1`, which are those of `0` and `1` with another field.
use Rattle.std.specs.Prelude.{List, ◌≡◌, ℕ, suc, ◌≤◌, ◌<◌, take, Ok}
use Rattle.numbers.specs.Bytes.{at}
use Rattle.expansions.specs.declared.families.Family.{Family}
use Rattle.expansions.specs.declared.kinds.Class.TheVariants.{Block, Free}
use Rattle.expansions.specs.declared.kinds.Kind.TheVariants.{Mixed}
use Rattle.expansions.specs.Members.{polarity}
use Rattle.search.specs.declared.expansion.Expansion.{Expansion}
use Rattle.search.specs.Inner.Answer.{answer_expansion}
use Rattle.listings.specs.Listing.{fields_of, listing_with}
use Rattle.table_texts.specs.declared.sizes.Design.{Design}
use Rattle.table_texts.specs.Inner.Reading.{given, reading}
use Rattle.table_texts.specs.TableTexts.{table_text}
use Rattle.text.specs.Compile.{Compile}
use Rattle.text.specs.Inner.Compiled.{answer_listing}
use Rattle.text.specs.Print.{Print}
use Rattle.comparisons.specs.FewerPins.{ListedNoDearer, HasLeastCost}

-- the design of the free class with k mixed inputs: "A k field of `f0`, `f1` or `f2`"
abbrev pub free_design : (n m k : ℕ) → Family → Design
free_design n m k family = record { n = n; m = m; kind = Mixed Free k; family = family }

-- W-207 of the table t of n inputs and m outputs, for a family: of two accepted texts that mean it, one with the next digit after the `f`, the listing that
-- the text call writes for that one costs no more than the other's, and likewise those that the program prints
pub record WiderFields (n m : ℕ) (family : Family) (t : List ℕ) : Type 0 where
  -- a table that a text means has a least cost
  pub least : (k : ℕ) (text : List ℕ) → reading text ≡ given (free_design n m k family) t → HasLeastCost (free_design n m k family) t
  -- there is a text with the next digit that means it too, unless this digit is "above 2 or above n"
  pub next : (k : ℕ) (text : List ℕ) → reading text ≡ given (free_design n m k family) t → suc k ≤ 2 → suc k ≤ n
      → reading (table_text (free_design n m (suc k) family) t) ≡ given (free_design n m (suc k) family) t
  pub written : (k : ℕ) (text wider : List ℕ) → reading text ≡ given (free_design n m k family) t → reading wider ≡ given (free_design n m (suc k) family) t
      → (before after before' after' : List ℕ) (count count' : ℕ) → Compile text before after (Ok count) → Compile wider before' after' (Ok count')
      → ListedNoDearer family (take count' after') (take count after)
  pub printed : (k : ℕ) (text wider : List ℕ) → reading text ≡ given (free_design n m k family) t → reading wider ≡ given (free_design n m (suc k) family) t
      → (held held' : List ℕ) (count count' : ℕ) → Print text held count → Print wider held' count'
      → ListedNoDearer family (take count' held') (take count held)

-- the listing of the record e of document 01's class with the field of the free class
abbrev pub free_listing : Family → (n m k : ℕ) → Expansion → List ℕ
free_listing family n m k e =
    listing_with family (fields_of Free n m k e) e.inverted n m (polarity Block n k e.mixed e.fixed (at e.blocks)) (at e.coefficients)

-- "`f0` and `f1`" have the answers of `0` and `1`: the listing is that of the digit's answer, the field aside
abbrev pub AlikeFields : (n m : ℕ) → Family → List ℕ → Type 0
AlikeFields n m family t = (k : ℕ) → k < 2 → answer_listing (free_design n m k family) t ≡ free_listing family n m k (answer_expansion Block family n k (at t))
