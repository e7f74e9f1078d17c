-- The listing of an answer. It can be written (`answer-listable`), and it is what demand 3 asks of its bytes (`answer-listed`).
use mathlib.Core.Path.{◌≡◌, sym, ◌∙◌}
use Prim.Native.Nat.{ℕ, ◌^◌, ◌≤◌, ◌<◌}
use native.Mathlib.Omega.{arith}
use Rattle.numbers.specs.Bytes.{at}
use Rattle.search.specs.Expansion.{Answered}
use Rattle.search.specs.declared.expansion.Expansion.{Expansion}
use Rattle.expansions.specs.Members.{polarity}
use Rattle.expansions.specs.declared.families.Family.{Family}
use Rattle.expansions.specs.declared.kinds.Class.{Class}
use Rattle.expansions.specs.declared.kinds.Kind.TheVariants.{Mixed}
use Rattle.expansions.specs.Classes.{most_mixed}
use Rattle.expansions.proofs.Costs.{literals-lt}
use Rattle.expansions.proofs.Rivals.{minimal-least}
use Rattle.listings.specs.Listing.{fields_of, listing}
use Rattle.listings.specs.Inner.Listable.{Listable}
use Rattle.listings.specs.Meaning.{listing_value, listing_products, listing_literals, IsListing}
use Rattle.listings.proofs.Joined.{AllPlain}
use Rattle.listings.proofs.Forms.{plain_fields, listing-value, listing-products, listing-literals, stated-products, stated-literals}

module _ (C : Class) (family : Family) (n m k : ℕ) (e : Expansion) (f : ℕ → ℕ) (hn : n ≤ 8) (hm : m ≤ 8) (few-mixed : k ≤ most_mixed C)
    (minimal : Answered C family n k f e) where
  w : ℕ → ℕ
  w = polarity C n k e.mixed e.fixed (at e.blocks)

  pub answer-listable : Listable n m e
  answer-listable =
      record { inputs = hn; outputs = hm; mixed = minimal.answer.member.pair.mask; fixed = minimal.answer.member.pair.fixed; counted = minimal.products_counted }

  plain : AllPlain (fields_of C n m k e)
  plain = plain_fields C n m k e.mixed e.fixed e.products e.literals

  few : e.literals < 10000
  few = omega (arith, minimal.literals_counted, literals-lt n (at e.coefficients) hn)

  answer-given : e.inverted < 2 ^ m → ((t : ℕ) → t < 2 ^ n → at e.coefficients t < 2 ^ m) → (p : ℕ) → p < 2 ^ n → listing_value (listing C family n m k e) p ≡ f p
  unfolding listing w
  answer-given mask small p h = listing-value family (fields_of C n m k e) plain e.inverted n m w (at e.coefficients) mask small p ∙ minimal.answer.gives p h

  counts-products : listing_products (listing C family n m k e) ≡ e.products
  unfolding listing w
  counts-products = listing-products family (fields_of C n m k e) plain e.inverted n m w (at e.coefficients) ∙ sym minimal.products_counted

  counts-literals : listing_literals (listing C family n m k e) ≡ e.literals
  unfolding listing w
  counts-literals = listing-literals family (fields_of C n m k e) plain e.inverted n m w (at e.coefficients) ∙ sym minimal.literals_counted

  -- demand 3
  pub answer-listed : e.inverted < 2 ^ m → ((t : ℕ) → t < 2 ^ n → at e.coefficients t < 2 ^ m) → IsListing n family (Mixed C k) f (listing C family n m k e)
  answer-listed mask small =
      record {
        gives = answer-given mask small;
        products_stated = stated-products C family n m k e answer-listable few ∙ sym counts-products;
        literals_stated = stated-literals C family n m k e answer-listable few ∙ sym counts-literals;
        least = rw (counts-products, counts-literals) (minimal-least C family n k f few-mixed _ _ _ _ _ _ _ minimal);
      }
