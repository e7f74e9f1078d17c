-- W-207 of texts and their listings (`wider-fields`), with a text of the next field (`next-accepted`): the counts that two listings state are the least
-- costs of their table, and so follow the law of tables. Where fewer than two inputs are mixed the listings of both classes are the same but for the field
-- (`alike-fields`).
use mathlib.Core.List.{List}
use mathlib.Core.Path.{◌≡◌, ap, fun_ext, ◌∙◌}
use Prim.Native.Nat.{ℕ, suc, ◌≤◌, ◌<◌}
use Rattle.numbers.specs.Bytes.{at}
use Rattle.expansions.specs.declared.families.Family.{Family}
use Rattle.expansions.specs.declared.kinds.Class.TheVariants.{Block, Free}
use Rattle.expansions.specs.declared.kinds.Kind.TheVariants.{Mixed}
use Rattle.expansions.proofs.Alike.{polarity-alike, answer-alike}
use Rattle.expansions.proofs.Wider.{wider-no-dearer}
use Rattle.search.specs.declared.expansion.Expansion.{Expansion}
use Rattle.search.specs.Inner.Answer.{answer_expansion}
use Rattle.listings.specs.Listing.{fields_of, listing_with, listing}
use Rattle.listings.specs.Meaning.{IsListing}
use Rattle.table_texts.specs.Accepted.{Accepted}
use Rattle.table_texts.specs.Inner.Reading.{given, reading}
use Rattle.table_texts.proofs.Acceptance.{table-text-accepted}
use Rattle.table_texts.proofs.read.Accepted.{reading-accepted}
use Rattle.text.specs.Inner.Compiled.{answer_listing}
use Rattle.text.proofs.compile.Listings.{compile-listed}
use Rattle.comparisons.specs.FewerPins.{ListedNoDearer}
use Rattle.comparisons.specs.WiderFields.{free_design, WiderFields, AlikeFields}
use Rattle.comparisons.proofs.FewerPins.{least-cost, printed-listing}

-- from the bytes of both listings
listed-wider : (n k : ℕ) (family : Family) (f : ℕ → ℕ) → suc k ≤ n → (wider other : List ℕ) → IsListing n family (Mixed Free (suc k)) f wider
    → IsListing n family (Mixed Free k) f other → ListedNoDearer family wider other
listed-wider n k family f h wider other a b =
    rw (a.products_stated, a.literals_stated, b.products_stated, b.literals_stated) (wider-no-dearer n k family f h _ _ _ _ b.least a.least)

-- the design with the next digit is accepted with the same table
next-accepted : (n m k : ℕ) (family : Family) (t : List ℕ) → Accepted (free_design n m k family) t → suc k ≤ 2 → suc k ≤ n
    → Accepted (free_design n m (suc k) family) t
next-accepted n m k family t a few h =
    record { sized = record { inputs = a.sized.inputs; outputs = a.sized.outputs; mixed = (few, h); family = a.sized.family }; table = a.table }

-- as many inputs are mixed as there are, at most
within : (n m k : ℕ) (family : Family) (text t : List ℕ) → reading text ≡ given (free_design n m k family) t → k ≤ n
within n m k family text t e = (reading-accepted text (free_design n m k family) t e).sized.mixed.1

pub wider-fields : (n m : ℕ) (family : Family) (t : List ℕ) → WiderFields n m family t
wider-fields n m family t =
    record {
      least = λ k text means. least-cost (free_design n m k family) t (reading-accepted text (free_design n m k family) t means);
      next = λ k text means few h.
          table-text-accepted (free_design n m (suc k) family) t
          (next-accepted n m k family t (reading-accepted text (free_design n m k family) t means) few h);
      written = λ k text wider means means' before after before' after' count count' a b.
          listed-wider n k family (at t) (within n m (suc k) family wider t means') _ _ (compile-listed wider before' after' count' (free_design n m (suc k) family) t b means')
          (compile-listed text before after count (free_design n m k family) t a means);
      printed = λ k text wider means means' held held' count count' a b.
          listed-wider n k family (at t) (within n m (suc k) family wider t means') _ _
          (printed-listing wider (free_design n m (suc k) family) t held' count' means' b) (printed-listing text (free_design n m k family) t held count means a);
    }

-- ---- the same answers

expansion-alike : (family : Family) (n k : ℕ) (f : ℕ → ℕ) → k < 2 → answer_expansion Free family n k f ≡ answer_expansion Block family n k f
unfolding answer_expansion
expansion-alike family n k f h = let a = answer-alike family n k f h in rw (a.0, a.1, a.2, fun_ext a.3, fun_ext a.4)

pub alike-fields : (n m : ℕ) (family : Family) (t : List ℕ) → AlikeFields n m family t
unfolding answer_listing listing
alike-fields n m family t k h =
    ap (listing Free family n m k) (expansion-alike family n k (at t) h)
    ∙ ap (λ (w : ℕ → ℕ). listing_with family (fields_of Free n m k e) e.inverted n m w (at e.coefficients))
    (polarity-alike n k e.mixed e.fixed (at e.blocks) h)
  where
    e : Expansion
    e = answer_expansion Block family n k (at t)
