-- W-206 of texts and their listings (`fewer-pins`): the counts that two listings state are the least costs of their tables, and so follow the law of tables
-- (`listed-no-dearer`).
use mathlib.Core.List.{List}
use mathlib.Core.Path.{◌≡◌, subst, fun_ext}
use Prim.Native.Nat.{ℕ}
use lib.ListN.{take}
use Rattle.numbers.specs.Bytes.{at}
use Rattle.expansions.specs.Rivals.{LeastCost}
use Rattle.expansions.specs.Outputs.{IsChoice, chosen_outputs, chosen_table}
use Rattle.expansions.proofs.Outputs.{chosen_at, fewer-outputs}
use Rattle.listings.specs.Meaning.{listing_products, listing_literals, IsListing}
use Rattle.table_texts.specs.declared.sizes.Design.{Design}
use Rattle.table_texts.specs.Accepted.{Accepted}
use Rattle.table_texts.specs.Inner.Reading.{given, reading}
use Rattle.table_texts.proofs.read.Accepted.{reading-accepted}
use Rattle.text.specs.Inner.Compiled.{answer_listing}
use Rattle.text.specs.Print.{Print}
use Rattle.text.proofs.compile.Listings.{answer-listing, compile-listed}
use Rattle.text.proofs.print.Shown.{print-whole}
use Rattle.comparisons.specs.Choices.{chosen_design}
use Rattle.comparisons.specs.FewerPins.{ListedNoDearer, HasLeastCost, FewerPins}
use Rattle.comparisons.proofs.Choices.{chosen-accepted}
use Rattle.comparisons.proofs.Texts.{chosen-read}

module _ (d : Design) (t : List ℕ) (s : ℕ) (choice : IsChoice d.m s) where
  -- from the bytes of both listings
  pub listed-no-dearer : (listing other : List ℕ) → IsListing d.n d.family d.kind (at (chosen_table d.m s t)) listing
      → IsListing d.n d.family d.kind (at t) other → ListedNoDearer d.family listing other
  listed-no-dearer listing other chosen whole =
      let same : at (chosen_table d.m s t) ≡ (λ q. chosen_outputs d.m s (at t q)) = fun_ext (chosen_at d.m s t) in
      rw (chosen.products_stated, chosen.literals_stated, whole.products_stated, whole.literals_stated)
      ((fewer-outputs d.n d.m d.family d.kind (at t) s choice).no_dearer _ _ _ _ whole.least
      (subst (λ (f : ℕ → ℕ). LeastCost d.n d.family d.kind f (listing_products listing) (listing_literals listing)) same chosen.least))

-- an accepted table has a least cost, that of its listing
pub least-cost : (d : Design) (t : List ℕ) → Accepted d t → HasLeastCost d t
least-cost d t a = (listing_products (answer_listing d t), listing_literals (answer_listing d t), (answer-listing d t a).least)

-- what the program prints for an accepted text is a listing as demand 3 asks
pub printed-listing : (text : List ℕ) (d : Design) (t held : List ℕ) (count : ℕ) → reading text ≡ given d t → Print text held count
    → IsListing d.n d.family d.kind (at t) (take count held)
printed-listing text d t held count e print = rw (print-whole text held count d t print e) (answer-listing d t (reading-accepted text d t e))

pub fewer-pins : (text : List ℕ) (d : Design) (t : List ℕ) (s : ℕ) → reading text ≡ given d t → IsChoice d.m s → FewerPins text d t s
fewer-pins text d t s e choice =
    record {
      accepted = chosen-accepted d t s choice (reading-accepted text d t e);
      table = chosen_at d.m s t;
      least = least-cost d t (reading-accepted text d t e);
      chosen_least = least-cost (chosen_design s d) (chosen_table d.m s t) (chosen-accepted d t s choice (reading-accepted text d t e));
      fewer = fewer-outputs d.n d.m d.family d.kind (at t) s choice;
      left_out = chosen-read s text d t choice e;
      written = λ fewer means before after before' after' count count' whole chosen.
          listed-no-dearer d t s choice (take count' after') (take count after)
          (compile-listed fewer before' after' count' (chosen_design s d) (chosen_table d.m s t) chosen means) (compile-listed text before after count d t whole e);
      printed = λ fewer means held held' count count' whole chosen.
          listed-no-dearer d t s choice (take count' held') (take count held)
          (printed-listing fewer (chosen_design s d) (chosen_table d.m s t) held' count' means chosen) (printed-listing text d t held count e whole);
    }
