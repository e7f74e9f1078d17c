use mathlib.Core.Path.{◌≡◌}
use Prim.Native.Nat.{ℕ, ◌<◌}
use Rattle.listings.specs.Listing.{descending}
use Rattle.writing.proofs.Puts.{Written}
use Rattle.writing.proofs.writer.Writer.descending.Given as goal

abbrev pub invariant-loop-k : goal.invariant-loop-k
invariant-loop-k g l =
    (f : ℕ → ℕ) → ((i b : ℕ) → i < l.count → goal.F-post g l.character i b → b ≡ f i)
    → Written (descending l.count f) l.self.at l.initial.out l.out l.k
