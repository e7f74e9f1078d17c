-- The answer on the record that was read. Cited by the contracts of private functions alone.
use Rattle.std.specs.Prelude.{cond, ◌&&◌, List, ℕ, ◌^◌}
use Rattle.numbers.specs.Bytes.{at}
use Rattle.numbers.specs.Tests.{every}
use Rattle.membership.specs.Class.{legal_pair, shows_back}
use Rattle.table_texts.specs.declared.sizes.Sizes.{Sizes}
use Rattle.listing_texts.specs.declared.read.ListingRead.{ListingRead}
use Rattle.fitter.specs.declared.check.Verdict.{Verdict}
use Rattle.fitter.specs.declared.check.Verdict.TheVariants.{NotOfClass}
use Rattle.fitter.specs.Differences.{inverted_value, first_difference}
use Rattle.fitter.specs.Inner.Answer.{compared}

-- the class, then the points, from the record and the inputs that each cube shows complemented
unfoldable pub judged_record : Sizes → List ℕ → ListingRead → Verdict
judged_record z table r =
    let e = r.expansion in
    cond
    (legal_pair z.n z.k e.mixed e.fixed
    && every (2 ^ z.n) (shows_back z.class z.n z.k e.mixed e.fixed (at e.blocks) (at r.complements) (at e.coefficients)))
    (compared (first_difference z.n (inverted_value z.n (at r.complements) (at e.coefficients) e.inverted) (at table)))
    NotOfClass
