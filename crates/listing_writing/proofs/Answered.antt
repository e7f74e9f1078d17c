-- The two answers of writing a listing: it was written (`listing-written`), or the buffer is shorter (`listing-short`).
use mathlib.Core.List.{List}
use mathlib.Core.Path.{◌≡◌, ap}
use Prim.Native.Nat.{ℕ, ◌≤◌, ◌<◌}
use native.Mathlib.Omega.{arith}
use borrow.Author.Tests.{le-leb, lt-leb}
use lib.ListN.{length}
use Rattle.writing.specs.Put.{Put}
use Rattle.writing.proofs.Puts.{put_front}
use Rattle.std.specs.Prelude.{Ok, Err}
use Rattle.numbers.specs.declared.refusals.Refusal.TheVariants.{OutputRoom}
use Rattle.listing_writing.specs.Write.{WriteListing}

module _ (listing before : List ℕ) where
  pub listing-written : (after : List ℕ) (stop : ℕ) → length listing ≤ length before → Put before 0 listing after stop
      → WriteListing listing before (Ok stop) after
  listing-written after stop h p =
      let long : stop ≡ length listing = omega (arith, p.to) in
      record {
        answer = rw (le-leb (length listing) (length before) h) (ap Ok long);
        bytes = rw (le-leb (length listing) (length before) h) (put_front h p);
      }

  pub listing-short : length before < length listing → WriteListing listing before (Err OutputRoom) before
  listing-short h =
      record {
        answer = rw (lt-leb (length listing) (length before) h);
        bytes = rw (lt-leb (length listing) (length before) h);
      }
