use Rattle.listings.specs.Listing.{output_bytes}
use Rattle.writing.proofs.Puts.{Written}
use Rattle.writing.proofs.writer.Writer.outputs.Given as goal

abbrev pub invariant-loop-k : goal.invariant-loop-k
invariant-loop-k l = Written (output_bytes l.m l.c) l.self.at l.initial.out l.out l.k
