-- `write_word` meets its contract: the word, and the line's end.
use mathlib.Core.List.{List, [], ◌∷◌, ◌++◌, append-nil}
use mathlib.Core.Path.{◌≡◌, ap}
use Prim.Native.Nat.{ℕ}
use Rattle.listings.specs.Listing.{line, tabbed}
use Rattle.writing.proofs.Puts.{put_then}
use Rattle.fitter.proofs.print.write_word.Goals as goal

-- the line of a word alone
word_line : (w : List ℕ) → line w [] ≡ w ++ 10 ∷ []
unfolding line tabbed
word_line w = ap (λ (v : List ℕ). v ++ 10 ∷ []) (append-nil w)

pub returns : goal.returns
returns c =
    rw (word_line c.args.word.now)
    (put_then c.word.ensures c.byte.ensures)
