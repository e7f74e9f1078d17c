-- `padded` meets its contract: each call of `from_fn` gives the byte at its index.
use borrow.Author.Rules.{rules}
use Rattle.numbers.proofs.Made.{made-table}
use Rattle.numbers.proofs.places.padded.Goals as goal

pub returns : goal.returns
returns c = made-table _ _ _ (λ p y q called. search rules) _ 256 c.from_fn.ensures.items
