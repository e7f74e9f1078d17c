-- The lesser of the first least of each eight is the first least of the sixteen.
use Rattle.charges.proofs.cheapest.Choices.{lesser-high, lesser-low}
use Rattle.charges.proofs.cheapest.lesser.Goals as goal

pub returns-then-high-low : goal.returns-then-high-low
returns-then-high-low c sums a b = lesser-high sums _ _ a b c.if-high-low.true

pub returns : goal.returns
returns c sums a b = lesser-low sums _ _ a b c.if-high-low.false
