-- What an exported call owes, from the call behind it: an answer was returned, of which the call's contract holds, and its numbers are told.
use mathlib.Core.Path.{◌≡◌, ap, ◌∙◌}
use mathlib.Core.List.{List}
use Prim.Native.Nat.{ℕ}

pub answer-told : {A : Type 0} (tell : A → List ℕ) (P : A → Type 0) (returned decided : A) (told : List ℕ) → returned ≡ decided → P returned
    → told ≡ tell returned → ((r : A) × (told ≡ tell r) × P r) × (told ≡ tell decided)
answer-told tell P returned decided told e p t = ((returned, t, p), t ∙ ap tell e)
