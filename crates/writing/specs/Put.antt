-- What a write leaves in a lent buffer.
use Rattle.std.specs.Prelude.{List, ◌≡◌, ℕ, ◌+◌, length}
use Rattle.std.proofs.lemmas.List.Edits.{sets}

-- the bytes v now stand from `start` on, every other byte is as it was, and `stop` is the place after them
pub record Put (before : List ℕ) (start : ℕ) (v after : List ℕ) (stop : ℕ) : Type 0 where
  pub to : stop ≡ start + length v
  pub holds : after ≡ sets before start v
