-- What holds of the design and the table of every text that is accepted (proofs/read/Accepted, `reading-accepted`).
use Rattle.std.specs.Prelude.{List, ◌≡◌, ℕ, ◌^◌, ◌<◌, ◌≤◌, length, get_or}
use Rattle.table_texts.specs.declared.sizes.Design.{Design}
use Rattle.table_texts.specs.Design.{DesignSized}

-- a table of 256 bytes of m outputs, zero from 2 ^ n on
pub record Table (n m : ℕ) (t : List ℕ) : Type 0 where
  pub long : length t ≡ 256
  pub small : (p : ℕ) → get_or t p 0 < 2 ^ m
  pub rest : (p : ℕ) → 2 ^ n ≤ p → get_or t p 0 ≡ 0

-- what the design and the table of an accepted text are
pub record Accepted (d : Design) (t : List ℕ) : Type 0 where
  pub sized : DesignSized d
  pub table : Table d.n d.m t
