-- What the second line of a listing says. Document 02, W-205: "a `form` or `form2` listing gains a second line, `inv` and m characters".
use Rattle.std.specs.Prelude.{cond, List, ◌++◌, ◌≡◌, ℕ, ◌^◌, ◌<◌, Option, None}
use Rattle.listings.specs.Parts.{bytes, field}
use Rattle.listings.specs.Listing.{inv_line}
use Rattle.fields.specs.Fields.{mask, headed}

-- "`inv` and m characters": the inversion mask that a line says, of m outputs
unfoldable pub inv_said : ℕ → List ℕ → Option ℕ
inv_said m l = cond (headed 2 (bytes "inv") l) (mask m (field 1 l)) None

-- the lines s do not begin with "`inv` and m characters"
abbrev pub NoInv : ℕ → List ℕ → Type 0
NoInv m s = (v : ℕ) (rest : List ℕ) → v < 2 ^ m → s ≡ inv_line m v ++ rest → ⊥
