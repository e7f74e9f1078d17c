-- Reading the choices of the blocks off the cubes, term by term: each cube adds what it shows to its block (`blocks_more`).
use mathlib.Core.Bool.{Bool, true, false, cond}
use mathlib.Core.List.{List}
use mathlib.Core.Path.{◌≡◌, refl, sym, ap₂, ◌∙◌}
use Prim.Native.Nat.{ℕ, zero, suc, ◌+◌, ◌*◌, ◌^◌, ◌≤◌, ◌<◌}
use native.Mathlib.Numerals.{add-one}
use native.Mathlib.Omega.{arith}
use borrow.Author.Tests.{eqb-true, eqb-false}
use lib.Bits.{bit_or}
use lib.Dec.{eqb}
use lib.ListN.{length, set, replicate, length-set, length-replicate}
use lib.Seq.{get_or-set_same, get_or-set_other}
use Rattle.numbers.specs.Bytes.{at, tabulate}
use Rattle.numbers.specs.Sums.{fold_below}
use Rattle.numbers.proofs.Bytes.{is-table}
use Rattle.numbers.proofs.Tables.{get_d-zeros}
use Rattle.expansions.specs.declared.kinds.Class.{Class}
use Rattle.expansions.specs.Classes.{apart, own_choice, place_choice}
use Rattle.expansions.specs.Members.{block, place, shown_choice}
use Rattle.membership.proofs.Shown.{shown_below, shown-all, shown-own, shown-other}

-- what a place adds is at most eight times what its cube shows
pub choice-le : (C : Class) (k s ρ : ℕ) → place_choice C k s ρ ≤ ρ * 8
unfolding own_choice
choice-le C k s ρ = go (apart C k) where
  own : (s : ℕ) → own_choice s ρ ≤ ρ * 8
  own zero = omega arith
  own (suc zero) = omega arith
  own (suc (suc zero)) = omega arith
  own (suc (suc (suc s))) = omega arith

  go : (b : Bool) → cond b (own_choice s ρ) ρ ≤ ρ * 8
  go true = own s
  go false = omega arith

-- the 256 bytes hold what the cubes of the terms below N show of each block
pub record BlocksBelow (C : Class) (n k M : ℕ) (w : ℕ → ℕ) (N : ℕ) (blocks : List ℕ) : Type 0 where
  pub long : length blocks ≡ 256
  pub each : (j : ℕ) → j < 256 → at blocks j ≡ shown_below C n k M w N j

pub blocks-none : (C : Class) (n k M : ℕ) (w : ℕ → ℕ) → BlocksBelow C n k M w 0 (replicate 256 0)
unfolding fold_below
blocks-none C n k M w = record { long = length-replicate {A = ℕ} 256 0; each = λ j h. get_d-zeros 256 j }

pub blocks_more : (C : Class) (n k M : ℕ) (w : ℕ → ℕ) (N : ℕ) (blocks : List ℕ) (b x : ℕ) → b ≡ block n M N
    → x ≡ place_choice C k (place n M N) (place n M (w N)) → b < 256 → BlocksBelow C n k M w N blocks
    → BlocksBelow C n k M w (N + 1) (set blocks b (bit_or (at blocks b) x))
blocks_more C n k M w N blocks b x eb ex low held =
    record { long = length-set blocks b _ ∙ held.long; each = λ j h. rw (add-one N) (go j h (eqb j b) refl) }
  where
    go : (j : ℕ) → j < 256 → (t : Bool) → eqb j b ≡ t → at (set blocks b (bit_or (at blocks b) x)) j ≡ shown_below C n k M w (suc N) j
    go j h true e =
        let same : j ≡ b = eqb-true j b e in
        rw (same, get_or-set_same blocks b (bit_or (at blocks b) x) 0 (omega (arith, held.long)))
        (ap₂ bit_or (held.each b low) ex ∙ rw eb (sym (shown-own C n k M w N)))
    go j h false e =
        get_or-set_other blocks b j _ 0 (eqb-false j b e) ∙ held.each j h ∙ sym (shown-other C n k M w N j (λ z. eqb-false j b e (sym z ∙ sym eb)))

pub blocks-all : (C : Class) (n k M : ℕ) (w : ℕ → ℕ) (blocks : List ℕ) → BlocksBelow C n k M w (2 ^ n) blocks → blocks ≡ tabulate 256 (shown_choice C n k M w)
blocks-all C n k M w blocks held = is-table 256 (shown_choice C n k M w) blocks held.long (λ j h. held.each j h ∙ shown-all C n k M w j)
