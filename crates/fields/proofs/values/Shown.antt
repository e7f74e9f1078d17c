-- A cube read character by character, from the left: what is left of the question after each character, and bounds on what is shown.
use mathlib.Core.Bool.{Bool, true, false, cond}
use mathlib.Core.List.{List}
use mathlib.Core.Path.{◌≡◌, refl, ap, ap₂}
use Prim.Native.Nat.{ℕ, suc, ◌+◌, ◌*◌, ◌^◌, ◌≤◌, ◌<◌}
use native.Mathlib.Nat.{pow-suc}
use native.Mathlib.Numerals.{add-one}
use native.Mathlib.Omega.{arith}
use borrow.Author.Tests.{eq-eqb}
use lib.Dec.{eqb, lit<}
use lib.ListN.{length, get_or, drop, drop_of_length-le}
use lib.Seq.{drop-cons}
use Rattle.std.specs.Prelude.{Option, Some, None}
use Rattle.fields.specs.declared.values.Cube.{Cube}
use Rattle.fields.proofs.Numbers.{under-test}
use Rattle.fields.specs.Cubes.{is_character, present_in, complemented_in, character_said, cube_characters, term_shown, complement_shown, cube_said}

-- what characters say after characters that show the term t and the complemented inputs c
unfoldable pub cube_from : ℕ → ℕ → List ℕ → Option Cube
cube_from t c f = cond (cube_characters f) (Some (record { term = t * 2 ^ length f + term_shown f; complemented = c * 2 ^ length f + complement_shown f })) None

pub cube-start : (n : ℕ) (f : List ℕ) → length f ≡ n → cube_said n f ≡ cube_from 0 0 f
unfolding cube_said cube_from
cube-start n f e = rw (eq-eqb (length f) n e) (ap₂ (λ (t c : ℕ). cond (cube_characters f) (Some (record { term = t; complemented = c })) None) (omega arith) (omega arith))

-- a character that shows its input
shows : (b : ℕ) (x : Cube) → character_said b ≡ Some x → (is_character b ≡ true) × (present_in b ≡ x.term) × (complemented_in b ≡ x.complemented)
unfolding character_said
shows b x e =
    let passes = under-test (is_character b) (Some (record { term = present_in b; complemented = complemented_in b })) x e in
    let same : record { term = present_in b; complemented = complemented_in b } ≡ x = cc in
    (passes.0, ap (λ (x : Cube). x.term) same, ap (λ (x : Cube). x.complemented) same)

shows-not : (b : ℕ) → character_said b ≡ None → is_character b ≡ false
unfolding character_said
shows-not b = go (is_character b) refl where
  go : (t : Bool) → is_character b ≡ t → ◌≡◌ {A = Option Cube} (cond t (Some (record { term = present_in b; complemented = complemented_in b })) None) None → is_character b ≡ false
  go true h e = cc
  go false h e = h

pub character-lt : (b : ℕ) (x : Cube) → character_said b ≡ Some x → (x.term < 2) × (x.complemented < 2)
unfolding present_in complemented_in
character-lt b x e = let said = shows b x e in (rw (← said.1) (one-or (eqb b 45)), rw (← said.2) (one (eqb b 48))) where
  one-or : (t : Bool) → cond t 0 1 < 2
  one-or true = lit< tt
  one-or false = lit< tt

  one : (t : Bool) → cond t 1 0 < 2
  one true = lit< tt
  one false = lit< tt

shift : (t x a N : ℕ) → t * 2 ^ suc N + (x * 2 ^ N + a) ≡ (t * 2 + x) * 2 ^ N + a
shift t x a N = rw (pow-suc 2 N) (omega arith)

module _ (t c : ℕ) (f : List ℕ) (k : ℕ) where
  pub cube-step : (x : Cube) → k < length f → character_said (get_or f k 0) ≡ Some x
      → cube_from t c (drop k f) ≡ cube_from (t * 2 + x.term) (c * 2 + x.complemented) (drop (k + 1) f)
  unfolding cube_from cube_characters term_shown complement_shown
  cube-step x h e =
      let said = shows (get_or f k 0) x e in
      let l : List ℕ = drop (suc k) f in
      rw (add-one, drop-cons f k 0 h, said.0, said.1, said.2)
      (ap₂ (λ (t c : ℕ). cond (cube_characters l) (Some (record { term = t; complemented = c })) None)
      (shift t x.term (term_shown l) (length l))
      (shift c x.complemented (complement_shown l) (length l)))

  pub cube-wrong : k < length f → character_said (get_or f k 0) ≡ None → cube_from t c (drop k f) ≡ None
  unfolding cube_from cube_characters
  cube-wrong h e = rw (drop-cons f k 0 h, shows-not (get_or f k 0) e)

  pub cube-end : length f ≤ k → cube_from t c (drop k f) ≡ Some (record { term = t; complemented = c })
  unfolding cube_from cube_characters term_shown complement_shown
  cube-end h = rw (drop_of_length-le f h) (ap₂ (λ (t c : ℕ). Some (record { term = t; complemented = c })) (omega arith) (omega arith))
