-- The library's words on slices, in the words of a text and its parts: `split` gives the parts, `position` finds where the first part stops, and `==` tells
-- whether two fields are the same.
use mathlib.Core.Bool.{Bool, true, false, cond, ◌&&◌}
use mathlib.Core.List.{List, [], ◌∷◌}
use mathlib.Core.Path.{◌≡◌, refl, sym, ap, ◌∙◌}
use Prim.Native.Nat.{ℕ, suc, ◌+◌, ◌-◌, ◌≤◌, min}
use native.Mathlib.Decide.{dec_le}
use native.Mathlib.Omega.{arith}
use borrow.Author.Tests.{ltb-false}
use lib.Dec.{eqb, ltb}
use lib.ListN.{length, get_or, take, drop, drop_of_length-le, length-drop}
use lib.Seq.{take_all}
use denote.Ref.{Bor}
use Rattle.std.specs.Prelude.{Option, Some, None, unwrap_or}
use Rattle.std.specs.Cmp.Lexicographic.{pointwise}
use Rattle.std.specs.Option.{option_map}
use Rattle.std.specs.List.{slice_get, slice_split, onto_first, position_or_len}
use Rattle.std.proofs.lemmas.Option.{unwrap_or-slice_get}
use Rattle.std.proofs.lemmas.List.Recursion.{is_position_or_len}
use Rattle.listings.specs.Parts.{all, with_byte, parts, same}
use Rattle.listings.proofs.Parts.{first-le}

pub split_parts : (separator : ℕ) (s : List ℕ) → slice_split (λ b. eqb b separator) s ≡ all (parts separator s)
unfolding parts
split_parts separator [] = refl
split_parts separator (b ∷ s) = go (eqb b separator) (split_parts separator s) where
  go : (t : Bool) → slice_split (λ b. eqb b separator) s ≡ all (parts separator s)
      → cond t ([] ∷ slice_split (λ b. eqb b separator) s) (onto_first b (slice_split (λ b. eqb b separator) s)) ≡ all (with_byte t b (parts separator s))
  go true h = ap (λ (l : List (List ℕ)). [] ∷ l) h
  go false h = ap (onto_first b) h

first_position : (separator : ℕ) (s : List ℕ) → length (parts separator s).first ≡ position_or_len (λ b. eqb b separator) s
unfolding parts
first_position separator =
    is_position_or_len (λ s. length (parts separator s).first) (λ b. eqb b separator) refl (λ b s. go (eqb b separator) b s)
  where
    go : (t : Bool) (b : ℕ) (s : List ℕ) → length (with_byte t b (parts separator s)).first ≡ cond t 0 (1 + length (parts separator s).first)
    go true b s = refl
    go false b s = omega arith

-- the position of the first separator, or the length where there is none, is where the first part stops
pub first_found : (separator : ℕ) (s : List ℕ) (r : Option ℕ)
    → r ≡ cond (ltb (position_or_len (λ b. eqb b separator) s) (length s)) (Some (position_or_len (λ b. eqb b separator) s)) None
    → unwrap_or r (length s) ≡ length (parts separator s).first
first_found separator s r e = rw e (go (ltb (position_or_len (λ b. eqb b separator) s) (length s)) refl) where
  go : (t : Bool) → ltb (position_or_len (λ b. eqb b separator) s) (length s) ≡ t
      → unwrap_or (cond t (Some (position_or_len (λ b. eqb b separator) s)) None) (length s) ≡ length (parts separator s).first
  go true h = sym (first_position separator s)
  go false h = omega (arith, ltb-false _ _ h, first-le separator s, first_position separator s)

-- what is left of a text from a place on, which may be behind its end
pub left_from : (s : List ℕ) (i k : ℕ) → k ≡ min i (length s) → take (length s - k) (drop k s) ≡ drop i s
left_from s i k e = go (dec_le i (length s)) where
  go : Dec (i ≤ length s) → take (length s - k) (drop k s) ≡ drop i s
  go (yes h) = let same : k ≡ i = omega arith in rw same (take_all (length s - i) (drop i s) (rw length-drop (omega arith)))
  go (no h) =
      let end : k ≡ length s = omega arith in
      rw end
      (take_all (length s - length s) (drop (length s) s) (rw length-drop (omega arith))
      ∙ drop_of_length-le s {i = length s} (omega arith)
      ∙ sym (drop_of_length-le s {i = i} (omega arith)))

-- the part j, where there is one
pub part_given : (s : List ℕ) (separator j : ℕ) (r : Option (Bor (List ℕ))) (none : Bor (List ℕ)) → none.now ≡ []
    → option_map (λ (x : Bor (List ℕ)). x.now) r ≡ slice_get (all (parts separator s)) j → (unwrap_or r none).now ≡ get_or (all (parts separator s)) j []
part_given s separator j r none e h = go r h ∙ unwrap_or-slice_get (all (parts separator s)) j [] where
  go : (r : Option (Bor (List ℕ))) → option_map (λ (x : Bor (List ℕ)). x.now) r ≡ slice_get (all (parts separator s)) j
      → (unwrap_or r none).now ≡ unwrap_or (slice_get (all (parts separator s)) j) []
  go (Some x) h = ap (λ (o : Option (List ℕ)). unwrap_or o []) h
  go None h = e ∙ ap (λ (o : Option (List ℕ)). unwrap_or o []) h

pub same_pointwise : (f w : List ℕ) → pointwise eqb f w ≡ same f w
unfolding same
same_pointwise [] [] = refl
same_pointwise [] (w ∷ ws) = refl
same_pointwise (b ∷ f) [] = refl
same_pointwise (b ∷ f) (w ∷ ws) = ap (λ (t : Bool). eqb b w && t) (same_pointwise f ws)
