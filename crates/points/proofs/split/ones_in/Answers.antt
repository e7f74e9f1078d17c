-- `ones_in` meets its contract: the ones of the mask's n lowest bits.
use mathlib.Core.Path.{◌≡◌, refl, sym, ap, ◌∙◌}
use Prim.Native.Nat.{ℕ, zero, suc, ◌+◌, ◌*◌, ◌/◌, ◌%◌, ◌^◌}
use native.Mathlib.Nat.{mod-lt}
use native.Mathlib.Omega.{arith}
use lib.Arith.{digits_div, digits_mod}
use lib.Count.{ones, ones_in}
use lib.Pow.{pow_pos}
use Rattle.numbers.proofs.Bits.{mod-digits}
use Rattle.numbers.proofs.Pack.{ones_in-ones}
use Rattle.numbers.proofs.Shifts.{mask-shifted}
use Rattle.numbers.proofs.Xor.{low-lt}
use Rattle.points.proofs.split.ones_in.Goals as goal

-- only the n lowest bits count
ones_in-mod : (n x : ℕ) → ones_in n (x % 2 ^ n) ≡ ones_in n x
unfolding ones_in
ones_in-mod zero x = refl
ones_in-mod (suc n) x =
    let split : x ≡ x / 2 * 2 + x % 2 = omega arith in
    let e : x % 2 ^ suc n ≡ x / 2 % 2 ^ n * 2 + x % 2 = ap (λ (y : ℕ). y % 2 ^ suc n) split ∙ mod-digits n (x / 2) (x % 2) (low-lt x) in
    rw (e, digits_mod (x / 2 % 2 ^ n) (low-lt x), digits_div (x / 2 % 2 ^ n) (low-lt x)) (ap (λ (k : ℕ). x % 2 + k) (ones_in-mod n (x / 2)))

pub returns : goal.returns
returns c =
    let a = c.args in
    ap ones (mask-shifted a.n a.mask (omega (arith, c.requires))) ∙ sym (ones_in-ones a.n (a.mask % 2 ^ a.n) (mod-lt a.mask (pow_pos a.n))) ∙ ones_in-mod a.n a.mask
