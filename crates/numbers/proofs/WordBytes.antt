-- The library's bytes of a word are this repository's: `u64::from_le_bytes` joins eight bytes to their word, and `u64::to_le_bytes` takes a word apart.
use mathlib.Core.Path.{◌≡◌, refl}
use mathlib.Core.List.{List}
use Prim.Native.Nat.{ℕ}
use native.Mathlib.Nat.{div-one}
use native.Mathlib.Omega.{arith}
use Rattle.std.specs.Int.{w64, from_le_bytes, to_le_bytes}
use Rattle.numbers.specs.Bytes.{at, tabulate}
use Rattle.numbers.specs.Words.{word, byte}

pub word-from_le_bytes : (bytes : List ℕ) → from_le_bytes w64 bytes ≡ word 8 (at bytes)
unfolding word
word-from_le_bytes bytes = omega arith

pub tabulate-to_le_bytes : (x : ℕ) → to_le_bytes w64 x ≡ tabulate 8 (λ o. byte o x)
unfolding tabulate byte
tabulate-to_le_bytes x = rw (div-one x) refl
