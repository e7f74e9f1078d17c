-- The characters of a record's letters, each by its number: the definition reads a number and the number of its letter alike.
use mathlib.Core.Path.{◌≡◌, refl}
use Prim.Native.Nat.{ℕ, zero, suc}
use Rattle.kronecker.specs.Letters.{letter_number, letter_of}
use Rattle.listings.specs.Kronecker.{letter_byte}

pub letter_byte_numbered : (x : ℕ) → letter_byte (letter_number (letter_of x)) ≡ letter_byte x
unfolding letter_number letter_of letter_byte
letter_byte_numbered zero = refl
letter_byte_numbered (suc zero) = refl
letter_byte_numbered (suc (suc x)) = refl
