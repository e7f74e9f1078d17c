-- The letters of a record and their numbers, as document 02's definitions read them: S is 0, P is 1, N is 2.
use Rattle.std.specs.Prelude.{ℕ, zero, suc}
use Rattle.kronecker.specs.declared.letter.Letter.{Letter}
use Rattle.kronecker.specs.declared.letter.Letter.TheVariants.{Shannon, Positive, Negative}

-- the number of a letter
unfoldable pub letter_number : Letter → ℕ
letter_number Shannon = 0
letter_number Positive = 1
letter_number Negative = 2

-- the letter of a number: every number above 1 is read as N
unfoldable pub letter_of : ℕ → Letter
letter_of zero = Shannon
letter_of (suc zero) = Positive
letter_of (suc (suc x)) = Negative
