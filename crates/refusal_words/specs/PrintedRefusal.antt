-- The refusal that a program printed. Document 01: "writes the listing, or the line `refused`, number, line." Document 02, W-201: "is 11 with its line in the
-- listing", and 12, "with line 1", is of the listing too; the numbers up to 10 are not.
use Rattle.std.specs.Prelude.{Bool, cond, ◌&&◌, List, ℕ, ltb, eqb, Option, Some, None}
use Rattle.listings.specs.Parts.{bytes, field}
use Rattle.fields.specs.Fields.{and_then, headed, number}
use Rattle.refusal_words.specs.declared.refusal.ToldRefusal.{ToldRefusal}
use Rattle.refusal_words.specs.Causes.{line_at}

-- the number that field j of what is printed says, where its first line is "the line `refused`, number, line"; else 0
unfoldable pub told : ℕ → List ℕ → ℕ
told j printed =
    cond (headed 3 (bytes "refused") (line_at 1 printed)) (and_then (number 4 (field j (line_at 1 printed))) 0 (λ v. v)) 0

-- the refusal is of the listing, and not of the table text
abbrev pub of_listing : ℕ → Bool
of_listing number = ltb 10 number

-- the refusal that what is printed tells: none where the number and the line told are 0, and else the number told, the line told, and of which text it is;
-- number 0 is no refusal
unfoldable pub told_refusal : List ℕ → Option ToldRefusal
told_refusal printed =
    cond (eqb (told 1 printed) 0 && eqb (told 2 printed) 0) None
    (Some (record { number = told 1 printed; line = told 2 printed; listing = of_listing (told 1 printed) }))
