-- The reading call in the documents' words: its answer and the lent table are as `ReadTable` says them, where they follow from the text (`read-words`).
use mathlib.Core.Bool.{Bool, true, false, cond}
use mathlib.Core.List.{List}
use mathlib.Core.Path.{◌≡◌, refl, sym, ap, ap₂, ◌∙◌}
use Prim.Native.Nat.{ℕ}
use borrow.Author.Tests.{eq-eqb, ne_eqb, eqb-true}
use lib.Dec.{eqb}
use lib.ListN.{length}
use Rattle.std.specs.Prelude.{Result, Ok, Err}
use Rattle.numbers.specs.declared.refusals.Refusal.{Refusal}
use Rattle.numbers.specs.declared.refusals.Refusal.TheVariants.{BufferLength}
use Rattle.numbers.specs.declared.refusals.Refused.{Refused}
use Rattle.numbers.specs.Refusals.{declined}
use Rattle.table_texts.specs.declared.sizes.Design.{Design}
use Rattle.table_texts.specs.Read.{ReadTable}
use Rattle.table_texts.specs.Inner.Reading.{Reading, given, refused, reading, lent, stands_for, table_after}
use Rattle.table_texts.proofs.Exactness.{accepted-exactly}
use Rattle.table_texts.proofs.Refusals.{text-refusals}
use Rattle.table_texts.proofs.read.Accepted.{no-refusal}

-- ---- what an answer stands for

answer-given : (r : Result Design Refused) (after : List ℕ) (d : Design) (t : List ℕ) → stands_for r after ≡ given d t → (r ≡ Ok d) × (after ≡ t)
unfolding stands_for
answer-given (Ok y) after d t e = let same : y ≡ d = cc in (ap Ok same, cc)
answer-given (Err e') after d t e = absurd (no-refusal e)

answer-refused : (r : Result Design Refused) (after : List ℕ) (why : Refusal) (l : ℕ) → stands_for r after ≡ refused why l → r ≡ Err (declined why l)
unfolding stands_for
answer-refused (Ok y) after why l e = absurd (no-refusal (sym e))
answer-refused (Err x) after why l e = let same : x.refusal ≡ why = cc in let at : x.line ≡ l = cc in ap₂ (λ (y : Refusal) (l : ℕ). Err (declined y l)) same at

-- ---- what is lent

lent-given : (x : Reading) (room : ℕ) (d : Design) (t : List ℕ) → lent x room ≡ given d t → (x ≡ given d t) × (room ≡ 256)
unfolding lent
lent-given (given y u) room d t e = go (eqb room 256) refl e where
  go : (b : Bool) → eqb room 256 ≡ b → cond b (given y u) (refused BufferLength 0) ≡ given d t → (given y u ≡ given d t) × (room ≡ 256)
  go true h f = (f, eqb-true room 256 h)
  go false h f = absurd (no-refusal f)
lent-given (refused why l) room d t e = absurd (no-refusal e)

lent-refused : (x : Reading) (room : ℕ) (why : Refusal) (line : ℕ) → x ≡ refused why line → lent x room ≡ refused why line
unfolding lent
lent-refused x room why line e = rw e

lent-short : (x : Reading) (room : ℕ) (d : Design) (t : List ℕ) → x ≡ given d t → (room ≡ 256 → ⊥) → lent x room ≡ refused BufferLength 0
unfolding lent
lent-short x room d t e none = rw (e, ne_eqb room 256 none)

lent-whole : (x : Reading) (room : ℕ) (d : Design) (t : List ℕ) → x ≡ given d t → room ≡ 256 → lent x room ≡ given d t
unfolding lent
lent-whole x room d t e h = rw (e, eq-eqb room 256 h)

-- ---- the call

pub read-words : (text before after : List ℕ) (r : Result Design Refused) → stands_for r after ≡ lent (reading text) (length before)
    → after ≡ table_after (lent (reading text) (length before)) before → ReadTable text before r after
unfolding stands_for table_after
read-words text before after r result table =
    record {
      result = result;
      table = table;
      accepted = λ d t. (
        (λ h.
            let e = lent-given (reading text) (length before) d t (sym result ∙ ap₂ stands_for h.0 h.1) in
            let a = (accepted-exactly text d t).0 e.0 in
            (a, e.1)),
        (λ h. answer-given r after d t (result ∙ lent-whole (reading text) (length before) d t ((accepted-exactly text d t).1 h.0) h.1)),
      );
      refusals =
          text-refusals text (λ why l. r ≡ Err (declined why l)) (λ why l e. answer-refused r after why l (result ∙ lent-refused (reading text) (length before) why l e));
      room = λ d t m none. answer-refused r after BufferLength 0 (result ∙ lent-short (reading text) (length before) d t ((accepted-exactly text d t).1 m) none);
      kept = λ x e.
          table ∙ ap (λ (y : Reading). table_after y before) (sym result ∙ ap (λ (y : Result Design Refused). stands_for y after) e);
    }
