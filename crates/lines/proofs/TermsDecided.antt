-- The lines of a listing after its second are decided in words: `term` lines stand in front, ascending by t, and what follows them is the `end` line, or what
-- may not follow (`terms-decided`).
use mathlib.Core.List.{List, [], ◌∷◌, ◌++◌}
use mathlib.Core.Path.{◌≡◌, sym, ap, ◌∙◌}
use Prim.Native.Nat.{ℕ, ◌+◌, ◌*◌, ◌/◌, ◌%◌, ◌^◌, ◌≤◌, ◌<◌}
use lib.Bits.{bit_and}
use Rattle.numbers.specs.Bytes.{at}
use Rattle.numbers.proofs.Shifts.{points-le}
use Rattle.listings.specs.Parts.{parts, bytes}
use Rattle.listings.specs.Listing.{cube, output_bytes, term_line, term_lines}
use Rattle.std.specs.Prelude.{Option, Some}
use Rattle.lines.specs.declared.rows.RowLine.{RowLine}
use Rattle.lines.specs.declared.rows.RowLine.TheVariants.{Row}
use Rattle.lines.specs.Rows.{listing_grammar, row_line}
use Rattle.lines.specs.FirstBad.{Above, end_line, NoEnd, NoTerm}
use Rattle.lines.proofs.RowLines.{TermValue, listing-kind}
use Rattle.lines.proofs.FirstBad.{row_first, end-first}
use Rattle.lines.proofs.Decided.{Follows, Decided, decided}
use Rattle.lines.proofs.Terms.{term_rows, lines-read, value_written, line-value}

-- what follows the `term` lines
pub data TermsFollow (n m : ℕ) (c : ℕ → ℕ) (rest : List ℕ) : Type 0 where
  ends : rest ≡ end_line → TermsFollow n m c rest
  bad : NoTerm n m c rest → NoEnd rest → TermsFollow n m c rest
  continues : (b : ℕ) (more : List ℕ) → rest ≡ end_line ++ b ∷ more → TermsFollow n m c rest

pub record TermsDecided (n m : ℕ) (s : List ℕ) : Type 0 where
  pub polarity : ℕ → ℕ
  pub coefficient : ℕ → ℕ
  pub rest : List ℕ
  pub outputs : (t : ℕ) → t < 2 ^ n → coefficient t < 2 ^ m
  pub characters : s ≡ term_lines n m polarity coefficient (2 ^ n) ++ rest
  pub follows : TermsFollow n m coefficient rest

module _ (n m : ℕ) (hn : n ≤ 8) (hm : m ≤ 8) where
  abbrev fields : ℕ → ℕ → List (List ℕ)
  fields u v = cube n u (v / 256) ∷ output_bytes m (v % 256) ∷ []

  low : 2 ^ n ≤ 256
  low = points-le n hn

  -- a `term` line says its term
  term-first : (s : List ℕ) (t w x : ℕ) (more : List ℕ) → t < 2 ^ n → x < 2 ^ m → (x ≡ 0 → ⊥) → s ≡ term_line n m t w x ++ more
      → row_line (listing_grammar n m) (parts 10 s).first ≡ Some (Row t (bit_and t w * 256 + x))
  term-first s t w x more h small some e =
      (row_first n (row_line (listing_grammar n m)) (bytes "term") fields (TermValue n m) (listing-kind n m hn hm) low s t (bit_and t w * 256 + x) more
      (value_written m t w x hm small n hn h some) (e ∙ ap (λ (l : List ℕ). l ++ more) (sym (line-value n m t w x hm small)))).0

  same-term : {p v t x : ℕ} → ◌≡◌ {A = Option RowLine} (Some (Row p v)) (Some (Row t x)) → p ≡ t
  same-term e = cc

  pub terms-decided : (s : List ℕ) → TermsDecided n m s
  terms-decided s = go (decided n (row_line (listing_grammar n m)) (bytes "term") fields (TermValue n m) (listing-kind n m hn hm) low s) where
    go : Decided n (row_line (listing_grammar n m)) (bytes "term") fields (TermValue n m) (listing-kind n m hn hm) low s → TermsDecided n m s
    go c =
        record {
          polarity = λ t. at c.values t / 256;
          coefficient = λ t. at c.values t % 256;
          rest = c.rest;
          outputs = (term_rows n m c.values c.held).outputs;
          characters = c.characters ∙ ap (λ (l : List ℕ). l ++ c.rest) (lines-read n m c.values c.held);
          follows = follow c.follows;
        }
      where
        above-all : (t : ℕ) → Above (2 ^ n) (λ q. at c.values q % 256) t → Above (2 ^ n) (at c.values) t
        above-all t above q l some = above q l (λ z. some ((term_rows n m c.values c.held).listed q z))

        follow : Follows n (row_line (listing_grammar n m)) (bytes "term") fields (TermValue n m) (listing-kind n m hn hm) low c.values c.rest
            → TermsFollow n m (λ t. at c.values t % 256) c.rest
        follow (Follows.ends e) = ends e
        follow (Follows.begins none unended) =
            bad
            (λ t w x more h above small some e.
            none t (bit_and t w * 256 + x) more (value_written m t w x hm small n hn h some) (e ∙ ap (λ (l : List ℕ). l ++ more) (sym (line-value n m t w x hm small))))
            unended
        follow (Follows.misplaced p v more value none e) =
            let said = (row_first n (row_line (listing_grammar n m)) (bytes "term") fields (TermValue n m) (listing-kind n m hn hm) low c.rest p v more value e).0 in
            bad
            (λ t w x other h above small some f.
            let same : p ≡ t = same-term (sym said ∙ term-first c.rest t w x other h small some f) in
            none (rw same h) (rw same (above-all t above)))
            (λ other f. cc ((end-first n (row_line (listing_grammar n m)) (bytes "term") fields (TermValue n m) (listing-kind n m hn hm) low c.rest other f).0, said))
        follow (Follows.continues b more e) = continues b more e
