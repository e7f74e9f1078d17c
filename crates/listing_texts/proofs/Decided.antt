-- Every listing beside a table whose k is a number is decided in document 02's words: it passes, or it meets one of the refusals that the check states
-- (`listing-decided`). So those words leave no listing out.
use mathlib.Core.Bool.{Bool, true, false, false≢true}
use mathlib.Core.List.{List, [], ◌∷◌, ◌++◌, append_assoc}
use mathlib.Core.Logic.{◌⊎◌, inl, inr}
use mathlib.Core.Path.{◌≡◌, refl, sym, ap, ◌∙◌}
use Prim.Native.Nat.{ℕ, suc, ◌^◌, ◌<◌}
use native.Mathlib.Decide.{dec_lt, ℕ_discrete}
use native.Mathlib.Omega.{arith}
use lib.ListN.{length, drop}
use Rattle.std.specs.Prelude.{Option, Some, None}
use Rattle.numbers.specs.declared.refusals.Refusal.{Refusal}
use Rattle.numbers.specs.declared.refusals.Refusal.TheVariants.{BrokenListing, UnlikeListing}
use Rattle.numbers.specs.Refusals.{Sized}
use Rattle.expansions.specs.Classes.{most_mixed}
use Rattle.expansions.specs.Costs.{products, literals}
use Rattle.listings.specs.Parts.{Parts, all, parts, bytes}
use Rattle.listings.specs.Listing.{tabbed, line, output_bytes, form_word, form_line, inv_line, term_lines, listing_with}
use Rattle.listings.proofs.Joined.{parts-lines}
use Rattle.listings.proofs.Meaning.{plain-outputs, plain-inv}
use Rattle.lines.specs.FirstBad.{line_after, end_line}
use Rattle.lines.proofs.FirstBad.{first-whole}
use Rattle.lines.proofs.TermsDecided.{TermsFollow, TermsDecided, terms-decided}
use Rattle.table_texts.specs.declared.sizes.Sizes.{Sizes}
use Rattle.listing_texts.specs.Form.{stated_fields, FormListing}
use Rattle.listing_texts.specs.Inv.{inv_said, NoInv}
use Rattle.listing_texts.specs.Read.{alike, beside_kronecker}
use Rattle.listing_texts.specs.Listings.{term_listing, Passes}
use Rattle.listing_texts.specs.FirstLines.{FirstLines}
use Rattle.listing_texts.specs.Refusals.{ListingRefusal, first, unlike, second, later, followed, counts}
use Rattle.listing_texts.proofs.Compared.{alike-sizes, alike_self}
use Rattle.listing_texts.proofs.InvRead.{inv-said, inv-read}
use Rattle.listing_texts.proofs.Opened.{split-joined}
use Rattle.listing_texts.proofs.BesideKronecker.{form-exactly, other-exactly, beside-either}

-- a listing passes, or is refused
abbrev ListingDecided : Sizes → List ℕ → Type 0
ListingDecided z s = Passes z s ⊎ ((why : Refusal) × (line : ℕ) × ListingRefusal z s why line)

-- ---- the second line

inv-first : (m v : ℕ) (s rest : List ℕ) → v < 2 ^ m → s ≡ inv_line m v ++ rest
    → (inv_said m (parts 10 s).first ≡ Some v) × ((parts 10 s).others ≡ [] → ⊥)
unfolding inv_line
inv-first m v s rest h e =
    let split : parts 10 s ≡ record { first = bytes "inv" ++ tabbed (output_bytes m v ∷ []); others = all (parts 10 rest) } =
    ap (parts 10) e ∙ parts-lines (bytes "inv") (output_bytes m v ∷ []) rest plain-inv (plain-outputs m v, tt) in
    (rw split (inv-said m v h), λ none. omega (arith, ap length (sym none ∙ ap (λ (x : Parts). x.others) split)))

-- a second line says a mask, or there is none
has-inv : (m : ℕ) (s : List ℕ) → ((v : ℕ) × (rest : List ℕ) × (v < 2 ^ m) × (s ≡ inv_line m v ++ rest)) ⊎ NoInv m s
unfolding inv_line
has-inv m s = go (dec_lt (length (parts 10 s).first) (length s)) where
  by-line : length (parts 10 s).first < length s → (x : Option ℕ) → inv_said m (parts 10 s).first ≡ x
      → ((v : ℕ) × (rest : List ℕ) × (v < 2 ^ m) × (s ≡ inv_line m v ++ rest)) ⊎ NoInv m s
  by-line h (Some v) says =
      let inv = inv-read m (parts 10 s).first v says in
      inl (v, drop (suc (length (parts 10 s).first)) s, inv.1, split-joined s h (bytes "inv") (output_bytes m v ∷ []) inv.0)
  by-line h None says = inr (λ v rest l e. cc ((inv-first m v s rest l e).0))

  go : Dec (length (parts 10 s).first < length s) → ((v : ℕ) × (rest : List ℕ) × (v < 2 ^ m) × (s ≡ inv_line m v ++ rest)) ⊎ NoInv m s
  go (yes h) = by-line h (inv_said m (parts 10 s).first) refl
  go (no h) = inr (λ v rest l e. (inv-first m v s rest l e).1 (first-whole s (omega arith)).0)

-- ---- the later lines

module _ (z : Sizes) (s : List ℕ) (sized : Sized z.n z.m (most_mixed z.class) z.k) where
  -- lines that pass, the `end` line and the counts of the lines
  all_pass : (g : FirstLines z s) → g.rest ≡ end_line → g.form.products ≡ products z.n g.coefficient → g.form.literals ≡ literals z.n g.coefficient → Passes z s
  unfolding term_listing listing_with form_line
  all_pass g e p l =
      record {
        inverted = g.inverted;
        mixed = g.form.mixed;
        fixed = g.form.fixed;
        polarity = g.polarity;
        coefficient = g.coefficient;
        mask = g.mask;
        mixed_digits = g.digits.mixed;
        fixed_digits = g.digits.fixed;
        outputs = g.outputs;
        characters = g.characters ∙ rw (g.lines, e, g.sizes, p, l);
      }

  counted : (g : FirstLines z s) → g.rest ≡ end_line → ListingDecided z s
  counted g e = go (ℕ_discrete g.form.products (products z.n g.coefficient)) (ℕ_discrete g.form.literals (literals z.n g.coefficient)) where
    go : Dec (g.form.products ≡ products z.n g.coefficient) → Dec (g.form.literals ≡ literals z.n g.coefficient) → ListingDecided z s
    go (yes p) (yes l) = inl (all_pass g e p l)
    go (no p) d = inr (UnlikeListing, 1, counts g (e, λ h. p h.0))
    go (yes p) (no l) = inr (UnlikeListing, 1, counts g (e, λ h. l h.1))

  from-third : (l : FormListing s) → l.form.sizes ≡ z → (v : ℕ) (rest : List ℕ) → v < 2 ^ z.m → l.rest ≡ inv_line z.m v ++ rest → TermsDecided z.n z.m rest
      → ListingDecided z s
  from-third l same v rest h e c = go c.follows where
    one : List ℕ
    one = line (form_word l.form.sizes.family) (stated_fields l.form)

    terms : List ℕ
    terms = term_lines z.n z.m c.polarity c.coefficient (2 ^ z.n)

    g : FirstLines z s
    g =
        record {
          form = l.form;
          digits = l.digits;
          sizes = same;
          inverted = v;
          mask = h;
          polarity = c.polarity;
          coefficient = c.coefficient;
          outputs = c.outputs;
          before = one ++ inv_line z.m v ++ terms;
          rest = c.rest;
          lines = refl;
          characters =
              l.characters ∙ ap (λ (r : List ℕ). one ++ r) (e ∙ ap (λ (r : List ℕ). inv_line z.m v ++ r) c.characters)
              ∙ sym (append_assoc (one ++ inv_line z.m v) terms c.rest ∙ append_assoc one (inv_line z.m v) (terms ++ c.rest));
        }

    go : TermsFollow z.n z.m c.coefficient c.rest → ListingDecided z s
    go (TermsFollow.ends f) = counted g f
    go (TermsFollow.bad none unended) = inr (BrokenListing, line_after g.before, later g (none, unended))
    go (TermsFollow.continues b more f) = inr (BrokenListing, line_after (g.before ++ end_line), followed g b more f)

  -- ---- the first line

  by_form : (l : FormListing s) → (b : Bool) → alike z l.form.sizes ≡ b → ListingDecided z s
  by_form l true a = go (has-inv z.m l.rest) where
    same : l.form.sizes ≡ z
    same = (alike-sizes z l.form.sizes a).1

    go : ((v : ℕ) × (rest : List ℕ) × (v < 2 ^ z.m) × (l.rest ≡ inv_line z.m v ++ rest)) ⊎ NoInv z.m l.rest → ListingDecided z s
    go (inl x) = from-third l same x.0 x.1 x.2 x.3 (terms-decided z.n z.m sized.inputs.1 sized.outputs.1 x.1)
    go (inr none) = inr (BrokenListing, 2, second l same none)
  by_form l false a = inr (UnlikeListing, 1, unlike l (λ e. false≢true (sym a ∙ ap (alike z) e ∙ alike_self z sized)))

  pub listing-decided : Passes z s ⊎ ((why : Refusal) × (line : ℕ) × ListingRefusal z s why line)
  listing-decided = go (beside-either s) where
    go : (beside_kronecker s ≡ BrokenListing) ⊎ (beside_kronecker s ≡ UnlikeListing) → ListingDecided z s
    go (inl e) = inr (BrokenListing, 1, first ((other-exactly s).0 e))
    go (inr e) = let l = (form-exactly s).0 e in by_form l (alike z l.form.sizes) refl
