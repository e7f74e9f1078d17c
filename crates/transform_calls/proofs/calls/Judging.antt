-- When a transform call is carried out: a judgement with no refusal says that every test has passed (`refusal-none`).
use mathlib.Core.Path.{◌≡◌}
use mathlib.Core.Bool.{◌&&◌}
use mathlib.Core.List.{List}
use Prim.Native.Nat.{ℕ, ◌^◌, ◌<◌}
use lib.Dec.{T, ltb, eqb, ltb→lt, eqb→eq}
use lib.ListN.{length}
use Rattle.numbers.specs.Bytes.{all_below}
use Rattle.numbers.specs.Refusals.{table_refusal, TableSized}
use Rattle.numbers.proofs.Tests.{and_left, and_right}
use Rattle.numbers.specs.declared.refusals.Refusal.TheVariants.{PolarityRange, BufferLength, HighBit}
use Rattle.numbers.proofs.refusals.Judging.{Passed, passed, or_else_none, table_none}
use Rattle.transform_calls.specs.Calls.{transform_refusal}

-- every test has passed
pub record Accepted (n m w : ℕ) (given : List ℕ) (lent : ℕ) : Type 0 where
  pub sizes : TableSized n m
  pub polarity : w < 2 ^ n
  pub given_long : length given ≡ 2 ^ n
  pub lent_long : lent ≡ 2 ^ n
  pub clean : T (all_below (2 ^ m) given)

pub refusal-none : (n m w : ℕ) (given : List ℕ) (lent : ℕ) → Passed (transform_refusal n m w given lent) → Accepted n m w given lent
unfolding transform_refusal
refusal-none n m w given lent e =
    let a = or_else_none (table_refusal n m) _ e in
    let c = passed (ltb w (2 ^ n)) PolarityRange _ a.1 in
    let d = passed (eqb (length given) (2 ^ n) && eqb lent (2 ^ n)) BufferLength _ c.1 in
    let f = passed (all_below (2 ^ m) given) HighBit _ d.1 in
    record {
      sizes = table_none n m a.0;
      polarity = ltb→lt w (2 ^ n) c.0;
      given_long = eqb→eq (length given) (2 ^ n) (and_left (eqb (length given) (2 ^ n)) (eqb lent (2 ^ n)) d.0);
      lent_long = eqb→eq lent (2 ^ n) (and_right (eqb (length given) (2 ^ n)) (eqb lent (2 ^ n)) d.0);
      clean = f.0;
    }
