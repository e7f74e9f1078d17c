-- The design that a table text is for: n inputs, m outputs, the kind of k and the family. Document 02, W-202: "A k field of `K` selects it; the
-- reading call returns the kind of k.", W-203: "The reading call returns the family too", and W-207: "A k field of `f0`, `f1` or `f2` selects the free
-- class".
use Rattle.std.specs.Prelude.{ℕ, ◌≤◌, Err}
use Rattle.numbers.specs.declared.refusals.Refusal.TheVariants.{BrokenLine}
use Rattle.numbers.specs.Refusals.{Judgement, table_refusal, sizes_refusal}
use Rattle.expansions.specs.declared.families.Family.{Family}
use Rattle.expansions.specs.declared.families.Family.TheVariants.{One, Two}
use Rattle.expansions.specs.declared.kinds.Kind.{Kind}
use Rattle.expansions.specs.declared.kinds.Kind.TheVariants.{Mixed, Kronecker}
use Rattle.expansions.specs.Classes.{most_mixed}
use Rattle.table_texts.specs.declared.sizes.Sizes.{Sizes}
use Rattle.table_texts.specs.declared.sizes.Design.{Design}

-- the design with the sizes z, of either class
abbrev pub mixed_design : Sizes → Design
mixed_design z = record { n = z.n; m = z.m; kind = Mixed z.class z.k; family = z.family }

-- the design of n inputs and m outputs whose k field is `K`: "`K` is for `table` only"
abbrev pub kronecker_design : (n m : ℕ) → Design
kronecker_design n m = record { n = n; m = m; kind = Kronecker; family = One }

-- the refusal of n and m with each kind: a number k has the limit of its class, "`f` with a digit above 2 or above n is refusal 4", and "`K` is for
-- `table` only; with `table2` it is refusal 1"
abbrev pub kind_refusal : Family → ℕ → ℕ → Kind → Judgement
kind_refusal family n m (Mixed C k) = sizes_refusal n m (most_mixed C) k
kind_refusal One n m Kronecker = table_refusal n m
kind_refusal Two n m Kronecker = Err BrokenLine

-- "2. n is not 1 to 8. 3. m is not 1 to 8. 4. k is above 3 or above n.", before these 1 for `K` with `table2`: "In line 1 the order is 1, 2, 3, 4."
unfoldable pub design_refusal : Design → Judgement
design_refusal d = kind_refusal d.family d.n d.m d.kind

-- "k mixed inputs (0 to 3, at most n)", and in the free class 0 to 2, where the kind of k is a number
abbrev pub KindSized : ℕ → Kind → Type 0
KindSized n (Mixed C k) = (k ≤ most_mixed C) × (k ≤ n)
KindSized n Kronecker = Unit

-- "`K` is for `table` only"
abbrev pub KindFor : Family → Kind → Type 0
KindFor family (Mixed C k) = Unit
KindFor One Kronecker = Unit
KindFor Two Kronecker = ⊥

-- a design that is not refused (proofs/Design, `design-none`, `design-accepted`)
pub record DesignSized (d : Design) : Type 0 where
  pub inputs : (1 ≤ d.n) × (d.n ≤ 8)
  pub outputs : (1 ≤ d.m) × (d.m ≤ 8)
  pub mixed : KindSized d.n d.kind
  pub family : KindFor d.family d.kind
