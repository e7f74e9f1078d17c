-- What a judgement with no refusal says of a design: it is one of document 01 or 02 (`design-none`); and back (`design-accepted`). A design whose kind is a class
-- and a number k is the one with these sizes (`mixed-design`), which are within the limits of the class (`mixed-sized`). One whose kind is `K` is of
-- family one (`kronecker-design`).
use mathlib.Core.Bool.{Bool, true, false, ◌&&◌, false≢true}
use mathlib.Core.Path.{◌≡◌, refl, ap, ap₂, subst}
use Prim.Native.Nat.{ℕ, ◌≤◌}
use native.Mathlib.Omega.{arith}
use lib.Dec.{leb}
use Rattle.std.specs.Prelude.{Ok, is_ok}
use Rattle.numbers.specs.declared.refusals.Refusal.TheVariants.{InputCount, OutputCount}
use Rattle.numbers.specs.Refusals.{unless, table_refusal, TableSized, Sized}
use Rattle.numbers.proofs.refusals.Judging.{Passed, number_told, table_none, table-accepted, sizes-none, sizes-accepted, sizes-most}
use Rattle.expansions.specs.declared.families.Family.{Family}
use Rattle.expansions.specs.declared.families.Family.TheVariants.{One, Two}
use Rattle.expansions.specs.declared.kinds.Class.{Class}
use Rattle.expansions.specs.declared.kinds.Kind.{Kind}
use Rattle.expansions.specs.declared.kinds.Kind.TheVariants.{Mixed, Kronecker}
use Rattle.expansions.specs.Classes.{most_mixed}
use Rattle.table_texts.specs.declared.sizes.Sizes.{Sizes}
use Rattle.table_texts.specs.declared.sizes.Design.{Design}
use Rattle.table_texts.specs.Design.{mixed_design, kronecker_design, kind_refusal, design_refusal, KindSized, KindFor, DesignSized}

-- ---- no refusal

kind-none : (family : Family) (n m : ℕ) (x : Kind) → Passed (kind_refusal family n m x) → TableSized n m × KindSized n x × KindFor family x
kind-none family n m (Mixed C k) e = let s = sizes-none n m (most_mixed C) k e in (record { inputs = s.inputs; outputs = s.outputs }, s.mixed, tt)
kind-none One n m Kronecker e = (table_none n m e, tt, tt)
kind-none Two n m Kronecker e = absurd (false≢true (ap is_ok e))

pub design-none : (d : Design) → Passed (design_refusal d) → DesignSized d
unfolding design_refusal
design-none d e =
    let s = kind-none d.family d.n d.m d.kind e in
    record { inputs = s.0.inputs; outputs = s.0.outputs; mixed = s.1; family = s.2 }

kind-accepted : (family : Family) (n m : ℕ) (x : Kind) → TableSized n m → KindSized n x → KindFor family x → Passed (kind_refusal family n m x)
kind-accepted family n m (Mixed C k) s h g = sizes-accepted n m (most_mixed C) k (record { inputs = s.inputs; outputs = s.outputs; mixed = h })
kind-accepted One n m Kronecker s h g = table-accepted n m s
kind-accepted Two n m Kronecker s h g = absurd g

-- ---- n and m, and k where it is a number

pub table-sized : (d : Design) → DesignSized d → TableSized d.n d.m
table-sized d s = record { inputs = s.inputs; outputs = s.outputs }

pub mixed-sized : (d : Design) (C : Class) (k : ℕ) → d.kind ≡ Mixed C k → DesignSized d → Sized d.n d.m (most_mixed C) k
mixed-sized d C k e s = record { inputs = s.inputs; outputs = s.outputs; mixed = subst (KindSized d.n) e s.mixed }

-- a design whose kind is a class and a number k is the one with these sizes
pub mixed-design : (d : Design) (C : Class) (k : ℕ) → d.kind ≡ Mixed C k
    → d ≡ mixed_design (record { n = d.n; m = d.m; class = C; k = k; family = d.family })
mixed-design d C k e = ap (λ (x : Kind). record { n = d.n; m = d.m; kind = x; family = d.family }) e

kronecker-family : (family : Family) → KindFor family Kronecker → family ≡ One
kronecker-family One h = refl
kronecker-family Two h = absurd h

pub kronecker-design : (d : Design) → d.kind ≡ Kronecker → DesignSized d → d ≡ kronecker_design d.n d.m
kronecker-design d e s =
    ap₂ (λ (x : Kind) (family : Family). record { n = d.n; m = d.m; kind = x; family = family }) e
    (kronecker-family d.family (subst (KindFor d.family) e s.family))

pub sized-mixed : (z : Sizes) → Sized z.n z.m (most_mixed z.class) z.k → DesignSized (mixed_design z)
sized-mixed z s = record { inputs = s.inputs; outputs = s.outputs; mixed = s.mixed; family = tt }

pub design-accepted : (d : Design) → DesignSized d → Passed (design_refusal d)
unfolding design_refusal
design-accepted d s = kind-accepted d.family d.n d.m d.kind (table-sized d s) s.mixed s.family

-- ---- the number of a design's refusal is 1, 2, 3 or 4

table-most : (n m : ℕ) → number_told (table_refusal n m) ≤ 4
unfolding table_refusal
table-most n m = go (leb 1 n && leb n 8) (leb 1 m && leb m 8) where
  go : (a b : Bool) → number_told (unless a InputCount (unless b OutputCount (Ok tt))) ≤ 4
  go false b = omega arith
  go true false = omega arith
  go true true = omega arith

pub design-most : (d : Design) → number_told (design_refusal d) ≤ 4
unfolding design_refusal
design-most d = go d.family d.kind where
  go : (family : Family) (x : Kind) → number_told (kind_refusal family d.n d.m x) ≤ 4
  go family (Mixed C k) = sizes-most d.n d.m (most_mixed C) k
  go One Kronecker = table-most d.n d.m
  go Two Kronecker = omega arith
