-- `lay_out` meets its contract: the lent part of `points` holds the first point of each block, and `offsets` the offset of each place.
use mathlib.Core.Path.{◌≡◌, ◌∙◌, sym, ap}
use mathlib.Core.List.{List}
use Prim.Native.Nat.{ℕ, ◌-◌, ◌*◌, ◌/◌, ◌%◌, ◌^◌}
use native.Mathlib.Omega.{arith}
use Rattle.numbers.specs.Bytes.{at, tabulate}
use Rattle.expansions.proofs.Split.{outside-lt}
use Rattle.lanes.specs.Inner.LaidOut.{LaidOut}
use Rattle.lanes.specs.Inner.Lanes.{places_byte}
use Rattle.lanes.specs.Inner.Sizes.{MixedSet}
use Rattle.lanes.specs.declared.sizes.Sizes.{Sizes}
use Rattle.lanes.proofs.expand.LaidOut.{placed-laid-out}
use Rattle.lanes.proofs.expand.Laying.{opened-long, opened-kept, points-long, points-room, laid_out}
use Rattle.lanes.proofs.expand.Room.{few, room-fits-again, room-counted-again}
use Rattle.lanes.proofs.expand.lay_out.Goals as goal

-- the words follow from the equation
in_words : (s : Sizes) (M : ℕ) (table lanes : List ℕ) → MixedSet s M
    → lanes ≡ tabulate (8 * 2 ^ (s.n - s.k)) (λ x. places_byte s.n s.k M (at table) (x % 8) (x / 8))
    → (lanes ≡ tabulate (8 * 2 ^ (s.n - s.k)) (λ x. places_byte s.n s.k M (at table) (x % 8) (x / 8))) × LaidOut s.n s.k M table lanes
in_words s M table lanes set e = (e, placed-laid-out s.n s.k M table set.size (few s) lanes e)

pub open_out-requires : goal.open_out-requires
open_out-requires c =
    (c.args.sizes.inputs, rw c.outside.ensures (outside-lt c.args.sizes.n c.args.mixed))

pub slice_bounds-points-end-2 : goal.slice_bounds-points-end-2
slice_bounds-points-end-2 c =
    let o = c.open_out in
    let long = opened-long c.args.sizes c.args.mixed _ o.new.points c.outside.ensures o.ensures in
    room-fits-again 1 c.args.sizes (omega arith) o.new.points _ long

pub slice_bounds-fill_lanes-end : goal.slice_bounds-fill_lanes-end
slice_bounds-fill_lanes-end c =
    let o = c.open_out in
    let long = opened-long c.args.sizes c.args.mixed _ o.new.points c.outside.ensures o.ensures in
    room-counted-again 1 c.args.sizes (omega arith) o.new.points _ long

pub fill_lanes-requires : goal.fill_lanes-requires
fill_lanes-requires c =
    let o = c.open_out in
    let others = c.outside.ensures in
    let first = opened-kept c.args.sizes c.args.mixed _ o.new.points others o.ensures _ in
    let places = c.open_out-2.ensures in (
      c.requires.table_len.1 ∙ ap (λ (x : ℕ). 8 * x) (sym (points-long c.args.sizes c.args.mixed _ _ c.requires.mixed_set first places)),
      λ q p hq hp. points-room c.args.sizes c.args.mixed _ _ c.requires.mixed_set first places _ q p c.requires.table_len.0 hq hp,
    )

pub returns : goal.returns
returns c =
    let o = c.open_out in
    let others = c.outside.ensures in
    let first = opened-kept c.args.sizes c.args.mixed _ o.new.points others o.ensures _ in
    let places = c.open_out-2.ensures in
    let w =
    in_words c.args.sizes c.args.mixed c.args.table.now _ c.requires.mixed_set
    (c.fill_lanes.ensures
    ∙ laid_out c.args.sizes c.args.mixed _ _ c.requires.mixed_set first places c.args.table.now _ c.requires.table_len.1) in
    record { lanes_after = w.0; places = w.1 }
