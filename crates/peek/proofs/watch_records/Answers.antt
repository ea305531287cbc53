use Prim.Native.Nat.{◌*◌, ◌/◌}
use mathlib.Core.Path.{◌≡◌}
use native.Mathlib.Omega.{arith}
use lib.ListN.{length, length-take, length-drop}
use Rattle.steps.proofs.StepLaws.{headed, small_bound}
use Rattle.noted.proofs.FillLaws.{noted_fresh}
use Rattle.steps.proofs.RunLaws.{stopped, ended}
use Rattle.peek.proofs.PeekLaws.{row_fits, row_small, watch_begun, watch_on, watch_stops, watch_ends}
use Rattle.peek.proofs.watch_records.Goals as goal

pub overflow_mul-width : goal.overflow_mul-width
overflow_mul-width c = omega (arith, c.requires.3)

pub loop-done-init : goal.loop-done-init
loop-done-init c = (watch_begun _ _ _ _ _ _ _ _ _ c.requires.0, noted_fresh _)

pub overflow_mul-from : goal.overflow_mul-from
overflow_mul-from c = let way = c.loop-done.invariant.0.way in omega (arith, way.within, way.all, c.requires.1)

pub overflow_add-to : goal.overflow_add-to
overflow_add-to c = let way = c.loop-done.invariant.0.way in omega (arith, way.within, way.all, c.requires.1)

pub slice_bounds-rec-count : goal.slice_bounds-rec-count
slice_bounds-rec-count c = omega arith

pub overflow_cast-done : goal.overflow_cast-done
overflow_cast-done c = let way = c.loop-done.invariant.0.way in omega (arith, way.within, way.all, c.requires.1)

pub record_verdict-found-requires : goal.record_verdict-found-requires
record_verdict-found-requires c = let way = c.loop-done.invariant.0.way in (headed way.going, simp (length-take, length-drop) (omega (arith, way.all)))

pub shape_of-st-in-Err : goal.shape_of-st-in-Err
shape_of-st-in-Err c = c.loop-done.invariant.0.way.cells

pub shape_of-out-in-Err : goal.shape_of-out-in-Err
shape_of-out-in-Err c = c.loop-done.invariant.0.way.room

pub shape_of-room-in-Err : goal.shape_of-room-in-Err
shape_of-room-in-Err c = c.loop-done.invariant.0.size

pub returns-in-Err : goal.returns-in-Err
returns-in-Err c = (stopped c.loop-done.invariant.0.way (omega arith) c.record_verdict-found.ensures c.in-Err.is, watch_stops c.loop-done.invariant.0 (omega arith) c.record_verdict-found.ensures c.in-Err.is)

pub overflow_mul-done : goal.overflow_mul-done
overflow_mul-done c = let way = c.loop-done.invariant.0.way in omega (arith, way.within, way.all, c.requires.1)

pub overflow_mul-width-in-loop-done : goal.overflow_mul-width-in-loop-done
overflow_mul-width-in-loop-done c = let way = c.loop-done.invariant.0.way in
    omega (arith, row_small (8 * length c.args.list.now) c.loop-done.done (omega (arith, c.requires.3)) (omega (arith, way.within, way.all, c.requires.1)))

pub watch_step-spent-requires : goal.watch_step-spent-requires
watch_step-spent-requires c = let way = c.loop-done.invariant.0.way in
    (way.going, simp (length-take, length-drop) (omega (arith, way.all)), omega (arith, way.room, way.all, c.requires.2), omega (arith, row_fits (8 * length c.args.list.now) c.loop-done.done (length c.args.recs.now / 40) (omega arith), c.requires.4, c.loop-done.invariant.0.size), c.loop-done.invariant.1)

pub overflow_cast-work : goal.overflow_cast-work
overflow_cast-work c = let way = c.loop-done.invariant.0.way in omega (arith, small_bound _ way.going.accepted, c.watch_step-spent.ensures.0.within)

pub overflow_add-work : goal.overflow_add-work
overflow_add-work c = let way = c.loop-done.invariant.0.way in
    omega (arith, way.fits, way.all, c.requires.1, small_bound _ way.going.accepted, c.watch_step-spent.ensures.0.within)

pub overflow_cast-done-in-loop-done : goal.overflow_cast-done-in-loop-done
overflow_cast-done-in-loop-done c = let way = c.loop-done.invariant.0.way in omega (arith, way.within, way.all, c.requires.1)

pub loop-done-preserved : goal.loop-done-preserved
loop-done-preserved c = (rw c.first_wrapped-mark.ensures (watch_on c.loop-done.invariant.0 (omega arith) c.record_verdict-found.ensures c.in_default.is c.watch_step-spent.ensures.2 c.watch_step-spent.ensures.0 c.watch_step-spent.ensures.1), c.watch_step-spent.ensures.3)

pub shape_of-st : goal.shape_of-st
shape_of-st c = c.loop-done.invariant.0.way.cells

pub shape_of-out : goal.shape_of-out
shape_of-out c = c.loop-done.invariant.0.way.room

pub shape_of-room : goal.shape_of-room
shape_of-room c = c.loop-done.invariant.0.size

pub returns : goal.returns
returns c = let all : c.loop-done.done ≡ length c.args.recs.now / 40 = omega (arith, c.loop-done.invariant.0.way.within) in
    (rw all at (ended c.loop-done.invariant.0.way (omega arith)), watch_ends c.loop-done.invariant.0 (omega arith))
