use Rattle.promises.specs.Run.{work_in}
use Prim.Native.Nat.{◌/◌}
use mathlib.Core.Path.{◌≡◌}
use native.Mathlib.Omega.{arith}
use lib.ListN.{length, length-take, length-drop}
use Rattle.steps.proofs.StepLaws.{headed, small_bound}
use Rattle.steps.proofs.RunLaws.{begun, goes_on, stopped, ended, worked}
use Rattle.steps.proofs.run_records.Goals as goal

pub loop-done-init : goal.loop-done-init
loop-done-init c = (begun _ _ _ _ _ _ _ c.requires.0, c.requires.3)

pub overflow_mul-from : goal.overflow_mul-from
overflow_mul-from c = omega (arith, c.loop-done.invariant.0.within, c.loop-done.invariant.0.all, c.requires.1)

pub overflow_add-to : goal.overflow_add-to
overflow_add-to c = omega (arith, c.loop-done.invariant.0.within, c.loop-done.invariant.0.all, c.requires.1)

pub slice_bounds-rec-count : goal.slice_bounds-rec-count
slice_bounds-rec-count c = omega arith

pub overflow_cast-done : goal.overflow_cast-done
overflow_cast-done c = omega (arith, c.loop-done.invariant.0.within, c.loop-done.invariant.0.all, c.requires.1)

pub record_verdict-found-requires : goal.record_verdict-found-requires
record_verdict-found-requires c = (headed c.loop-done.invariant.0.going, simp (length-take, length-drop) (omega (arith, c.loop-done.invariant.0.all)))

pub shape_of-st-in-Err : goal.shape_of-st-in-Err
shape_of-st-in-Err c = c.loop-done.invariant.0.cells

pub shape_of-out-in-Err : goal.shape_of-out-in-Err
shape_of-out-in-Err c = c.loop-done.invariant.0.room

pub returns-in-Err : goal.returns-in-Err
unfolding work_in
returns-in-Err c = let way = c.loop-done.invariant.0 in
    (stopped way (omega arith) c.record_verdict-found.ensures c.in-Err.is, way.going, worked way, c.loop-done.invariant.1)

pub overflow_mul-done : goal.overflow_mul-done
overflow_mul-done c = let way = c.loop-done.invariant.0 in omega (arith, way.within, way.all, c.requires.1)

pub make_step-spent-requires : goal.make_step-spent-requires
make_step-spent-requires c = let way = c.loop-done.invariant.0 in
    (way.going, simp (length-take, length-drop) (omega (arith, way.all)), omega (arith, way.room, way.all, c.requires.2), c.loop-done.invariant.1)

pub overflow_cast-work : goal.overflow_cast-work
overflow_cast-work c = let way = c.loop-done.invariant.0 in
    omega (arith, small_bound _ way.going.accepted, c.make_step-spent.ensures.0.within)

pub overflow_add-work : goal.overflow_add-work
overflow_add-work c = let way = c.loop-done.invariant.0 in
    omega (arith, way.fits, way.all, c.requires.1, small_bound _ way.going.accepted, c.make_step-spent.ensures.0.within)

pub overflow_cast-done-in-loop-done : goal.overflow_cast-done-in-loop-done
overflow_cast-done-in-loop-done c = omega (arith, c.loop-done.invariant.0.within, c.loop-done.invariant.0.all, c.requires.1)

pub loop-done-preserved : goal.loop-done-preserved
loop-done-preserved c = (rw c.first_wrapped-mark.ensures (goes_on c.loop-done.invariant.0 (omega arith) c.record_verdict-found.ensures c.in_default.is c.make_step-spent.ensures.0 c.make_step-spent.ensures.1), c.make_step-spent.ensures.2)

pub shape_of-st : goal.shape_of-st
shape_of-st c = c.loop-done.invariant.0.cells

pub shape_of-out : goal.shape_of-out
shape_of-out c = c.loop-done.invariant.0.room

pub returns : goal.returns
unfolding work_in
returns c = let all : c.loop-done.done ≡ length c.args.recs.now / 40 = omega (arith, c.loop-done.invariant.0.within) in
    (rw all at (ended c.loop-done.invariant.0 (omega arith)), c.loop-done.invariant.0.going, worked c.loop-done.invariant.0, c.loop-done.invariant.1)
