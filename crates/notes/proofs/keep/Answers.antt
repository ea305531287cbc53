use native.Mathlib.Omega.{arith}
use mathlib.Core.Path.{refl}
use Rattle.notes.proofs.NoteLaws.{keep_start, keep_end, keep_on}
use Rattle.notes.proofs.keep.Goals as goal

pub loop-j-init : goal.loop-j-init
loop-j-init c = (refl, keep_start _ _ _ _ _)

pub overflow_mul-j : goal.overflow_mul-j
overflow_mul-j c = omega (arith, c.requires.1)

pub overflow_add-at : goal.overflow_add-at
overflow_add-at c = omega (arith, c.requires.1)

pub note_value-requires : goal.note_value-requires
note_value-requires c = (c.requires.0, omega (arith, c.requires.1, c.loop-j.invariant.0))

pub loop-j-preserved : goal.loop-j-preserved
loop-j-preserved c = let w = c.loop-j.invariant in
    (omega (arith, c.room-1.given, w.0), keep_on _ _ _ _ _ c.loop-j.j _ w.1 refl c.note_value.ensures)

pub shape_of-room : goal.shape_of-room
shape_of-room c = c.loop-j.invariant.0

pub returns : goal.returns
returns c = let w = c.loop-j.invariant in
    keep_end _ _ _ _ c.loop-j.j _ (omega arith) (omega arith) w.1
