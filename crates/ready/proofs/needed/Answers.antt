use native.Mathlib.Omega.{arith}
use Rattle.ready.proofs.RegionLaws.{unmarked_past}
use Rattle.ready.specs.Regions.{marked_in}
use Rattle.rules.specs.Places.{wrong_if}
use Rattle.places.proofs.NumberLaws.{no_place}
use Rattle.ready.proofs.needed.Goals as goal

pub overflow_cast-own : goal.overflow_cast-own
overflow_cast-own c = omega (arith, c.shared_slice_known-1.given c.args.x)

pub returns-then-x-all : goal.returns-then-x-all
unfolding marked_in
returns-then-x-all c = c.wrong_if.ensures

pub returns : goal.returns
unfolding wrong_if
returns c = rw (unmarked_past c.args.marks.now c.args.region c.args.x c.requires c.if-x-all.false) no_place
