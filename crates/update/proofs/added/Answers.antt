use mathlib.Core.List.{[]}
use mathlib.Core.Path.{◌∙◌}
use native.Mathlib.Omega.{arith}
use Rattle.rules.specs.Work.{moved, afterᵘ}
use Rattle.moves.proofs.NumberLaws.{moved_stuck}
use Rattle.update.specs.Passes.{keeping, quietly}
use Rattle.update.proofs.PassLaws.{added_stays, added_jumps, fits_stays, fits_jumps}
use Rattle.update.proofs.added.Goals as goal

pub returns-then-o-eq0 : goal.returns-then-o-eq0
unfolding moved quietly keeping afterᵘ
returns-then-o-eq0 c = λ st. rw (c.if-o-eq0.true, moved_stuck)

pub overflow_add-s : goal.overflow_add-s
overflow_add-s c = omega (arith, c.requires.still (omega arith) (omega arith))

pub after-requires : goal.after-requires
after-requires c = fits_stays c.args.s c.args.o c.requires c.seen_in-seen.ensures [] (omega arith) (omega arith)

pub returns-then-o-lt1048576 : goal.returns-then-o-lt1048576
returns-then-o-lt1048576 c = λ st. c.after.ensures.0 st ∙ added_stays c.args.s c.args.o c.requires c.seen_in-seen.ensures st (omega arith) (omega arith)

pub after-requires-2 : goal.after-requires-2
after-requires-2 c = fits_jumps c.args.s c.args.o c.requires c.seen_in-seen.ensures [] (omega arith)

pub returns : goal.returns
returns c = λ st. c.after-2.ensures.0 st ∙ added_jumps c.args.s c.args.o c.requires c.seen_in-seen.ensures st (omega arith)
