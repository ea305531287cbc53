use mathlib.Core.Path.{◌∙◌, ap}
use mathlib.Core.Bool.{true}
use native.Mathlib.Omega.{arith}
use Prim.Native.Nat.{◌+◌}
use Rattle.rules.specs.Work.{noted, after}
use Rattle.outcomes.proofs.Counted.{more_fits, room_for, later_stuck, later_gives, later_plain, mark_later}
use Rattle.outcomes.proofs.later.Goals as goal

pub returns-then-r-eq0 : goal.returns-then-r-eq0
returns-then-r-eq0 c = later_stuck c.args.r c.args.w c.if-r-eq0.true

pub overflow_add-s-2 : goal.overflow_add-s-2
overflow_add-s-2 c = let w = c.args.w in
    omega (arith, more_fits c.args.r (w.work + 1) (room_for c.args.r c.if-r-eq0.false (w.work + 1) (omega (arith, c.requires.1))) (omega arith))

pub marked-requires : goal.marked-requires
marked-requires c = (later_plain c.args.r c.if-r-eq0.false c.args.w c.requires.0 c.requires.1).1

pub returns-then-w : goal.returns-then-w
returns-then-w c = let plain = later_plain c.args.r c.if-r-eq0.false c.args.w c.requires.0 c.requires.1 in
    (c.marked.ensures.0 ∙ ap (after (noted true)) plain.0 ∙ mark_later c.args.w _ c.if-w.true, c.marked.ensures.1)

pub returns : goal.returns
returns c = later_gives c.args.r c.if-r-eq0.false c.args.w c.if-w.false c.requires.0 c.requires.1
