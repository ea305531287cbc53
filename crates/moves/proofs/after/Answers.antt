use mathlib.Core.Path.{◌∙◌, ap}
use mathlib.Core.Bool.{true}
use native.Mathlib.Omega.{arith}
use Rattle.rules.specs.Work.{moved, noted, afterᵘ}
use Rattle.moves.specs.Outcomes.{count_in}
use Rattle.moves.proofs.NumberLaws.{moved_stuck, more_fits, more_moved, more_count, after_parts, after_plain}
use Rattle.moves.proofs.after.Goals as goal

pub returns-then-r-eq0 : goal.returns-then-r-eq0
unfolding moved afterᵘ count_in
returns-then-r-eq0 c = (λ st. rw (c.if-r-eq0.true, moved_stuck), omega arith)

pub overflow_add-s : goal.overflow_add-s
overflow_add-s c = omega (arith, more_fits c.args.r c.args.u.work c.requires (omega arith))

pub returns-then-u : goal.returns-then-u
returns-then-u c = let u = c.args.u in
    let r = c.args.r in (
      λ st. c.marked.ensures.0 st ∙ ap (afterᵘ (noted true)) (more_moved r u.work c.requires (omega arith) st) ∙ after_parts u _ c.if-u.true,
      omega (arith, c.marked.ensures.1, more_count r u.work c.requires),
    )

pub returns : goal.returns
returns c = let u = c.args.u in
    let r = c.args.r in
    (λ st. more_moved r u.work c.requires (omega arith) st ∙ after_plain u _ c.if-u.false, omega (arith, more_count r u.work c.requires))
